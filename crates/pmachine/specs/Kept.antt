-- What a step and a run keep, and how runs and their counts add up: the statements. Each is proved by the law of its name in proofs/: Frame (step-kept),
-- Keeps (step-keeps, run-keeps) and Runs (the others). Above: session, bench and their promises; below: Run, Sound.
use Rattle.std.specs.Prelude.{ℕ, ◌+◌, ◌≤◌, ◌<◌, ◌≡◌, List, true, false, length}
use Rattle.pmachine.specs.State.{State}
use Rattle.pmachine.specs.Run.{is_ready, step, run, steps_done}
use Rattle.pmachine.specs.Sound.{in_range, Loaded}

-- "Only the session's kind changes": a step that faults or finishes leaves words and registers as they were.
abbrev pub StepKept : Type 0
StepKept =
    (s shared : List ℕ) (t : State) → is_ready t.kind ≡ true → is_ready (step s shared t).kind ≡ false
    → ((step s shared t).words ≡ t.words) × ((step s shared t).registers ≡ t.registers)

-- A session of l words, on a segment that passed the checks, in the ranges that soundness names: after a step it is in them, and after a turn.
abbrev pub StepKeeps : Type 0
StepKeeps =
    (s shared : List ℕ) (l : ℕ) → Loaded s → (t : State) → length t.words ≡ l → in_range s l t.registers t.kind ≡ true
    → in_range s l (step s shared t).registers (step s shared t).kind ≡ true

abbrev pub RunKeeps : Type 0
RunKeeps =
    (s shared : List ℕ) (l : ℕ) → Loaded s → (k : ℕ) (t : State) → length t.words ≡ l → in_range s l t.registers t.kind ≡ true
    → in_range s l (run s shared k t).registers (run s shared k t).kind ≡ true

-- A turn of a steps and then one of b steps are a turn of a + b steps, and the steps done add up.
abbrev pub RunAdd : Type 0
RunAdd = (s shared : List ℕ) (a b : ℕ) (t : State) → run s shared (a + b) t ≡ run s shared b (run s shared a t)

abbrev pub CountAdd : Type 0
CountAdd =
    (s shared : List ℕ) (a b : ℕ) (t : State)
    → steps_done s shared (a + b) t ≡ steps_done s shared a t + steps_done s shared b (run s shared a t)

-- "It returns the steps done": no more than k; all k where the session is still ready; fewer only where it is not; and a turn is those steps.
abbrev pub CountMost : Type 0
CountMost = (s shared : List ℕ) (k : ℕ) (t : State) → steps_done s shared k t ≤ k

abbrev pub CountAll : Type 0
CountAll = (s shared : List ℕ) (k : ℕ) (t : State) → is_ready (run s shared k t).kind ≡ true → steps_done s shared k t ≡ k

abbrev pub CountLess : Type 0
CountLess = (s shared : List ℕ) (k : ℕ) (t : State) → steps_done s shared k t < k → is_ready (run s shared k t).kind ≡ false

abbrev pub CountRun : Type 0
CountRun = (s shared : List ℕ) (k : ℕ) (t : State) → run s shared k t ≡ run s shared (steps_done s shared k t) t
