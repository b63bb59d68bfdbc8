-- Request 3, "the lowest stack pointer reached since opening": what a step and a run leave in the register, as statements. Each is proved by the law
-- of its name in proofs/Lowest. Above: Demands; below: Run, and Sound for an opening.
use Rattle.std.specs.Prelude.{ℕ, ◌≤◌, min, ◌≡◌, List, ◌↔◌, ◌⊎◌, true, false}
use Rattle.pmachine.specs.State.{Registers, Kind, State}
use Rattle.pmachine.specs.Run.{is_ready, step, run}
use Rattle.pmachine.specs.Step.{floor}
use Rattle.pmachine.specs.Sound.{in_range, opened}

-- One step from any state that is ready: if the session goes on, the lesser of the number before and of SP after it; else the number before.
abbrev pub StepLowest : Type 0
StepLowest =
    (s shared : List ℕ) (t : State) → is_ready t.kind ≡ true
    → (is_ready (step s shared t).kind ≡ true
    → (step s shared t).registers.lowest ≡ min t.registers.lowest (step s shared t).registers.sp)
    × (is_ready (step s shared t).kind ≡ false → (step s shared t).registers.lowest ≡ t.registers.lowest)

-- After some number of steps, from 1 to k, the session went on and its SP was x.
pub record Reached (s shared : List ℕ) (k : ℕ) (t : State) (x : ℕ) : Type 0 where
  pub steps : ℕ
  pub some : 1 ≤ steps
  pub most : steps ≤ k
  pub went : is_ready (run s shared steps t).kind ≡ true
  pub there : (run s shared steps t).registers.sp ≡ x

-- A run of k steps from any state: the least of the number before and of SP after each step that went on. No greater than any of them, and one of them.
pub record Least (s shared : List ℕ) (k : ℕ) (t : State) : Type 0 where
  pub before : (run s shared k t).registers.lowest ≤ t.registers.lowest
  pub each : (x : ℕ) → Reached s shared k t x → (run s shared k t).registers.lowest ≤ x
  pub one : ((run s shared k t).registers.lowest ≡ t.registers.lowest) ⊎ Reached s shared k t (run s shared k t).registers.lowest

abbrev pub RunLowest : Type 0
RunLowest = (s shared : List ℕ) (k : ℕ) (t : State) → Least s shared k t

-- From a state whose SP is the lowest there was: the least SP of all that the session had, from before its first step on to after its last, and it had it.
pub record Deepest (s shared : List ℕ) (k : ℕ) (t : State) : Type 0 where
  pub each : (j : ℕ) → j ≤ k → (run s shared k t).registers.lowest ≤ (run s shared j t).registers.sp
  pub steps : ℕ
  pub most : steps ≤ k
  pub there : (run s shared steps t).registers.sp ≡ (run s shared k t).registers.lowest

abbrev pub FreshLowest : Type 0
FreshLowest = (s shared : List ℕ) (k : ℕ) (t : State) → t.registers.lowest ≡ t.registers.sp → Deepest s shared k t

-- so from an opening, on any segment with any number of words
abbrev pub OpeningLowest : Type 0
OpeningLowest = (s shared : List ℕ) (l k : ℕ) → Deepest s shared k (opened s l)

-- "A sound bench now also has this mark in 6+G..SP": exactly. In the place of a sound one another number is sound if, and only if, it lies there.
abbrev pub with_lowest : Registers → ℕ → Registers
with_lowest r x = record { sp = r.sp; m = r.m; counter = r.counter; routine = r.routine; lowest = x }

abbrev pub SoundLowest : Type 0
SoundLowest =
    (s : List ℕ) (l : ℕ) (r : Registers) (k : Kind) (x : ℕ) → in_range s l r k ≡ true
    → (in_range s l (with_lowest r x) k ≡ true) ↔ ((floor s ≤ x) × (x ≤ r.sp))
