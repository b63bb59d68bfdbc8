-- The machine's transitions: one step, and a turn of k steps with the number of steps done.
-- Above: the laws in proofs/, and the contracts of plan and machine; below: Step.
use Rattle.std.specs.Prelude.{ℕ, zero, suc, ◌+◌, Bool, true, false, cond, List, [], ◌∷◌, set, eqb}
use Rattle.pmachine.specs.Decoding.{fetches_to}
use Rattle.pmachine.specs.State.{Registers, Kind, ready, finished, faulted, State}
use Rattle.pmachine.specs.Step.{Outcome, fault, finish, goes, judge}

unfoldable pub is_ready : Kind → Bool
is_ready ready = true
is_ready finished = false
is_ready (faulted n place) = false

-- the words from a place upward become these
unfoldable pub written : List ℕ → ℕ → List ℕ → List ℕ
written w at [] = w
written w at (v ∷ vs) = written (set w at v) (at + 1) vs

-- The place of fault n of the instruction at `at`: "The place is the instruction's first byte", and since request 8, of the first byte that it could
-- not fetch, "fault 1 carries that as its place. A first byte out of range gives the same place as before. All other faults keep theirs."
unfoldable pub place_of : List ℕ → ℕ → ℕ → ℕ
place_of s n at = cond (eqb n 1) (fetches_to s at) at

-- "Only the session's kind changes." "The session finishes, and all registers and memory stay."
unfoldable pub settled : List ℕ → List ℕ → Registers → Outcome → State
settled s w r (fault n) = record { words = w; registers = r; kind = faulted n (place_of s n r.counter) }
settled s w r finish = record { words = w; registers = r; kind = finished }
settled s w r (goes q at ws) = record { words = written w at ws; registers = q; kind = ready }

-- of a segment's bytes and the shared words, which are only read; a session that is not ready stays as it is
unfoldable pub step : List ℕ → List ℕ → State → State
step s shared t =
    cond (is_ready t.kind) (settled s t.words t.registers (judge s shared t.words t.registers)) t

-- "A turn of k steps runs until k are done or the session is no longer ready."
unfoldable pub run : List ℕ → List ℕ → ℕ → State → State
run s shared zero t = t
run s shared (suc k) t = cond (is_ready t.kind) (run s shared k (step s shared t)) t

-- "It returns the steps done. A step that faults and the return that finishes count. k = 0 and a session not ready give 0."
unfoldable pub steps_done : List ℕ → List ℕ → ℕ → State → ℕ
steps_done s shared zero t = 0
steps_done s shared (suc k) t = cond (is_ready t.kind) (suc (steps_done s shared k (step s shared t))) 0
