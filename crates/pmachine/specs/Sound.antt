-- What soundness says of one session on its segment, how a session starts, and what checks 1 to 8 give the machine.
-- Above: the laws in proofs/, and the contracts of code, machine and bench; below: State, Step's 6+G, and the header numbers of `segment`.
use Rattle.std.specs.Prelude.{ℕ, ◌+◌, ◌*◌, ◌≤◌, ◌<◌, ◌≡◌, List, [], ◌∷◌, Bool, true, length, replicate, leb}
use Rattle.basis.specs.Bools.{every}
use Rattle.segment.specs.Head.{words, dict, count, entry, linked, datasize, start, pool, real_pool}
use Rattle.pmachine.specs.State.{Registers, Kind, ready, finished, faulted, State}
use Rattle.pmachine.specs.Step.{floor}

-- "if faulted, fault in 1..10 and place in 22..2W"
unfoldable pub kind_in_range : List ℕ → Kind → Bool
kind_in_range s ready = true
kind_in_range s finished = true
kind_in_range s (faulted n place) = every (leb 1 n ∷ leb n 10 ∷ leb 22 place ∷ leb place (length s) ∷ [])

-- "6+G at most L, stack pointer in 6+G..L, record pointer in 1..L-5, counter in 22..2W, routine number in 1..n"; request 3: "A sound bench now also
-- has this mark in 6+G..SP"; and the kind
unfoldable pub in_range : List ℕ → ℕ → Registers → Kind → Bool
in_range s l r k =
    every
    (leb (floor s) l
    ∷ leb (floor s) r.sp
    ∷ leb r.sp l
    ∷ leb 1 r.m
    ∷ leb (r.m + 5) l
    ∷ leb 22 r.counter
    ∷ leb r.counter (length s)
    ∷ leb 1 r.routine
    ∷ leb r.routine (count s)
    ∷ leb (floor s) r.lowest
    ∷ leb r.lowest r.sp
    ∷ kind_in_range s k
    ∷ [])

-- the same of the registers, as numbers: what a step may assume
pub record Ranged (s : List ℕ) (l : ℕ) (r : Registers) : Type 0 where
  pub low : floor s ≤ l
  pub sp_low : floor s ≤ r.sp
  pub sp_high : r.sp ≤ l
  pub m_low : 1 ≤ r.m
  pub m_high : r.m + 5 ≤ l
  pub counter_low : 22 ≤ r.counter
  pub counter_high : r.counter ≤ length s
  pub routine_low : 1 ≤ r.routine
  pub routine_high : r.routine ≤ count s
  pub lowest_low : floor s ≤ r.lowest
  pub lowest_high : r.lowest ≤ r.sp

-- "Starting state: SP = L, record pointer M = 1, counter 2(e+1)"; opening "starts routine 1"; request 3: "L at the start"
unfoldable pub starting : List ℕ → ℕ → Registers
starting s l = record { sp = l; m = 1; counter = start s 1; routine = 1; lowest = l }

-- opening "sets every word of the region to zero"
unfoldable pub opened : List ℕ → ℕ → State
opened s l = record { words = replicate l 0; registers = starting s l; kind = ready }

-- What checks 6 and 7 give for a routine k that is linked: its entry in 12..W-2, and DATASIZE.
pub record Routine (s : List ℕ) (k : ℕ) : Type 0 where
  pub entry_low : 12 ≤ entry s k
  pub entry_high : entry s k + 1 < words s
  pub size : datasize s k < 32768

-- What checks 1 to 7 give.
pub record Loaded (s : List ℕ) : Type 0 where
  pub even : length s ≡ 2 * words s
  pub long : 32 ≤ length s
  pub short : length s ≤ 65534
  pub pool_high : pool s < words s
  pub reals_high : real_pool s ≤ words s
  pub dict_low : 11 ≤ dict s
  pub some : 1 ≤ count s
  pub many : count s ≤ 255
  pub room : dict s + count s < words s
  pub first : Routine s 1
  pub routines : (k : ℕ) → 1 ≤ k → k ≤ count s → linked s k ≡ true → Routine s k
