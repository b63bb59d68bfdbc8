-- What a run keeps, and that runs add up: all that the bench knows of the machine.
-- Above: the bench; below: the laws of `pmachine`, carried over to the code's types.
use mathlib.Core.Path.{◌≡◌, refl, ap, ◌∙◌}
use mathlib.Core.List.{List}
use mathlib.Core.Bool.{true}
use Prim.Native.Nat.{ℕ, ◌+◌, ◌≤◌}
use lib.ListN.{length}
use Rattle.segment.specs.Judge.{judged}
use Rattle.basis.specs.Checks.{passed}
use Rattle.pmachine.specs.State.{Kind as Kinds, ready, finished, faulted, State}
use Rattle.pmachine.specs.Sound.{starting}
use Rattle.pmachine.specs.Run.{run}
use Rattle.pmachine.proofs.Accepted.{loaded}
use Rattle.pmachine.proofs.Ranges.{in_range_lem}
use Rattle.pmachine.proofs.Runs.{run_length as machine-length, run_add as machine-add, count_add as machine-counts, run_none as machine-none, count_none as machine-count-none}
use Rattle.pmachine.proofs.Keeps.{run_keeps as machine-keeps, starting_ranged}
use Rattle.machine.specs.declared.Kind.{Kind}
use Rattle.machine.specs.declared.Kind.TheVariants.{Ready, Finished, Faulted}
use Rattle.machine.specs.Memory.{kind_of}
use Rattle.session.specs.Session.{SessionState, state_of, state_from, kind_from, floor_of, start_of, cpu_ok, run_of, count_of}

-- there and back

pub kind_of_from : (k : Kinds) → kind_of (kind_from k) ≡ k
kind_of_from ready = refl
kind_of_from finished = refl
kind_of_from (faulted n place) = refl

pub kind_from_of : (k : Kind) → kind_from (kind_of k) ≡ k
kind_from_of Ready = refl
kind_from_of Finished = refl
kind_from_of (Faulted n place) = refl

pub of_from : (t : State) → state_of (state_from t) ≡ t
of_from t = rw (kind_of_from t.kind)

pub from_of : (st : SessionState) → state_from (state_of st) ≡ st
from_of st = rw (kind_from_of st.cpu.kind)

-- a run keeps the region's length
pub run_length : (k : ℕ) (code shared : List ℕ) (st : SessionState) → length (run_of k code shared st).words ≡ length st.words
unfolding run_of
run_length k code shared st = machine-length code shared k (state_of st)

-- and the registers and kind in their ranges
pub run_keeps : (k : ℕ) (code shared : List ℕ) (len : ℕ) (st : SessionState) → judged code ≡ passed → len ≤ 32768 → length st.words ≡ len → cpu_ok code len st.cpu ≡ true
    → cpu_ok code len (run_of k code shared st).cpu ≡ true
unfolding cpu_ok run_of
run_keeps k code shared len st j small l h =
    rw (kind_of_from (run code shared k (state_of st)).kind) (machine-keeps code shared len (loaded code j) k (state_of st) l h)

-- two turns are one turn of both their steps
pub run_add : (a b : ℕ) (code shared : List ℕ) (st : SessionState) → run_of (a + b) code shared st ≡ run_of b code shared (run_of a code shared st)
unfolding run_of
run_add a b code shared st =
    rw (of_from (run code shared a (state_of st)), machine-add code shared a b (state_of st))

-- and their counts add up
pub count_add : (a b : ℕ) (code shared : List ℕ) (st : SessionState) → count_of (a + b) code shared st ≡ count_of a code shared st + count_of b code shared (run_of a code shared st)
unfolding run_of count_of
count_add a b code shared st =
    rw (of_from (run code shared a (state_of st))) (machine-counts code shared a b (state_of st))

pub run_none : (code shared : List ℕ) (st : SessionState) → run_of 0 code shared st ≡ st
unfolding run_of
run_none code shared st = ap state_from (machine-none code shared (state_of st)) ∙ from_of st

pub count_none : (code shared : List ℕ) (st : SessionState) → count_of 0 code shared st ≡ 0
unfolding count_of
count_none code shared st = machine-count-none code shared (state_of st)

-- the registers at the start are in their ranges
pub start_ok : (code : List ℕ) (len : ℕ) → judged code ≡ passed → 16 ≤ len → floor_of code ≤ len → cpu_ok code len (start_of code len) ≡ true
unfolding cpu_ok start_of
start_ok code len j h f = in_range_lem code len (starting code len) ready (starting_ranged code len (loaded code j) f) tt
