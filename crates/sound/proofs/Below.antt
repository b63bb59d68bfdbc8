-- The laws of the layers below that a bench uses, and all that it uses: what specs/Below names is known above by these alone.
-- Above: Facts, bench, isolation. Below: session's laws of a run and of the start, segment's of the verdict.
use mathlib.Core.List.{List}
use Prim.Native.Nat.{ℕ, ◌≤◌}
use Rattle.sound.specs.Below.{SessionState, count_of}
use Rattle.session.specs.Session.{state_of as machine_of}
use Rattle.pmachine.proofs.Runs.{count_most as machine-most}
pub use Rattle.session.proofs.Keeps.{run_keeps, run_length, run_none, run_add, count_none, count_add, start_ok}

-- no more steps are done than were asked for
pub count_most : (k : ℕ) (code shared : List ℕ) (st : SessionState) → count_of k code shared st ≤ k
unfolding count_of
count_most k code shared st = machine-most code shared k (machine_of st)
