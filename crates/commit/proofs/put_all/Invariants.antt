-- `commit::put_all` meets its contract: with k words left, one turn writes one more. Assumes nothing.
use Prim.Native.Nat.{◌+◌, ◌-◌, ◌≤◌}
use mathlib.Core.Path.{◌≡◌}
use lib.ListN.{length}
use Rattle.pmachine.specs.Pool.{words_from, on_top}
use Rattle.pmachine.specs.Run.{written}
use Rattle.commit.proofs.put_all.Given as goal

abbrev pub invariant-loop-left : goal.invariant-loop-left
invariant-loop-left l = (l.left ≤ l.n) × (length l.region ≡ length l.initial.region) × (l.region ≡ written l.initial.region (l.top - l.n) (on_top (words_from l.least l.seg (l.first + l.left) (l.n - l.left))))
