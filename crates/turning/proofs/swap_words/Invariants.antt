-- `turning::swap_words` meets its contract. Assumes nothing.
use mathlib.Core.Path.{◌≡◌}
use Prim.Native.Nat.{◌≤◌}
use lib.ListN.{length}
use Rattle.basis.specs.Bools.{inside}
use Rattle.turning.specs.Turn.{swap_at}
use Rattle.turning.proofs.swap_words.Given as goal

abbrev pub invariant-loop-w : goal.invariant-loop-w
invariant-loop-w l = (l.first ≤ l.w) × (l.w ≤ l.end) × (length l.out ≡ length l.initial.out) × (l.out ≡ swap_at (inside l.first l.w) l.seg l.initial.out)
