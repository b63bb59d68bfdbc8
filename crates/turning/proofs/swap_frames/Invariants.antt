-- `turning::swap_frames` meets its contract. Assumes nothing.
use mathlib.Core.Path.{◌≡◌}
use Prim.Native.Nat.{◌+◌, ◌-◌, ◌≤◌}
use lib.ListN.{length}
use Rattle.turning.specs.Turn.{framed, swap_at}
use Rattle.turning.proofs.swap_frames.Given as goal

abbrev pub invariant-loop-k : goal.invariant-loop-k
invariant-loop-k l = (1 ≤ l.k) × (l.k ≤ l.n + 1) × (length l.out ≡ length l.initial.out) × (l.out ≡ swap_at (framed l.seg (l.k - 1)) l.seg l.initial.out)
