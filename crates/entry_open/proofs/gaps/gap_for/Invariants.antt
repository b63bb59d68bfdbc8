-- `entry_open::gaps::gap_for` meets its contract: every gap starts from a on.
use Prim.Native.Nat.{◌+◌, ◌-◌}
use Rattle.entry_open.proofs.Lowest.{From}
use Rattle.entry_open.proofs.gaps.gap_for.Given as goal

abbrev pub invariant-loop-a : goal.invariant-loop-a
invariant-loop-a l = From l.sessions l.s l.n l.len l.a

abbrev pub decreases-loop-a : goal.decreases-loop-a
decreases-loop-a l = l.n + 1 - l.a
