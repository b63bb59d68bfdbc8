-- `checks::judge_routines` meets its contract. The loop's invariant: with the routines below k passed, the verdict on the rest is
-- the verdict on all. Assumes nothing.
use mathlib.Core.Path.{◌≡◌}
use Prim.Native.Nat.{◌+◌, ◌-◌, ◌≤◌}
use Rattle.segment.specs.Head.{count}
use Rattle.basis.specs.Checks.{ruling}
use Rattle.segment.specs.Judge.{routines_from}
use Rattle.checks.proofs.judge_routines.Given as goal

abbrev pub invariant-loop-k : goal.invariant-loop-k
invariant-loop-k l = (1 ≤ l.k) × (ruling (routines_from l.seg (count l.seg) 1) ≡ ruling (routines_from l.seg (count l.seg + 1 - l.k) l.k))
