-- `word::mul` meets its contract. Assumes nothing.
use Rattle.std.proofs.Common.{◌≡◌, ◌+◌, ◌*◌, ◌%◌, ◌<◌}
use Rattle.word.proofs.mul.Given as goal

abbrev pub invariant-loop-left : goal.invariant-loop-left
invariant-loop-left l = (l.sum < 65536) × ((l.sum + l.factor * l.left) % 65536 ≡ l.x * l.y % 65536)

abbrev pub decreases-loop-left : goal.decreases-loop-left
decreases-loop-left l = l.left
