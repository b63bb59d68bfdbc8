-- `shown::visible` shows a slice byte by byte: a turn. Assumes nothing.
use Rattle.std.proofs.Common.{arith}
use Rattle.text.proofs.Copies.{visible_goes}
use Rattle.text.proofs.shown.visible.Goals as goal

pub loop-i-preserved : goal.loop-i-preserved
loop-i-preserved c = visible_goes _ _ _ _ _ (omega arith) (omega arith) c.seen.ensures c.loop-i.invariant
