-- `contents::lines` is safe and ends. The measure is how many words are left. Assumes nothing.
use Rattle.std.proofs.Common.{length}
use Rattle.pond_look.proofs.contents.lines.Given as goal

abbrev pub decreases-loop-w : goal.decreases-loop-w
decreases-loop-w l = length l.rest
