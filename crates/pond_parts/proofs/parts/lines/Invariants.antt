-- `parts::lines` is safe and ends. The measure is what is left to go through. Assumes nothing.
use Rattle.std.proofs.Common.{◌-◌}
use Rattle.pond_parts.proofs.parts.lines.Given as goal

abbrev pub decreases-loop-at : goal.decreases-loop-at
decreases-loop-at l = l.code.end - l.at
