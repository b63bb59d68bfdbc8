-- `parts::passed` is safe and ends. The measure is what is left to go through. Assumes nothing.
use Rattle.std.proofs.Common.{◌-◌}
use Rattle.pond_parts.proofs.parts.passed.Given as goal

abbrev pub decreases-loop-at : goal.decreases-loop-at
decreases-loop-at l = l.byte - l.at
