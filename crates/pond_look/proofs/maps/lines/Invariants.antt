-- `maps::lines` is safe and ends. The measure is how many words are left. Assumes nothing.
use Rattle.std.proofs.Common.{◌-◌}
use Rattle.pond_look.proofs.maps.lines.Given as goal

abbrev pub decreases-loop-at : goal.decreases-loop-at
decreases-loop-at l = l.n - l.at
