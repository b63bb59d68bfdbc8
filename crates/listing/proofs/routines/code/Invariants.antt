-- `routines::code` ends: every line goes forward. Assumes nothing.
use Prim.Native.Nat.{◌-◌}
use Rattle.listing.proofs.routines.code.Given as goal

abbrev pub decreases-loop-at : goal.decreases-loop-at
decreases-loop-at l = l.end - l.at
