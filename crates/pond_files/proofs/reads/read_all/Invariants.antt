-- `reads::read_all` is safe and ends: each turn but the last fills more of the buffer. Assumes nothing.
use Rattle.std.proofs.Common.{◌-◌, ◌≤◌, length}
use Rattle.pond_files.proofs.reads.read_all.Given as goal

abbrev pub invariant-loop-at : goal.invariant-loop-at
invariant-loop-at l = l.at ≤ length l.initial.room

abbrev pub decreases-loop-at : goal.decreases-loop-at
decreases-loop-at l = length l.initial.room - l.at
