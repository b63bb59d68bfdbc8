-- `reads::read_line` stays in its room: what is kept fits. Assumes nothing.
use Rattle.std.proofs.Common.{◌≤◌, length}
use Rattle.pond_typed.proofs.reads.read_line.Given as goal

abbrev pub invariant-loop : goal.invariant-loop
invariant-loop l = l.n ≤ length l.room
