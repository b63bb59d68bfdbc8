-- `digest::of` ends below the modulus: a digest is always below it. Assumes nothing.
use Rattle.std.proofs.Common.{◌<◌}
use Rattle.cases_lines.proofs.digest.of.Given as goal

abbrev pub invariant-loop-x : goal.invariant-loop-x
invariant-loop-x g l = l.h < 4294967291
