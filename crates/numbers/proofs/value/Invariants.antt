-- `value` is the value of digits, or that it is too large. The invariant: the value is that of what is left, after what was passed.
-- Assumes nothing.
use Rattle.std.proofs.Common.{◌≡◌, drop}
use Rattle.numbers.specs.Numbers.{value_from}
use Rattle.numbers.proofs.value.Given as goal

abbrev pub invariant-loop-b : goal.invariant-loop-b
invariant-loop-b l = value_from 0 l.s ≡ value_from l.v (drop l.b-index l.s)
