-- `value` is the value of digits, or that it is too large: a turn, and the two ends. Assumes nothing.
use Rattle.std.proofs.Common.{◌∙◌, arith}
use Rattle.numbers.proofs.Values.{value_ends, value_goes, value_stops}
use Rattle.numbers.proofs.value.Goals as goal

pub returns-then-v-d : goal.returns-then-v-d
returns-then-v-d c = value_stops _ _ _ _ c.loop-b.invariant _ c.loop-b-test.true (c.from-d.ensures ∙ c.saturating_sub.ensures) c.if-v-d.true

pub loop-b-preserved : goal.loop-b-preserved
loop-b-preserved c = value_goes _ _ _ _ c.loop-b.invariant _ c.loop-b-test.true (c.from-d.ensures ∙ c.saturating_sub.ensures)

pub returns : goal.returns
returns c = value_ends _ _ _ _ c.loop-b.invariant c.loop-b-test.false (omega arith)
