-- `number_of` is its definition: no bytes, a byte that is no digit, and the value of digits. Assumes nothing.
use Rattle.std.proofs.Common.{sym, ◌∙◌, rules, tests}
use Rattle.numbers.proofs.Values.{number_none, number_not, number_is}
use Rattle.numbers.proofs.number_of.Goals as goal

pub returns-then-is_empty : goal.returns-then-is_empty
returns-then-is_empty c = number_none _ (search (rules, tests))

pub returns-then-not-digits : goal.returns-then-not-digits
returns-then-not-digits c = number_not _ (sym c.if-not-digits.true ∙ c.digits.ensures)

pub returns : goal.returns
returns c = number_is _ _ (search (rules, tests)) (sym c.if-not-digits.false ∙ c.digits.ensures) c.value.ensures
