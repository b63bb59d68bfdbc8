-- `instruction::by_row` is what stands there by the row of the first byte: its operands, one after the other, and its mark. Assumes nothing.
use mathlib.Core.Path.{◌∙◌}
use borrow.Author.Rules.{rules}
use Rattle.instruction.proofs.Rows.{row_tells}
use Rattle.instruction.proofs.Steps.{value_is, stands_by}
use Rattle.instruction.proofs.by_row.Goals as goal

pub returns-in-Ok : goal.returns-in-Ok
returns-in-Ok c =
    rw (c.value_of-in-Ok.ensures, c.value_of.ensures, value_is _, value_is _)
    (stands_by _ _ c.args.first _ _ _ _ _ (row_tells c.args.first _ (search rules) c.row_of-row.ensures) c.by_form-x.ensures c.after-y.ensures c.in-Ok.ensures)

pub returns-in-Err : goal.returns-in-Err
returns-in-Err c =
    c.cut.ensures
    ∙ stands_by _ _ c.args.first _ _ _ _ _ (row_tells c.args.first _ (search rules) c.row_of-row.ensures) c.by_form-x.ensures c.after-y.ensures c.in-Err.ensures
