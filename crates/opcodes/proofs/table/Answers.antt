-- `opcodes::table` agrees with the opcode definition: one test that antt computes over the very constant. Assumes nothing.
use mathlib.Core.Path.{refl}
use Rattle.pmachine.specs.Opcode.{opcode, row_in, appendix_b}
use Rattle.opcodes.specs.Packed.{packed_forms, packed}
use Rattle.opcodes.proofs.Rows.{right, agrees_by}
use Rattle.opcodes.proofs.table.Goals as goal

pub returns : goal.returns
unfolding right opcode row_in appendix_b packed packed_forms
returns c = agrees_by _ refl
