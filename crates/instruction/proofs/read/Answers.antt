-- `instruction::read` answers what stands at a byte of the code, which is what the machine decodes there. Assumes nothing.
use native.Mathlib.Omega.{arith}
use Rattle.instruction.proofs.Steps.{byte_there}
use Rattle.instruction.proofs.Decoding.{reads_got, reads_cut}
use Rattle.instruction.proofs.read.Goals as goal

pub overflow_cast-first : goal.overflow_cast-first
overflow_cast-first c =
    let b = byte_there _ _ _ _ c.in-Ok.ensures in
    record { fits = omega (arith, b.1, c.type_inv.seg c.args.at) }

pub returns-in-Ok : goal.returns-in-Ok
returns-in-Ok c = reads_got _ c.args.at _ _ _ (c.type_inv.seg c.args.at).fits c.in-Ok.ensures c.by_row.ensures

pub returns-in-Err : goal.returns-in-Err
returns-in-Err c = reads_cut _ c.args.at _ _ c.in-Err.ensures c.cut.ensures
