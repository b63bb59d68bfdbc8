-- What stands at a byte of the code, from appendix B's row of its first byte and the operands after it.
-- Above: the contract of `read`; below: the opcodes and the decoding of `pmachine`. Assumes nothing.
use Rattle.std.specs.Prelude.{ℕ, ◌+◌, List, Bool, true, false, cond, length, ltb}
use Rattle.operand.specs.Bytes.{byte_at}
use Rattle.pmachine.specs.Opcode.{Row, is_carried, forms_of, taken_of, given_of, one, two, three, opcode}
use Rattle.pmachine.specs.Decoding.{Operands, all, cut, operands}
use Rattle.instruction.specs.declared.Instruction.{Instruction}

-- all of its operands are there: in order, 0 where there is none, and the byte after them
abbrev pub whole_of : ℕ → Bool → ℕ → ℕ → List ℕ → ℕ → Instruction
whole_of first known taken given vs next =
    record { first = first; carried = known; whole = true; x = one vs; y = two vs; z = three vs; taken = taken; given = given; next = next }

-- the segment ends within it: the first byte that is missing, and no operand
abbrev pub cut_of : ℕ → Bool → ℕ → Instruction
cut_of first known place = record { first = first; carried = known; whole = false; x = 0; y = 0; z = 0; taken = 0; given = 0; next = place }

unfoldable pub with_operands : ℕ → Bool → ℕ → ℕ → Operands → Instruction
with_operands first known taken given (all vs next) = whole_of first known taken given vs next
with_operands first known taken given (cut place) = cut_of first known place

-- by the row of the first byte, carried or not, with the operands from `at` on
unfoldable pub by_row : ℕ → Row → List ℕ → ℕ → Instruction
by_row first row s at = with_operands first (is_carried row) (taken_of row) (given_of row) (operands (forms_of row) s at)

-- past the segment's end stands a byte 0 that is missing
unfoldable pub standing : List ℕ → ℕ → Instruction
standing s at = cond (ltb at (length s)) (by_row (byte_at s at) (opcode (byte_at s at)) s (at + 1)) (cut_of 0 true at)
