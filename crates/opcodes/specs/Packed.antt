-- The table's packed number of a row of appendix B: operand form, words given and words taken, or the operand form under the mark "not carried".
-- Above: the table of the code, held to this by one computed test; below: the opcode definition of `pmachine`, the forms' numbers of `operand`.
use Rattle.std.specs.Prelude.{◌≡◌, List, [], ◌∷◌, ℕ, ◌+◌, ◌*◌, ◌<◌, get_or}
use Rattle.operand.specs.Operand.{Form, digit}
use Rattle.pmachine.specs.Opcode.{Row, carried, uncarried, opcode}

-- the numbers of the operands' forms as digits to base 8, the first operand's the lowest
unfoldable pub packed_forms : List Form → ℕ
packed_forms [] = 0
packed_forms (f ∷ fs) = digit f + 8 * packed_forms fs

-- the top bit marks a byte that is not carried, which has its operands all the same
unfoldable pub packed : Row → ℕ
packed (carried forms taken given does) = packed_forms forms * 65536 + given * 256 + taken
packed (uncarried forms) = 2147483648 + packed_forms forms * 65536

-- "Every one of the 256 first bytes has its operand form, words taken and words given in one table": each entry is its first byte's number
pub record Agrees (t : List ℕ) : Type 0 where
  pub row : (b : ℕ) → b < 256 → get_or t b 0 ≡ packed (opcode b)
