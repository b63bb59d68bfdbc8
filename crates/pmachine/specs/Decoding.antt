-- The instruction at the counter, or fault 1 or 2. Bytes of the code are read here and nowhere else.
-- Above: Step judges what is decoded; below: Opcode, and the operands of `operand`.
use Rattle.std.specs.Prelude.{ℕ, ◌+◌, List, [], ◌∷◌, Bool, true, ◌&&◌, cond, length, leb}
use Rattle.basis.specs.Bools.{inside}
use Rattle.operand.specs.Bytes.{byte_at}
use Rattle.operand.specs.Operand.{Form, UB, SB, DB, B, W, Fetched, got, out, fetched}
use Rattle.pmachine.specs.Meaning.{Meaning}
use Rattle.pmachine.specs.Opcode.{Row, carried, uncarried, opcode}

-- The operands in order and the byte after them, or the first byte that could not be fetched.
pub data Operands : Type 0 where
  all : List ℕ → ℕ → Operands
  cut : ℕ → Operands

unfoldable pub joined : ℕ → Operands → Operands
joined v (all vs next) = all (v ∷ vs) next
joined v (cut place) = cut place

-- one operand, and then what `rest` fetches after it
unfoldable pub and_then : Fetched → (ℕ → Operands) → Operands
and_then (got v next) rest = joined v (rest next)
and_then (out place) rest = cut place

unfoldable pub operands : List Form → List ℕ → ℕ → Operands
operands [] s at = all [] at
operands (f ∷ fs) s at = and_then (fetched f s at) (operands fs s)

-- "a DB byte above 127 faults with 2"
unfoldable pub lawful : Form → ℕ → Bool
lawful UB v = true
lawful SB v = true
lawful DB v = leb v 127
lawful B v = true
lawful W v = true

unfoldable pub all_lawful : List Form → List ℕ → Bool
all_lawful [] vs = true
all_lawful (f ∷ fs) [] = true
all_lawful (f ∷ fs) (v ∷ vs) = lawful f v && all_lawful fs vs

-- An instruction: its meaning, the words that it takes and gives, and the byte after it.
pub record Instruction : Type 0 where
  pub does : Meaning
  pub taken : ℕ
  pub given : ℕ
  pub next : ℕ

pub data Decoded : Type 0 where
  instruction : Instruction → Decoded
  faulty : ℕ → Decoded

-- "All operands are fetched before a DB is judged."
unfoldable pub decoded_with : List Form → ℕ → ℕ → (List ℕ → Meaning) → Operands → Decoded
decoded_with forms taken given does (all vs next) =
    cond (all_lawful forms vs) (instruction (record { does = does vs; taken = taken; given = given; next = next })) (faulty 2)
decoded_with forms taken given does (cut place) = faulty 1

unfoldable pub row_decoded : Row → List ℕ → ℕ → Decoded
row_decoded (carried forms taken given does) s at = decoded_with forms taken given does (operands forms s at)
row_decoded (uncarried forms) s at = faulty 2

-- "the first byte is judged for 1 and 2 before its operands are fetched"; 1 is "an instruction byte outside 22..2W-1"
unfoldable pub decode : List ℕ → ℕ → Decoded
decode s at = cond (inside 22 (length s) at) (row_decoded (opcode (byte_at s at)) s (at + 1)) (faulty 1)

-- ---- how far a step fetches: request 8, "The operand reader shall report the offset of the first byte it could not fetch"

-- the byte after the operands; or, where the segment ends within them, the byte that the reader reports
unfoldable pub comes_to : Operands → ℕ
comes_to (all vs next) = next
comes_to (cut place) = place

-- of a first byte that is not carried no operand is fetched
unfoldable pub row_comes_to : Row → List ℕ → ℕ → ℕ
row_comes_to (carried forms taken given does) s at = comes_to (operands forms s at)
row_comes_to (uncarried forms) s at = at

-- The byte that the fetching of the instruction at `at` comes to. A first byte that is not of the code is itself the one that cannot be fetched.
unfoldable pub fetches_to : List ℕ → ℕ → ℕ
fetches_to s at = cond (inside 22 (length s) at) (row_comes_to (opcode (byte_at s at)) s (at + 1)) at
