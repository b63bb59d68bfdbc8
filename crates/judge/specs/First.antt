-- MIRROR OF THE CODE, for the proofs; nobody has to believe it. What the code's decoder answers of the first byte, and what is left to be
-- decoded then. Fault 2, of a byte that is not carried, is its row's, and no operand is fetched for it.
-- Above: the contract of `decode`; below: the opcode definition of `pmachine`.
use Rattle.std.specs.Prelude.{ℕ, ◌+◌, List, cond, length}
use Rattle.basis.specs.Bools.{inside}
use Rattle.operand.specs.Bytes.{byte_at}
use Rattle.pmachine.specs.Opcode.{opcode}
use Rattle.pmachine.specs.Decoding.{Decoded as Decoding, faulty, row_decoded}
use Rattle.judge.specs.declared.Byte.{Byte}
use Rattle.judge.specs.declared.Byte.TheVariants.{Decoded, Outside}

-- 1 is "an instruction byte outside 22..2W-1"
unfoldable pub first_of : List ℕ → ℕ → Byte
first_of s at = cond (inside 22 (length s) at) (Decoded (byte_at s at)) Outside

unfoldable pub rest_of : List ℕ → ℕ → Byte → Decoding
rest_of s at (Decoded b) = row_decoded (opcode b) s (at + 1)
rest_of s at Outside = faulty 1
