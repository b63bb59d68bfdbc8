-- What stands at a byte, in the words of the machine's decoding: the instruction, or fault 1 or 2; and all that `read` promises.
-- Above: the contract of `read`; below: Standing, and the decoding of `pmachine`. Assumes nothing.
use Rattle.std.specs.Prelude.{ℕ, ◌≤◌, ◌<◌, ◌≡◌, List, [], ◌∷◌, cond, length, take}
use Rattle.operand.specs.Bytes.{byte_at}
use Rattle.pmachine.specs.Opcode.{Row, carried, uncarried, opcode}
use Rattle.pmachine.specs.Decoding.{Decoded, faulty, decoded_with, all, decode}
use Rattle.instruction.specs.declared.Instruction.{Instruction}
use Rattle.instruction.specs.Standing.{standing}

-- one that is whole: as many of x, y and z as its first byte has operands, judged and read as the definition does
unfoldable pub whole_decoded : Instruction → Row → Decoded
whole_decoded i (carried forms taken given does) = decoded_with forms i.taken i.given does (all (take (length forms) (i.x ∷ i.y ∷ i.z ∷ [])) i.next)
whole_decoded i (uncarried forms) = faulty 2

-- 2 is "not carried", 1 a byte that is missing
unfoldable pub decoding_of : Instruction → Decoded
decoding_of i = cond i.carried (cond i.whole (whole_decoded i (opcode i.first)) (faulty 1)) (faulty 2)

-- the answer at `at`: what stands there, the byte itself, and, where an instruction may start, what the machine decodes there
pub record Reads (s : List ℕ) (at : ℕ) (i : Instruction) : Type 0 where
  pub stands : i ≡ standing s at
  pub byte : i.first ≡ byte_at s at
  pub decodes : 22 ≤ at → at < length s → decoding_of i ≡ decode s at
