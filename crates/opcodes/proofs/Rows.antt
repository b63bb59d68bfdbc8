-- A table of first bytes that passes a test of its 256 entries agrees with the opcode definition.
-- Above: the proof of `table`, which computes the test; below: the packed numbers.
use mathlib.Core.Path.{◌≡◌}
use mathlib.Core.Bool.{Bool, true}
use mathlib.Core.List.{List}
use Prim.Native.Nat.{ℕ}
use lib.Dec.{eqb}
use lib.ListN.{get_or}
use borrow.Author.Tests.{eqb-true}
use Rattle.pmachine.specs.Opcode.{opcode}
use Rattle.pmachine.proofs.Rows.{numbers, at_number}
use Rattle.opcodes.specs.Packed.{packed, Agrees}

-- the entry of a first byte is its row's number
unfoldable pub right : List ℕ → ℕ → Bool
right t b = eqb (get_or t b 0) (packed (opcode b))

pub agrees_by : (t : List ℕ) → numbers (right t) 256 ≡ true → Agrees t
unfolding right
agrees_by t e = record { row = λ b h. eqb-true _ _ (at_number (right t) 256 e b h) }
