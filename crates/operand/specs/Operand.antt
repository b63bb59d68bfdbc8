-- Operands UB, SB, DB, B and W "as in 000", read at a byte offset of a segment.
-- Below: bytes. Above: the reader, the table of first bytes, and the decoding of `pmachine`. Assumes nothing.
use Rattle.std.specs.Prelude.{ℕ, ◌+◌, ◌-◌, List, Result, Ok, Err, cond, length, ltb, eqb}
use Rattle.operand.specs.Bytes.{byte_at, join}
use Rattle.operand.specs.declared.Operand.{Operand}
use Rattle.operand.specs.declared.Missing.{Missing}

pub data Form : Type 0 where
  UB : Form
  SB : Form
  DB : Form
  B : Form
  W : Form

-- the value and the offset after the operand, or the offset of the first byte that could not be fetched
pub data Fetched : Type 0 where
  got : ℕ → ℕ → Fetched
  out : ℕ → Fetched

-- what is fetched from `at` on, where the byte at `at` is there
unfoldable pub if_there : List ℕ → ℕ → Fetched → Fetched
if_there s at o = cond (ltb at (length s)) o (out at)

-- a byte as a signed number, in 16 bits, two's complement
unfoldable pub signed : ℕ → ℕ
signed b = cond (ltb b 128) b (b + 65280)

-- UB: an unsigned byte, 0 to 255.
-- SB: a signed byte, -128 to 127.
-- DB: a byte too; one above 127 "faults with 2" when all operands are fetched, so it is not judged here.
-- B: one byte to 127; else two bytes, of which the first, less 128, is the high part.
-- W: two bytes; "W is always least byte first", whatever the segment's sex.
unfoldable pub fetched : Form → List ℕ → ℕ → Fetched
fetched UB s at = if_there s at (got (byte_at s at) (at + 1))
fetched SB s at = if_there s at (got (signed (byte_at s at)) (at + 1))
fetched DB s at = if_there s at (got (byte_at s at) (at + 1))
fetched B s at =
    if_there s at
    (cond (ltb (byte_at s at) 128) (got (byte_at s at) (at + 1))
    (if_there s (at + 1) (got (join (byte_at s (at + 1)) (byte_at s at - 128)) (at + 2))))
fetched W s at = if_there s at (if_there s (at + 1) (got (join (byte_at s at) (byte_at s (at + 1))) (at + 2)))

-- what the code's answer says
abbrev pub fetched_of : Result Operand Missing → Fetched
fetched_of (Ok o) = got o.value o.next
fetched_of (Err m) = out m.place

-- the paper's number, place and value of each case of it: 1 is "an instruction byte outside 22..2W-1", and its place the first byte that
-- could not be fetched; an operand that is there has no fault, one that is not has no value
abbrev pub operand_fault : Result Operand Missing → ℕ
operand_fault (Ok o) = 0
operand_fault (Err m) = 1

abbrev pub operand_place : Result Operand Missing → ℕ
operand_place (Ok o) = 0
operand_place (Err m) = m.place

abbrev pub operand_value : Result Operand Missing → ℕ
operand_value (Ok o) = o.value
operand_value (Err m) = 0

-- "has its operand form .. in one table": the number of a form in the table of first bytes, and as the reader is asked for it; 0 is left
-- for no operand
abbrev pub digit : Form → ℕ
digit UB = 1
digit SB = 2
digit DB = 3
digit B = 4
digit W = 5

-- the form of a number, and W for a number that is no form's: the inverse of `digit` (Reading)
unfoldable pub form_at : ℕ → Form
form_at n = cond (eqb n 1) UB (cond (eqb n 2) SB (cond (eqb n 3) DB (cond (eqb n 4) B W)))
