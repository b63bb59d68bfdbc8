-- What the packed number of a first byte tells of its row, digit by digit: one test that antt computes over the 256 bytes.
-- Above: Steps and Decoding; below: the packed rows of `opcodes`. Assumes nothing.
use Prim.Native.Nat.{ℕ, ◌/◌, ◌%◌, ◌<◌, ◌≤◌}
use mathlib.Core.Path.{◌≡◌, refl, sym, ap, ◌∙◌}
use mathlib.Core.Bool.{Bool, true, false, false≢true}
use mathlib.Core.List.{List, [], ◌∷◌}
use lib.Dec.{ltb, leb, eqb}
use lib.ListN.{length, drop}
use borrow.Author.Tests.{ltb-true, le-ltb, leb-true, eqb-true}
use Rattle.basis.specs.Bools.{every}
use Rattle.basis.proofs.Bools.{every_holds}
use Rattle.operand.specs.Operand.{Form, UB, SB, DB, B, W, Fetched, got, fetched, digit}
use Rattle.operand.proofs.Operands.{numbered}
use Rattle.pmachine.specs.Opcode.{Row, is_carried, forms_of, taken_of, given_of, opcode, row_in, appendix_b}
use Rattle.pmachine.proofs.Rows.{numbers, at_number}
use Rattle.opcodes.specs.Packed.{packed_forms, packed}
use Rattle.instruction.specs.Parts.{by_digit}

-- the first operand's digit, 0 for none
abbrev pub digit_of : List Form → ℕ
digit_of [] = 0
digit_of (f ∷ fs) = digit f

-- what a number tells of a row
pub record Tells (row : Row) (n : ℕ) : Type 0 where
  pub known : ltb n 2147483648 ≡ is_carried row
  pub first : n / 65536 % 8 ≡ digit_of (forms_of row)
  pub second : n / 524288 % 8 ≡ digit_of (drop 1 (forms_of row))
  pub third : n / 4194304 % 8 ≡ digit_of (drop 2 (forms_of row))
  pub few : length (forms_of row) ≤ 3
  pub taken : n % 256 ≡ taken_of row
  pub given : n / 256 % 256 ≡ given_of row

same : Bool → Bool → Bool
same true y = y
same false true = false
same false false = true

same_is : (x y : Bool) → same x y ≡ true → x ≡ y
unfolding same
same_is true y e = sym e
same_is false true e = absurd (false≢true e)
same_is false false e = refl

tells : Row → ℕ → Bool
tells row n =
    every
    (same (ltb n 2147483648) (is_carried row) ∷ eqb (n / 65536 % 8) (digit_of (forms_of row)) ∷ eqb (n / 524288 % 8) (digit_of (drop 1 (forms_of row)))
    ∷ eqb (n / 4194304 % 8) (digit_of (drop 2 (forms_of row))) ∷ leb (length (forms_of row)) 3 ∷ eqb (n % 256) (taken_of row)
    ∷ eqb (n / 256 % 256) (given_of row) ∷ [])

right : ℕ → Bool
right b = tells (opcode b) (packed (opcode b))

tested : numbers right 256 ≡ true
unfolding every same tells right is_carried forms_of taken_of given_of opcode row_in appendix_b packed packed_forms
tested = refl

pub row_tells : (b n : ℕ) → b < 256 → n ≡ packed (opcode b) → Tells (opcode b) n
unfolding right tells
row_tells b n h q =
    let a = every_holds _ (ap (tells (opcode b)) q ∙ at_number right 256 tested b h) in
    record {
      known = same_is _ _ a.0;
      first = eqb-true _ _ a.1.0;
      second = eqb-true _ _ a.1.1.0;
      third = eqb-true _ _ a.1.1.1.0;
      few = leb-true _ _ a.1.1.1.1.0;
      taken = eqb-true _ _ a.1.1.1.1.1.0;
      given = eqb-true _ _ a.1.1.1.1.1.1.0;
    }

-- the first operand by itself; for none 0 at no bytes
unfoldable pub leading : List Form → List ℕ → ℕ → Fetched
leading [] s at = got 0 at
leading (f ∷ fs) s at = fetched f s at

-- an operand by its digit is the operand by its form
pub by_digit_lem : (forms : List Form) (s : List ℕ) (at : ℕ) → by_digit (digit_of forms) s at ≡ leading forms s at
unfolding by_digit leading
by_digit_lem [] s at = refl
by_digit_lem (f ∷ fs) s at = rw (some_digit f, numbered.form f)
  where
    -- no form's number is that of no operand
    some_digit : (f : Form) → eqb (digit f) 0 ≡ false
    some_digit UB = refl
    some_digit SB = refl
    some_digit DB = refl
    some_digit B = refl
    some_digit W = refl
