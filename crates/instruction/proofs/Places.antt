-- How far a step fetches is what stands at the byte: the operand reader's report, but of a byte that is not carried, of which a step fetches no operand.
-- Above: the proof of `fetches_to`; below: Standing, and Decoded of `pmachine`. Assumes nothing.
use Prim.Native.Nat.{ℕ, ◌+◌, ◌≤◌, ◌<◌}
use native.Mathlib.Omega.{arith}
use native.Mathlib.Decide.{dec_lt}
use mathlib.Core.Path.{◌≡◌, refl, sym, ◌∙◌}
use mathlib.Core.Bool.{Bool, true, false, false≢true}
use mathlib.Core.List.{List}
use lib.ListN.{length}
use borrow.Author.Tests.{lt-leb, lt-ltb, le-ltb}
use Rattle.basis.specs.Bools.{inside}
use Rattle.basis.proofs.Bools.{inside_holds}
use Rattle.operand.specs.Bytes.{byte_at}
use Rattle.pmachine.specs.Opcode.{Row, carried, uncarried, is_carried, forms_of, taken_of, given_of, opcode}
use Rattle.pmachine.specs.Decoding.{Operands, all, cut, operands, comes_to, row_comes_to, fetches_to}
use Rattle.pmachine.proofs.Rows.{decided}
use Rattle.pmachine.proofs.Decoded.{outside_stays, past_outside}
use Rattle.instruction.specs.Standing.{with_operands, by_row, standing}

-- ---- by the row of the first byte

with_carried : (first : ℕ) (known : Bool) (taken given : ℕ) (o : Operands) → (with_operands first known taken given o).carried ≡ known
unfolding with_operands
with_carried first known taken given (all vs next) = refl
with_carried first known taken given (cut place) = refl

with_next : (first : ℕ) (known : Bool) (taken given : ℕ) (o : Operands) → (with_operands first known taken given o).next ≡ comes_to o
unfolding with_operands comes_to
with_next first known taken given (all vs next) = refl
with_next first known taken given (cut place) = refl

row_carried : (b : ℕ) (row : Row) (s : List ℕ) (at : ℕ) → (by_row b row s at).carried ≡ true → (by_row b row s at).next ≡ row_comes_to row s at
unfolding by_row row_comes_to is_carried forms_of taken_of given_of
row_carried b (carried forms taken given does) s at e = with_next b true taken given (operands forms s at)
row_carried b (uncarried forms) s at e = absurd (false≢true (sym (with_carried b false _ _ (operands forms s at)) ∙ e))

row_uncarried : (b : ℕ) (row : Row) (s : List ℕ) (at : ℕ) → (by_row b row s at).carried ≡ false → at ≡ row_comes_to row s at
unfolding by_row row_comes_to is_carried forms_of taken_of given_of
row_uncarried b (carried forms taken given does) s at e = absurd (false≢true (sym e ∙ with_carried b true taken given (operands forms s at)))
row_uncarried b (uncarried forms) s at e = refl

-- ---- of a byte

module _ (s : List ℕ) (at : ℕ) where
  pub below_code : at < 22 → at ≡ fetches_to s at
  unfolding inside
  below_code h = sym (outside_stays s at (rw (lt-leb 22 at h)))

  module _ (low : 22 ≤ at) where
    pub carried_to : (standing s at).carried ≡ true → (standing s at).next ≡ fetches_to s at
    unfolding standing
    carried_to =
        decided (dec_lt at (length s))
        (λ h. rw (lt-ltb at (length s) h) (λ e. unfold fetches_to in rw (inside_holds 22 (length s) at low h) (row_carried (byte_at s at) (opcode (byte_at s at)) s (at + 1) e)))
        (λ n. let h : length s ≤ at = omega arith in rw (le-ltb at (length s) h) (λ e. sym (outside_stays s at (past_outside s at h))))

    pub uncarried_to : (standing s at).carried ≡ false → (at < length s) × (at + 1 ≡ fetches_to s at)
    unfolding standing
    uncarried_to =
        decided (dec_lt at (length s))
        (λ h. rw (lt-ltb at (length s) h) (λ e. (h, unfold fetches_to in rw (inside_holds 22 (length s) at low h) (row_uncarried (byte_at s at) (opcode (byte_at s at)) s (at + 1) e))))
        (λ n. let h : length s ≤ at = omega arith in rw (le-ltb at (length s) h) (λ e. absurd (false≢true (sym e))))
