-- What stands at a byte of the code is what the machine decodes there.
-- Above: the proof of `read`; below: Rows, Steps, and the decoding of `pmachine`. Assumes nothing.
use Prim.Native.Nat.{ℕ, ◌+◌, ◌≤◌, ◌<◌}
use native.Mathlib.Omega.{arith}
use mathlib.Core.Path.{◌≡◌, refl, sym, ap, ◌∙◌}
use mathlib.Core.Bool.{true, false}
use mathlib.Core.List.{List, [], ◌∷◌}
use lib.ListN.{length, take, get_or-eq_default}
use borrow.Author.Tests.{le-leb, lt-ltb}
use Rattle.basis.specs.Bools.{inside}
use Rattle.operand.specs.Bytes.{byte_at}
use Rattle.operand.specs.Operand.{Form, Fetched, got, out, fetched, form_at}
use Rattle.pmachine.specs.Meaning.{Meaning}
use Rattle.pmachine.specs.Opcode.{Row, carried, uncarried, is_carried, forms_of, taken_of, given_of, one, two, three, opcode}
use Rattle.pmachine.specs.Decoding.{Operands, all, cut, joined, and_then, operands, faulty, decoded_with, row_decoded, decode}
use Rattle.instruction.specs.declared.Instruction.{Instruction}
use Rattle.instruction.specs.Standing.{cut_of, with_operands, by_row}
use Rattle.instruction.specs.Decodes.{whole_decoded, decoding_of, Reads}
use Rattle.instruction.proofs.Rows.{row_tells}
use Rattle.instruction.proofs.Steps.{byte_there, byte_missing, stands_in, stands_out}

-- ---- there are as many operands as forms

abbrev Sized : List Form → Operands → Type 0
Sized forms (all vs next) = length vs ≡ length forms
Sized forms (cut place) = Unit {0}

joined_sized : (f : Form) (fs : List Form) (v : ℕ) (x : Operands) → Sized fs x → Sized (f ∷ fs) (joined v x)
unfolding joined
joined_sized f fs v (all vs next) e = omega (arith, e)
joined_sized f fs v (cut place) e = tt

then_sized : (f : Form) (fs : List Form) (s : List ℕ) (o : Fetched) → ((at : ℕ) → Sized fs (operands fs s at)) → Sized (f ∷ fs) (and_then o (operands fs s))
unfolding and_then
then_sized f fs s (got v next) r = joined_sized f fs v (operands fs s next) (r next)
then_sized f fs s (out place) r = tt

sized : (forms : List Form) (s : List ℕ) (at : ℕ) → Sized forms (operands forms s at)
unfolding operands
sized [] s at = refl
sized (f ∷ fs) s at = then_sized f fs s (fetched f s at) (sized fs s)

-- so x, y and z are all of them
three_at_most : (vs : List ℕ) (n : ℕ) → length vs ≡ n → n ≤ 3 → take n (one vs ∷ two vs ∷ three vs ∷ []) ≡ vs
three_at_most [] n e h = rw (sym e)
three_at_most (a ∷ []) n e h = rw (sym e)
three_at_most (a ∷ (b ∷ [])) n e h = rw (sym e)
three_at_most (a ∷ (b ∷ (c ∷ []))) n e h = rw (sym e)
three_at_most (a ∷ (b ∷ (c ∷ (k ∷ vs)))) n e h = let z : ⊥ = omega arith in absurd z

-- ---- the decoding

module _ (b : ℕ) (forms : List Form) (taken given : ℕ) (does : List ℕ → Meaning) (e : opcode b ≡ carried forms taken given does) (h : length forms ≤ 3) where
  with_decoded : (o : Operands) → Sized forms o → decoding_of (with_operands b true taken given o) ≡ decoded_with forms taken given does o
  unfolding with_operands decoding_of whole_decoded
  with_decoded (all vs next) l = rw (e, three_at_most vs (length forms) l h)
  with_decoded (cut place) l = unfold decoded_with in refl

not_decoded : (b : ℕ) (o : Operands) → decoding_of (with_operands b false 0 0 o) ≡ faulty 2
unfolding with_operands decoding_of
not_decoded b (all vs next) = refl
not_decoded b (cut place) = refl

row_decoded_lem : (b : ℕ) (row : Row) (s : List ℕ) (at : ℕ) → opcode b ≡ row → length (forms_of row) ≤ 3 → decoding_of (by_row b row s at) ≡ row_decoded row s at
unfolding by_row row_decoded is_carried forms_of taken_of given_of
row_decoded_lem b (carried forms taken given does) s at e h = with_decoded b forms taken given does e h (operands forms s at) (sized forms s at)
row_decoded_lem b (uncarried forms) s at e h = not_decoded b (operands forms s at)

row_first : (b : ℕ) (row : Row) (s : List ℕ) (at : ℕ) → (by_row b row s at).first ≡ b
unfolding by_row with_operands
row_first b row s at = go (operands (forms_of row) s at)
  where
    go : (o : Operands) → (with_operands b (is_carried row) (taken_of row) (given_of row) o).first ≡ b
    go (all vs next) = refl
    go (cut place) = refl

-- ---- the answer

module _ (s : List ℕ) (at : ℕ) (r : Instruction) where
  reads_out : r ≡ cut_of 0 true at → length s ≤ at → Reads s at r
  reads_out q h =
      record {
        stands = q ∙ stands_out s at h;
        byte = ap (λ (i : Instruction). i.first) q ∙ sym (get_or-eq_default s 0 h);
        decodes = λ l k. let z : ⊥ = omega arith in absurd z;
      }

  reads_in : byte_at s at < 256 → at < length s → r ≡ by_row (byte_at s at) (opcode (byte_at s at)) s (at + 1) → Reads s at r
  unfolding decode inside
  reads_in k h q =
      record {
        stands = q ∙ stands_in s at h;
        byte = ap (λ (i : Instruction). i.first) q ∙ row_first (byte_at s at) (opcode (byte_at s at)) s (at + 1);
        decodes = λ l _.
            rw (q, le-leb 22 at l, lt-ltb at (length s) h)
            (row_decoded_lem (byte_at s at) (opcode (byte_at s at)) s (at + 1) refl (row_tells (byte_at s at) _ k refl).few);
      }

  -- by what the first byte was fetched as
  pub reads_got : (v next : ℕ) → byte_at s at < 256 → got v next ≡ fetched (form_at 1) s at → r ≡ by_row v (opcode v) s next → Reads s at r
  reads_got v next k g q =
      let b = byte_there s at v next g in
      reads_in k b.0 (q ∙ ap (λ (n : ℕ). by_row n (opcode n) s next) b.1 ∙ ap (by_row (byte_at s at) (opcode (byte_at s at)) s) b.2)

  pub reads_cut : (place : ℕ) → out place ≡ fetched (form_at 1) s at → r ≡ cut_of 0 true place → Reads s at r
  reads_cut place g q = let b = byte_missing s at place g in reads_out (q ∙ ap (cut_of 0 true) b.1) b.0
