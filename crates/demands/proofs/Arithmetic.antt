-- The rows of arithmetic, comparison and bits: `arithmetic` of specs/Arithmetic. Two constants are pushed, and a row's function is read on small numbers.
-- Above: Demands; below: specs/Arithmetic, Steps, Cases' words, and the integers' laws of `basis`.
use Prim.Native.Nat.{ℕ, ◌+◌, ◌-◌, ◌≤◌, ◌<◌, min}
use native.Mathlib.Nat.{mod-eq_of_lt}
use native.Mathlib.Omega.{arith}
use mathlib.Core.Path.{◌≡◌, refl, sym, ap, ◌∙◌}
use mathlib.Core.List.{List, [], ◌∷◌}
use lib.ListN.{length, get_or, set, length-set}
use lib.Seq.{get_or-set_same, set-set, set_comm}
use lib.IntN.{ℤ, pos}
use lib.Signed.{le_z}
use lib.Dec.{eqb}
use borrow.Author.Tests.{le-leb, eqb-true, ne_eqb}
use Rattle.basis.specs.Integer.{modulo, integer_of, word_of, unary, binary, flipped, truth, ordered}
use Rattle.basis.specs.Integer.{neg_of, mag_of, inc_of, dec_of, not_of, add_of, sub_of, mul_of, quot_of, rem_of, eq_of, ne_of, leq_of, geq_of, leu_of, geu_of, and_of, or_of}
use Rattle.basis.proofs.Integer.{low}
use Rattle.pmachine.specs.State.{Registers}
use Rattle.pmachine.specs.Meaning.{Meaning, constant, division, unary as unary-of, binary as binary-of}
use Rattle.pmachine.specs.Opcode.{carried, opcode, row_in, appendix_b}
use Rattle.pmachine.specs.Step.{goes, moved, lowered, asks, effect}
use Rattle.pmachine.specs.Run.{written}
use Rattle.demands.specs.Arithmetic.{OfTwo, OfOne, Leaves, Arithmetic}
use Rattle.pmachine.proofs.Rows.{at_number}
use Rattle.demands.proofs.Steps.{coded, no_operand, decoded, Fine, goes_on, more, last}
use Rattle.demands.proofs.Cases.{read_same, read_other}

-- SLDC
small_constant : (x : ℕ) → x ≤ 31 → opcode x ≡ carried [] 0 1 (λ _. constant x)
unfolding opcode row_in appendix_b
small_constant x h = rw (le-leb x 31 h)

-- a number to 31 is its own integer
own : (x : ℕ) → x ≤ 31 → integer_of 16 x ≡ pos x
own x h = low 16 x (omega arith) (omega arith)

small_word : (x : ℕ) → x ≤ 32 → word_of 16 (pos x) ≡ x
unfolding word_of modulo
small_word x h = let below : x < 65536 = omega arith in mod-eq_of_lt below

small_order : (x y : ℕ) → x ≤ 31 → y ≤ 31 → ordered 16 x y ≡ le_z (pos x) (pos y)
unfolding ordered
small_order x y a b = rw (own x a, own y b)

-- computed at each number below 32
small_flipped : (x : ℕ) → x ≤ 31 → flipped 16 x ≡ 65535 - x
unfolding flipped
small_flipped x a = eqb-true (flipped 16 x) (65535 - x) (at_number (λ (k : ℕ). eqb (flipped 16 k) (65535 - k)) 32 refl x (omega arith))

-- two pushes and the operation: SP is down to the second
lowest_of : (a x y : ℕ) → y ≤ x → min (min (min a x) y) x ≡ min a y
lowest_of a x y h = omega arith

module _ (x y : ℕ) (a : x ≤ 31) (b : y ≤ 31) where
  small_unary : (f : ℤ → ℤ) → unary 16 f x ≡ word_of 16 (f (pos x))
  unfolding unary
  small_unary f = rw (own x a)

  small_binary : (f : ℤ → ℤ → ℤ) → binary 16 f x y ≡ word_of 16 (f (pos x) (pos y))
  unfolding binary
  small_binary f = rw (own x a, own y b)

  -- a meaning that makes a word of x below TOS and y on top
  of_two : {m : Meaning} {word : ℕ} (byte : ℕ) → opcode byte ≡ carried [] 2 1 (λ _. m)
      → ((s shared w : List ℕ) (r : Registers) (sp n : ℕ) → get_or w (r.sp + 1) 0 ≡ x → get_or w (r.sp + 0) 0 ≡ y
      → Fine (asks s shared w r n m) × (effect s shared w r sp n m ≡ goes (moved r sp n) sp (word ∷ [])))
      → OfTwo byte x y word
  unfolding effect asks written
  of_two {word = word} byte e makes s shared w r at room =
      let c = r.counter in
      let i = r.sp in
      let h = coded s x (y ∷ byte ∷ []) c at.code at.are in
      let some = at.some in
      let w₁ = set w (i - 1) x in
      let w₂ = set w₁ (i - 2) y in
      let size₁ : length w₁ ≡ length w = length-set w (i - 1) x in
      let size₂ : length w₂ ≡ length w = length-set w₁ (i - 2) y ∙ size₁ in
      let below : get_or w₂ (i - 2 + 1) 0 ≡ x = read_other w₁ (i - 2) (i - 2 + 1) y {k = i - 1} (λ e. omega arith) (omega arith) ∙ get_or-set_same w (i - 1) x 0 (omega arith) in
      let top : get_or w₂ (i - 2 + 0) 0 ≡ y = read_same w₁ (i - 2) (i - 2 + 0) y (omega arith) (omega arith) in
      let made = makes s shared w₂ (lowered (moved (lowered (moved r (i - 1) (c + 1))) (i - 2) (c + 2))) (i - 1) (c + 3) below top in
      more _ _ _
      (goes_on _ _ _ _ (i - 1) (c + 1) (decoded h.0 (small_constant x a) no_operand refl) (omega arith) (omega arith) tt refl (omega arith))
      2
      (more _ _ _
      (goes_on _ _ _ _ (i - 2) (c + 2) (decoded h.1.0 (small_constant y b) no_operand (omega arith)) (omega arith) (omega arith) tt refl
      (omega arith))
      1
      (last _ _ _
      (goes_on _ _ _ _ (i - 1) (c + 3) (decoded h.1.1.0 e no_operand (omega arith)) (omega arith) (omega arith) made.0 made.1
      (omega arith))
      ∙ rw (lowest_of r.lowest (i - 1) (i - 2) (omega arith), ← (set_comm w (i - 2) (i - 1) y x (λ k. omega arith)), set-set (set w (i - 2) y) (i - 1) x word)))

  two : {f : ℕ → ℕ → ℕ} {word : ℕ} (byte : ℕ) → opcode byte ≡ carried [] 2 1 (λ _. binary-of f) → f x y ≡ word → OfTwo byte x y word
  unfolding effect asks
  two byte e is = of_two byte e (λ s shared w r sp n one top. (tt, rw (one, top, is)))

  divided : {f : ℕ → ℕ → ℕ} {word : ℕ} (byte : ℕ) → opcode byte ≡ carried [] 2 1 (λ _. division f) → f x y ≡ word → (y ≡ 0 → ⊥) → OfTwo byte x y word
  unfolding effect asks
  divided byte e is some = of_two byte e (λ s shared w r sp n one top. ((ne_eqb _ 0 (λ z. some (sym top ∙ z)), tt), rw (one, top, is)))

  one : {f : ℕ → ℕ} {word : ℕ} (byte : ℕ) → opcode byte ≡ carried [] 1 1 (λ _. unary-of f) → f x ≡ word → OfOne byte x word
  unfolding effect asks written
  one {f} {word} byte e is s shared w r at room =
      let c = r.counter in
      let i = r.sp in
      let h = coded s x (byte ∷ []) c at.code at.are in
      let some = at.some in
      let w₁ = set w (i - 1) x in
      let size : length w₁ ≡ length w = length-set w (i - 1) x in
      let top : get_or w₁ (i - 1 + 0) 0 ≡ x = read_same w (i - 1) (i - 1 + 0) x (omega arith) (omega arith) in
      let deep : min (min r.lowest (i - 1)) (i - 1) ≡ min r.lowest (i - 1) = omega arith in
      more _ _ _
      (goes_on _ _ _ _ (i - 1) (c + 1) (decoded h.0 (small_constant x a) no_operand refl) (omega arith) (omega arith) tt refl (omega arith))
      1
      (last _ _ _
      (goes_on _ _ _ _ (i - 1) (c + 2) (decoded h.1.0 e no_operand (omega arith)) (omega arith) (omega arith) tt refl (omega arith))
      ∙ rw (deep, top, is, set-set w (i - 1) x word))

  leaves : Leaves x y
  unfolding opcode row_in appendix_b add_of neg_of mag_of inc_of dec_of not_of sub_of mul_of quot_of rem_of eq_of ne_of leq_of geq_of leu_of geu_of and_of or_of truth
  leaves =
      record {
        ADI = two 162 refl (small_binary _);
        SBI = two 163 refl (small_binary _);
        MPI = two 140 refl (small_binary _);
        DVI = divided 141 refl (small_binary _);
        MODI = divided 143 refl (small_binary _);
        EQUI = two 176 refl refl;
        NEQI = two 177 refl refl;
        LEQI = two 178 refl (ap truth (small_order x y a b));
        GEQI = two 179 refl (ap truth (small_order y x b a));
        LEUSW = two 180 refl refl;
        GEUSW = two 181 refl refl;
        LAND = two 161 refl refl;
        LOR = two 160 refl refl;
        ABI = one 224 refl (small_unary _ ∙ small_word x (omega arith));
        NGI = one 225 refl (small_unary _);
        LNOT = one 229 refl (small_flipped x a);
        INCI = one 237 refl (small_unary _ ∙ small_word (x + 1) (omega arith));
        DECI = one 238 refl (small_unary _);
      }

pub arithmetic : Arithmetic
arithmetic = leaves
