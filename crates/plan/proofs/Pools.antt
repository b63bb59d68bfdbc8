-- The definition's outcome of LDC and of XJP is what the helpers answer. Above: Arms; below: Pushed of `pmachine`, Meanings, and Mirror.
use Prim.Native.Nat.{ℕ, ◌+◌, ◌≤◌}
use native.Mathlib.Omega.{arith}
use mathlib.Core.Path.{◌≡◌, refl, sym, ◌∙◌}
use mathlib.Core.List.{List}
use mathlib.Core.Bool.{Bool, true, false, not, cond}
use lib.Dec.{ltb, leb, eqb}
use lib.ListN.{length, get_or}
use borrow.Author.Tests.{le-ltb, le-leb, lt-leb, eqb-true, eqb-false, ltb-true, ltb-false, leb-true, leb-false}
use Rattle.basis.specs.Integer.{leq_of, sub_of}
use Rattle.operand.specs.Bytes.{word_by}
use Rattle.segment.specs.Head.{least, word, pool, real_pool}
use Rattle.pmachine.specs.State.{Registers}
use Rattle.pmachine.specs.Meaning.{constants, case_jump}
use Rattle.pmachine.specs.Pool.{in_pool, swaps, words_from, constants_of, in_table, arm_offset}
use Rattle.pmachine.specs.Step.{floor, case_target, outcome}
use Rattle.pmachine.specs.Sound.{Ranged}
use Rattle.pmachine.specs.Pushed.{ldc_comes, xjp_comes}
use Rattle.pmachine.proofs.Pool.{in_pool_lem, no_words}
use Rattle.pmachine.proofs.Pushed.{ldc_outcome, xjp_outcome}
use Rattle.plan.specs.declared.Facts.{Facts}
use Rattle.plan.specs.declared.Case.TheVariants.{By, On, Unread}
use Rattle.plan.specs.Mirror.{words_at, sex_by, blocked, case_at, chosen}
use Rattle.plan.specs.Told.{sex_of, Told}
use Rattle.plan.proofs.Links.{word_told}
use Rattle.plan.proofs.Meanings.{instr, jumped_is, stays}

-- the sex in which LDC's words are read, as a number
sex_by_lem : (s : List ℕ) (mode : ℕ) → eqb (sex_by (sex_of (least s)) mode) 0 ≡ not (swaps s mode)
unfolding sex_by swaps
sex_by_lem s mode = go (eqb mode 2) refl (least s) refl
  where
    go : (x : Bool) → eqb mode 2 ≡ x → (y : Bool) → least s ≡ y → eqb (sex_by (sex_of (least s)) mode) 0 ≡ not (swaps s mode)
    go true e true f = rw (e, f)
    go true e false f = rw (e, f)
    go false e y f = rw e

module _ (s shared w : List ℕ) (r : Registers) (h : Ranged s (length w) r) (n : ℕ) where
  pub is_constants : (mode b k : ℕ)
      → outcome s shared w r (instr (constants mode b k) 0 0 n)
      ≡ blocked s (sex_by (sex_of (least s)) mode) r k n (words_at (pool s) (real_pool s) (floor s) r.sp b k)
  unfolding constants_of words_from blocked words_at
  is_constants mode b k = ldc_outcome s shared w r mode b k n h.sp_high ∙ go _ refl _ refl _ refl _ refl
    where
      go : (y : Bool) → eqb k 0 ≡ y → (x : Bool) → eqb (pool s) 0 ≡ x → (z : Bool) → ltb (real_pool s) (pool s + b + k) ≡ z
          → (u : Bool) → ltb r.sp (floor s + k) ≡ u
          → ldc_comes s r mode b k n ≡ blocked s (sex_by (sex_of (least s)) mode) r k n (words_at (pool s) (real_pool s) (floor s) r.sp b k)
      go true e true d z f u g = rw (eqb-true k 0 e, no_words s b, d)
      go true e false d z f u g = rw (eqb-true k 0 e, no_words s b, d, le-leb (floor s + 0) r.sp (omega (arith, h.sp_low)))
      go false e x d true f u g =
          let some = in_pool_lem s b k (omega (arith, eqb-false k 0 e)) in
          rw (e, f, some, lt-leb (pool s + b + k) (real_pool s) (ltb-true _ _ f))
      go false e x d false f true g =
          let some = in_pool_lem s b k (omega (arith, eqb-false k 0 e)) in
          rw (e, f, g, some, le-leb (pool s + b + k) (real_pool s) (ltb-false _ _ f), lt-leb (floor s + k) r.sp (ltb-true _ _ g))
      go false e x d false f false g =
          let some = in_pool_lem s b k (omega (arith, eqb-false k 0 e)) in
          rw (
            e,
            f,
            g,
            some,
            le-leb (pool s + b + k) (real_pool s) (ltb-false _ _ f),
            le-leb (floor s + k) r.sp (ltb-false _ _ g),
            sex_by_lem s mode,
          )

  -- W1 and W2, the range, the word of the index, and its target
  case_found : (b i : ℕ) → xjp_comes s r b n i ≡ chosen (length s) r n (case_at s i b)
  unfolding in_table arm_offset case_target chosen case_at
  case_found b i = go _ refl _ refl _ refl _ refl
    where
      two : in_pool s b 2 ≡ leb (pool s + b + 2) (real_pool s)
      two = in_pool_lem s b 2 (omega arith)

      sum : pool s + (b + 2 + sub_of i (word s (pool s + b))) ≡ pool s + b + 2 + sub_of i (word s (pool s + b))
      sum = omega arith

      arm : in_pool s (b + 2 + sub_of i (word s (pool s + b))) 1 ≡ leb (pool s + b + 2 + sub_of i (word s (pool s + b)) + 1) (real_pool s)
      arm = in_pool_lem s (b + 2 + sub_of i (word s (pool s + b))) 1 (omega arith) ∙ rw sum

      go : (x : Bool) → ltb (real_pool s) (pool s + b + 2) ≡ x → (y : Bool) → eqb (leq_of (word s (pool s + b)) i) 1 ≡ y
          → (z : Bool) → eqb (leq_of i (word s (pool s + b + 1))) 1 ≡ z
          → (u : Bool) → leb (real_pool s) (pool s + b + 2 + sub_of i (word s (pool s + b))) ≡ u
          → xjp_comes s r b n i ≡ chosen (length s) r n (case_at s i b)
      go true d y e z f u g = rw (two, d, lt-leb (pool s + b + 2) (real_pool s) (ltb-true _ _ d))
      go false d false e z f u g = rw (two, d, e, le-leb (pool s + b + 2) (real_pool s) (ltb-false _ _ d), stays h 1)
      go false d true e false f u g = rw (two, d, e, f, le-leb (pool s + b + 2) (real_pool s) (ltb-false _ _ d), stays h 1)
      go false d true e true f true g =
          let past = leb-true (real_pool s) (pool s + b + 2 + sub_of i (word s (pool s + b))) g in
          let none = lt-leb (pool s + b + 2 + sub_of i (word s (pool s + b)) + 1) (real_pool s) (omega arith) in
          rw (two, d, e, f, g, le-leb (pool s + b + 2) (real_pool s) (ltb-false _ _ d), arm, none)
      go false d true e true f false g =
          let before = leb-false (real_pool s) (pool s + b + 2 + sub_of i (word s (pool s + b))) g in
          let there = le-leb (pool s + b + 2 + sub_of i (word s (pool s + b)) + 1) (real_pool s) (omega arith) in
          let lands = jumped_is (length s) r (r.sp + 1) n (word s (pool s + b + 2 + sub_of i (word s (pool s + b)))) in
          rw (two, d, e, f, g, le-leb (pool s + b + 2) (real_pool s) (ltb-false _ _ d), arm, there, sum, lands, stays h 1)

  pub is_case : (b : ℕ) → r.sp + 1 ≤ length w → outcome s shared w r (instr (case_jump b) 1 0 n) ≡ chosen (length s) r n (case_at s (get_or w r.sp 0) b)
  is_case b k = xjp_outcome s shared w r b n h.sp_low ∙ rw (le-ltb (length w) (r.sp + 1) k) (case_found b (get_or w r.sp 0))

-- the same, by the numbers that the code has of a segment
module _ (s : List ℕ) (f : Facts) (t : Told s f) where
  abbrev read : ℕ → ℕ
  read x = word_by (eqb f.sex 0) s x

  pub case_told : (i b : ℕ)
      → case_at s i b
      ≡ cond (ltb f.reals (f.pool + b + 2)) Unread
      (cond (eqb (leq_of (read (f.pool + b)) i) 1)
      (cond (eqb (leq_of i (read (f.pool + b + 1))) 1)
      (cond (leb f.reals (f.pool + b + 2 + sub_of i (read (f.pool + b)))) Unread (By (read (f.pool + b + 2 + sub_of i (read (f.pool + b))))))
      On)
      On)
  unfolding case_at
  case_told i b =
      rw (
        word_told s f t (f.pool + b),
        word_told s f t (f.pool + b + 1),
        word_told s f t (f.pool + b + 2 + sub_of i (word s (f.pool + b))),
        t.reals,
        t.pools,
      )

  -- W1 and W2 that were read, and an index between them: what is left to be told
  pub case_read : (i b low high x y : ℕ) → f.pool + b + 2 ≤ f.reals → low ≡ read (f.pool + b) → high ≡ read (f.pool + b + 1)
      → x ≡ leq_of low i → x ≡ 1 → y ≡ leq_of i high → y ≡ 1
      → case_at s i b ≡ cond (leb f.reals (f.pool + b + 2 + sub_of i low)) Unread (By (read (f.pool + b + 2 + sub_of i low)))
  case_read i b low high x y h l k p one q two =
      let first : leq_of low i ≡ 1 = sym p ∙ one in
      let second : leq_of i high ≡ 1 = sym q ∙ two in
      rw (case_told i b, le-ltb f.reals (f.pool + b + 2) h, ← l, ← k, first, second)
