-- Laws of the faults of LDC and XJP: what each way out of the code's checks comes to.
-- Above: proofs of tables; below: Cases of specs, and Pool and Step of `pmachine`. Assumes nothing.
use Prim.Native.Nat.{ℕ, ◌+◌, ◌≤◌, ◌<◌}
use native.Mathlib.Omega.{arith}
use mathlib.Core.Path.{◌≡◌, refl, sym, ap, ◌∙◌}
use mathlib.Core.List.{List}
use mathlib.Core.Bool.{Bool, true, false}
use borrow.Author.Tests.{lt-leb, le-leb, eq-eqb, ne_eqb, ltb-true, ltb-false}
use lib.ListN.{length}
use lib.Dec.{ltb}
use Rattle.basis.specs.Bools.{inside}
use Rattle.basis.specs.Integer.{leq_of, sub_of}
use Rattle.operand.specs.Bytes.{word_by}
use Rattle.segment.specs.Head.{pool, word, real_pool, head_of}
use Rattle.segment.specs.declared.Segment.{Segment}
use Rattle.pmachine.specs.Pool.{in_pool, in_table, arm_offset, lowest, highest}
use Rattle.pmachine.specs.Step.{target, case_target}
use Rattle.cause.specs.Cases.{arm_fault, case_fault}

-- ---- whether n words of the pool can be read

pub no_pool : (s : List ℕ) (b n : ℕ) → pool s ≡ 0 → in_pool s b n ≡ false
unfolding in_pool
no_pool s b n none = rw (eq-eqb (pool s) 0 none)

pub no_words : (s : List ℕ) (b n : ℕ) → (pool s ≡ 0 → ⊥) → n ≡ 0 → in_pool s b n ≡ true
unfolding in_pool
no_words s b n some zero = rw (ne_eqb (pool s) 0 some, eq-eqb n 0 zero)

pub low_words : (s : List ℕ) (b n : ℕ) → (pool s ≡ 0 → ⊥) → (n ≡ 0 → ⊥) → pool s + b + n ≤ real_pool s → in_pool s b n ≡ true
unfolding in_pool
low_words s b n some any low = rw (ne_eqb (pool s) 0 some, ne_eqb n 0 any, le-leb (pool s + b + n) (real_pool s) low)

pub high_words : (s : List ℕ) (b n : ℕ) → (pool s ≡ 0 → ⊥) → (n ≡ 0 → ⊥) → real_pool s < pool s + b + n → in_pool s b n ≡ false
unfolding in_pool
high_words s b n some any high = rw (ne_eqb (pool s) 0 some, ne_eqb n 0 any, lt-leb (pool s + b + n) (real_pool s) high)

one : ◌≡◌ {A = ℕ} 1 0 → ⊥
one z = omega arith

two : ◌≡◌ {A = ℕ} 2 0 → ⊥
two z = omega arith

-- ---- the faults of XJP, of an index i

pub table_out : (s : List ℕ) (b next i : ℕ) → in_pool s b 2 ≡ false → case_fault s b next i ≡ 6
unfolding case_fault
table_out s b next i out = rw out

pub index_out : (s : List ℕ) (b next i : ℕ) → in_pool s b 2 ≡ true → in_table s b i ≡ false → case_fault s b next i ≡ 0
unfolding case_fault
index_out s b next i read out = rw (read, out)

pub below_lowest : (s : List ℕ) (b i : ℕ) → (leq_of (lowest s b) i ≡ 1 → ⊥) → in_table s b i ≡ false
unfolding in_table
below_lowest s b i below = rw (ne_eqb (leq_of (lowest s b) i) 1 below)

pub above_highest : (s : List ℕ) (b i : ℕ) → leq_of (lowest s b) i ≡ 1 → (leq_of i (highest s b) ≡ 1 → ⊥) → in_table s b i ≡ false
unfolding in_table
above_highest s b i from above = rw (eq-eqb (leq_of (lowest s b) i) 1 from, ne_eqb (leq_of i (highest s b)) 1 above)

pub in_range_lem : (s : List ℕ) (b i : ℕ) → leq_of (lowest s b) i ≡ 1 → leq_of i (highest s b) ≡ 1 → in_table s b i ≡ true
unfolding in_table
in_range_lem s b i from to = rw (eq-eqb (leq_of (lowest s b) i) 1 from, eq-eqb (leq_of i (highest s b)) 1 to)

-- an index in range: its word of the table is judged, and then where that leads
pub by_arm : (s : List ℕ) (b next i at : ℕ) → (pool s ≡ 0 → ⊥) → in_pool s b 2 ≡ true → in_table s b i ≡ true → at ≡ pool s + arm_offset s b i
    → arm_fault s at next ≡ case_fault s b next i
unfolding arm_fault case_fault case_target
by_arm s b next i at some read is at-is = ap (λ (a : ℕ). arm_fault s a next) at-is ∙ go _ refl _ refl
  where
    arm : ℕ
    arm = arm_offset s b i

    low : ltb (pool s + arm) (real_pool s) ≡ true → pool s + arm + 1 ≤ real_pool s
    low e = omega (arith, ltb-true (pool s + arm) (real_pool s) e)

    high : ltb (pool s + arm) (real_pool s) ≡ false → real_pool s < pool s + arm + 1
    high e = omega (arith, ltb-false (pool s + arm) (real_pool s) e)

    go : (x : Bool) → ltb (pool s + arm) (real_pool s) ≡ x → (y : Bool) → inside 22 (length s) (target next (word s (pool s + arm))) ≡ y
        → arm_fault s (pool s + arm) next ≡ case_fault s b next i
    go true e true f = rw (e, f, read, is, low_words s arm 1 some one (low e))
    go true e false f = rw (e, f, read, is, low_words s arm 1 some one (low e))
    go false e y f = rw (e, read, is, high_words s arm 1 some one (high e))

-- ---- the ways out of `case`, by the header's numbers h and what it reads with them

module _ (s : List ℕ) (b next i : ℕ) (h : Segment) (is : h ≡ head_of s) where
  pool_is : h.pool ≡ pool s
  pool_is = ap (λ (x : Segment). x.pool) is

  ends : h.reals ≡ real_pool s
  ends = ap (λ (x : Segment). x.reals) is

  pub none : h.pool ≡ 0 → 6 ≡ case_fault s b next i
  none z = sym (table_out s b next i (no_pool s b 2 (sym pool_is ∙ z)))

  module _ (some : h.pool ≡ 0 → ⊥) where
    there : pool s ≡ 0 → ⊥
    there z = some (pool_is ∙ z)

    pub high : h.reals < h.pool + b + 2 → 6 ≡ case_fault s b next i
    high out = sym (table_out s b next i (high_words s b 2 there two (omega (arith, pool_is, ends, out))))

    module _ (fit : h.pool + b + 2 ≤ h.reals) (low from : ℕ) (low_read : low ≡ word_by h.least s (h.pool + b)) (compared : from ≡ leq_of low i) where
      read : in_pool s b 2 ≡ true
      read = low_words s b 2 there two (omega (arith, pool_is, ends, fit))

      low_is : low ≡ lowest s b
      unfolding word
      low_is = low_read ∙ ap (λ (x : Segment). word_by x.least s (x.pool + b)) is

      from_is : from ≡ leq_of (lowest s b) i
      from_is = compared ∙ ap (λ (x : ℕ). leq_of x i) low_is

      pub below : (from ≡ 1 → ⊥) → 0 ≡ case_fault s b next i
      below past = sym (index_out s b next i read (below_lowest s b i (λ (z : leq_of (lowest s b) i ≡ 1). past (from_is ∙ z))))

      module _ (holds : from ≡ 1) (high to : ℕ) (high_read : high ≡ word_by h.least s (h.pool + b + 1)) (compared' : to ≡ leq_of i high) where
        to_is : to ≡ leq_of i (highest s b)
        unfolding word
        to_is = compared' ∙ ap (λ (x : ℕ). leq_of i x) (high_read ∙ ap (λ (x : Segment). word_by x.least s (x.pool + b + 1)) is)

        pub above : (to ≡ 1 → ⊥) → 0 ≡ case_fault s b next i
        above past = sym (index_out s b next i read (above_highest s b i (sym from_is ∙ holds) (λ (z : leq_of i (highest s b) ≡ 1). past (to_is ∙ z))))

        pub chosen : (d at : ℕ) → to ≡ 1 → d ≡ sub_of i low → at ≡ h.pool + b + 2 + d → arm_fault s at next ≡ case_fault s b next i
        unfolding arm_offset
        chosen d at last sub at-is =
            let inside_table = in_range_lem s b i (sym from_is ∙ holds) (sym to_is ∙ last) in
            let d-is : d ≡ sub_of i (lowest s b) = sub ∙ ap (λ (x : ℕ). sub_of i x) low_is in
            by_arm s b next i at there read inside_table (omega (arith, at-is, pool_is, d-is))
