-- Laws of the words that LDC pushes: how many they are, and which is the last, by induction over their number; and of those that can be read.
-- Above: Judged, Pushed, and the loop that writes them; below: Pool of specs.
use Prim.Native.Nat.{ℕ, zero, suc, ◌+◌, ◌≤◌}
use native.Mathlib.Nat.{add-zero}
use native.Mathlib.Omega.{arith}
use mathlib.Core.Path.{◌≡◌, refl, sym, ap, ◌∙◌}
use mathlib.Core.List.{List, [], ◌∷◌, ◌++◌, reverse, reverse-cons}
use mathlib.Core.Bool.{Bool, true, false, ◌&&◌, ◌||◌, not}
use lib.Dec.{leb, eqb}
use lib.ListN.{length, length-reverse}
use borrow.Author.Tests.{ne_eqb, eqb-false, lt-leb, not-true}
use Rattle.basis.proofs.Bools.{both_true}
use Rattle.operand.specs.Bytes.{word_by}
use Rattle.segment.specs.Head.{pool, real_pool}
use Rattle.pmachine.specs.Pool.{in_pool, swaps, words_from, constants_of, on_top}

module _ (sex : Bool) (s : List ℕ) where
  pub length_from : (from n : ℕ) → length (words_from sex s from n) ≡ n
  unfolding words_from
  length_from from zero = refl
  length_from from (suc n) = ap suc (length_from (from + 1) n)

  -- one word more is pushed last, and so lies on top
  pub one_more : (from n : ℕ) → words_from sex s from (suc n) ≡ words_from sex s from n ++ (word_by sex s (from + n) ∷ [])
  unfolding words_from
  one_more from zero = ap (λ (k : ℕ). word_by sex s k ∷ []) (sym (add-zero from))
  one_more from (suc n) =
      let e : from + 1 + n ≡ from + suc n = omega arith in
      ap (λ (ws : List ℕ). word_by sex s from ∷ ws) (one_more (from + 1) n ∙ rw e)

pub reverse_snoc : (ws : List ℕ) (v : ℕ) → reverse (ws ++ (v ∷ [])) ≡ v ∷ reverse ws
reverse_snoc [] v = refl
reverse_snoc (w ∷ ws) v =
    reverse-cons w (ws ++ (v ∷ [])) ∙ ap (λ (x : List ℕ). x ++ (w ∷ [])) (reverse_snoc ws v) ∙ ap (λ (x : List ℕ). v ∷ x) (sym (reverse-cons w ws))

pub top_one : (sex : Bool) (s : List ℕ) (from n : ℕ)
    → on_top (words_from sex s from (suc n)) ≡ word_by sex s (from + n) ∷ on_top (words_from sex s from n)
unfolding on_top
top_one sex s from n = ap reverse (one_more sex s from n) ∙ reverse_snoc (words_from sex s from n) (word_by sex s (from + n))

pub length_top : (sex : Bool) (s : List ℕ) (from n : ℕ) → length (on_top (words_from sex s from n)) ≡ n
unfolding on_top
length_top sex s from n = length-reverse (words_from sex s from n) ∙ length_from sex s from n

pub length_constants : (s : List ℕ) (mode b n : ℕ) → length (on_top (constants_of s mode b n)) ≡ n
unfolding constants_of
length_constants s mode b n = length_top (not (swaps s mode)) s (pool s + b) n

-- ---- words that can be read

module _ (s : List ℕ) (b : ℕ) where
  -- of some words the real pool's start alone decides: with no pool it is 0
  pub in_pool_lem : (n : ℕ) → 1 ≤ n → in_pool s b n ≡ leb (pool s + b + n) (real_pool s)
  unfolding in_pool real_pool
  in_pool_lem n h = go (eqb (pool s) 0) refl
    where
      some : eqb n 0 ≡ false
      some = ne_eqb n 0 (λ z. omega (arith, h, z))

      go : (x : Bool) → eqb (pool s) 0 ≡ x → in_pool s b n ≡ leb (pool s + b + n) (real_pool s)
      go true e = rw (e, lt-leb (pool s + b + n) 0 (omega arith))
      go false e = rw (e, some)

  -- of no words only a pool is asked for
  pub no_words : in_pool s b 0 ≡ not (eqb (pool s) 0)
  unfolding in_pool
  no_words = go (eqb (pool s) 0)
    where
      go : (x : Bool) → (not x && true) ≡ not x
      go true = refl
      go false = refl

  -- words that can be read are of a pool that is there
  pub some_pool : (n : ℕ) → in_pool s b n ≡ true → 1 ≤ pool s
  unfolding in_pool
  some_pool n e =
      let none = not-true (eqb (pool s) 0) (both_true (not (eqb (pool s) 0)) (eqb n 0 || leb (pool s + b + n) (real_pool s)) e).0 in
      omega (arith, eqb-false (pool s) 0 none)
