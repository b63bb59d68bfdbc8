-- Words written swapped from a source: what stands at each byte after it, one word as two stores, and that writing for one rule and then for
-- another is writing once for both. Above: the positions of a segment, and the loops of the code. Below: lists by their elements.
-- Assumes nothing.
use Prim.Native.Nat.{ℕ, zero, suc, ◌+◌, ◌-◌, ◌*◌, ◌/◌, ◌%◌, ◌≤◌, ◌<◌}
use native.Mathlib.Nat.{not-suc-le-zero, le_of_suc-le-suc, add-zero, add-suc, suc-add, eq-or-lt_of_le}
use native.Mathlib.Decide.{dec_le}
use native.Mathlib.Omega.{arith}
use mathlib.Core.Path.{◌≡◌, refl, sym, ap, ◌∙◌}
use mathlib.Core.Logic.{◌⊎◌, inl, inr, ⊎_elim}
use mathlib.Core.List.{List, ◌++◌}
use mathlib.Core.Bool.{Bool, true, false, ◌||◌, cond}
use borrow.Author.Tests.{eq-eqb, ne_eqb, eqb-true, eqb-false}
use lib.ListN.{length, get_or, set, length-set, length-append, get_or-append}
use lib.Seq.{get_or-set_same, get_or-set_other, get_or-append-add, ext_get_or}
use lib.Dec.{eqb}
use Rattle.operand.specs.Bytes.{byte_at}
use Rattle.turning.specs.Turn.{other, list_of, swap_byte, swap_at}

-- ---- a list by its elements

length_list_of : (f : ℕ → ℕ) (i n : ℕ) → length (list_of f i n) ≡ n
unfolding list_of
length_list_of f i zero = refl
length_list_of f i (suc n) = ap suc (length_list_of f (suc i) n)

get_or_list_of : (f : ℕ → ℕ) (i n k : ℕ) → k < n → get_or (list_of f i n) k 0 ≡ f (i + k)
unfolding list_of
get_or_list_of f i zero k l = absurd (not-suc-le-zero l)
get_or_list_of f i (suc n) zero l = ap f (sym (add-zero i))
get_or_list_of f i (suc n) (suc k) l = get_or_list_of f (suc i) n k (le_of_suc-le-suc l) ∙ ap f (suc-add i k ∙ sym (add-suc i k))

get_d_past : (xs ys : List ℕ) (i : ℕ) → length xs ≤ i → get_or (xs ++ ys) i 0 ≡ get_or ys (i - length xs) 0
get_d_past xs ys i l = let e : length xs + (i - length xs) ≡ i = omega arith in rw e at (get_or-append-add xs ys (i - length xs) 0)

-- ---- the other byte of a word

pub halves : (i : ℕ) → (i % 2 ≡ 0) ⊎ (i % 2 ≡ 1)
halves i = let l : i % 2 ≤ 1 = omega arith in ⊎_elim inr (λ (m : i % 2 < 1). inl (omega arith)) (eq-or-lt_of_le l)

module _ (i : ℕ) where
  pub other_even : i % 2 ≡ 0 → other i ≡ i + 1
  unfolding other
  other_even e = simp (eq-eqb (i % 2) 0 e)

  pub other_odd : i % 2 ≡ 1 → other i ≡ i - 1
  unfolding other
  other_odd e = simp (ne_eqb (i % 2) 0 (λ (z : i % 2 ≡ 0). omega arith))

-- ---- what stands where after words are written swapped

module _ (p : ℕ → Bool) (s out : List ℕ) where
  pub length_swap : length (swap_at p s out) ≡ length out
  unfolding swap_at
  length_swap = length_list_of (swap_byte p s out) 0 (length out)

  pub get_or_swap : (i : ℕ) → i < length out → get_or (swap_at p s out) i 0 ≡ swap_byte p s out i
  unfolding swap_at
  get_or_swap i l = let e : 0 + i ≡ i = omega arith in get_or_list_of (swap_byte p s out) 0 (length out) i l ∙ rw e

  -- byte i where its word is written, and where it is not
  pub swap_in : (i : ℕ) → p (i / 2) ≡ true → swap_byte p s out i ≡ byte_at s (other i)
  unfolding swap_byte
  swap_in i h = rw h refl

  pub swap_out : (i : ℕ) → p (i / 2) ≡ false → swap_byte p s out i ≡ byte_at out i
  unfolding swap_byte
  swap_out i h = rw h refl

  -- a list that holds these bytes
  is_swap : (l : List ℕ) → length l ≡ length out → ((i : ℕ) → i < length out → get_or l i 0 ≡ swap_byte p s out i) → l ≡ swap_at p s out
  is_swap l n h =
      ext_get_or 0 l (swap_at p s out) (n ∙ sym length_swap) (λ (i : ℕ) (b : i < length l). h i (omega arith) ∙ sym (get_or_swap i (omega arith)))

-- rules that name the same words write the same
pub swap_same : (p q : ℕ → Bool) (s out : List ℕ) → ((w : ℕ) → p w ≡ q w) → swap_at p s out ≡ swap_at q s out
swap_same p q s out h = λ j. swap_at (λ w. h w j) s out

-- no word written
pub swap_none : (p : ℕ → Bool) (s out : List ℕ) → ((w : ℕ) → p w ≡ false) → swap_at p s out ≡ out
swap_none p s out h = sym (is_swap p s out out refl (λ i l. sym (swap_out p s out i (h (i / 2)))))

cond_or : (a b : Bool) (x y : ℕ) → cond b x (cond a x y) ≡ cond (a || b) x y
cond_or true true x y = refl
cond_or true false x y = refl
cond_or false b x y = refl

-- written for one rule and then for another: as written once for both
pub swap_join : (p q : ℕ → Bool) (s out : List ℕ) → swap_at q s (swap_at p s out) ≡ swap_at (λ w. p w || q w) s out
unfolding swap_byte
swap_join p q s out =
    let n = length_swap p s out in
    is_swap (λ w. p w || q w) s out (swap_at q s (swap_at p s out)) (length_swap q s (swap_at p s out) ∙ n)
    (λ (i : ℕ) (l : i < length out). get_or_swap q s (swap_at p s out) i (omega arith)
    ∙ rw (get_or_swap p s out i l) (cond_or (p (i / 2)) (q (i / 2)) (byte_at s (other i)) (byte_at out i)))

-- ---- one word, as the two stores of the code

module _ (s out : List ℕ) (w : ℕ) (r : 2 * w + 1 < length out) where
  abbrev pair : List ℕ
  pair = set (set out (2 * w) (byte_at s (2 * w + 1))) (2 * w + 1) (byte_at s (2 * w))

  low : get_or pair (2 * w) 0 ≡ byte_at s (2 * w + 1)
  low =
      get_or-set_other (set out (2 * w) (byte_at s (2 * w + 1))) (2 * w + 1) (2 * w) (byte_at s (2 * w)) 0 (λ (e : 2 * w ≡ 2 * w + 1). omega arith)
      ∙ get_or-set_same out (2 * w) (byte_at s (2 * w + 1)) 0 (omega arith)

  high : get_or pair (2 * w + 1) 0 ≡ byte_at s (2 * w)
  high = get_or-set_same (set out (2 * w) (byte_at s (2 * w + 1))) (2 * w + 1) (byte_at s (2 * w)) 0 (omega (arith, length-set out (2 * w) (byte_at s (2 * w + 1))))

  both : (i : ℕ) → w ≡ i / 2 → get_or pair i 0 ≡ byte_at s (other i)
  both i e =
      ⊎_elim
      (λ (z : i % 2 ≡ 0). let a : i ≡ 2 * w = omega arith in rw (other_even i z, a) low)
      (λ (z : i % 2 ≡ 1). let b : i - 1 ≡ 2 * w = omega arith in let a : i ≡ 2 * w + 1 = omega arith in rw (other_odd i z, b, a) high)
      (halves i)

  neither : (i : ℕ) → (w ≡ i / 2 → ⊥) → get_or pair i 0 ≡ byte_at out i
  neither i h =
      get_or-set_other (set out (2 * w) (byte_at s (2 * w + 1))) (2 * w + 1) i (byte_at s (2 * w)) 0 (λ (e : i ≡ 2 * w + 1). h (omega arith))
      ∙ get_or-set_other out (2 * w) i (byte_at s (2 * w + 1)) 0 (λ (e : i ≡ 2 * w). h (omega arith))

  at_byte : (i : ℕ) (b : Bool) → eqb w (i / 2) ≡ b → get_or pair i 0 ≡ swap_byte (eqb w) s out i
  at_byte i true h = both i (eqb-true w (i / 2) h) ∙ sym (swap_in (eqb w) s out i h)
  at_byte i false h = neither i (eqb-false w (i / 2) h) ∙ sym (swap_out (eqb w) s out i h)

  pub swap_word : pair ≡ swap_at (eqb w) s out
  swap_word = is_swap (eqb w) s out pair (simp length-set) (λ i l. at_byte i (eqb w (i / 2)) refl)

-- ---- words of the first part of a list leave the rest

module _ (p : ℕ → Bool) (s d : List ℕ) (h : (i : ℕ) → length s ≤ i → p (i / 2) ≡ false) where
  front_byte : (i : ℕ) → i < length (s ++ d) → Dec (length s ≤ i) → swap_byte p s (s ++ d) i ≡ get_or (swap_at p s s ++ d) i 0
  unfolding swap_byte
  front_byte i l (yes m) =
      let n = length_swap p s s in
      swap_out p s (s ++ d) i (h i m) ∙ rw (get_d_past s d i m, get_d_past (swap_at p s s) d i (omega arith), n)
  front_byte i l (no m) =
      let n = length_swap p s s in
      let g : i < length s = omega arith in
      rw (get_or-append (swap_at p s s) d 0 i (omega arith), get_or_swap p s s i g, get_or-append s d 0 i g)

  pub swap_front : swap_at p s (s ++ d) ≡ swap_at p s s ++ d
  swap_front =
      let n = length_swap p s s in
      let a = length-append s d in
      sym (is_swap p s (s ++ d) (swap_at p s s ++ d) (omega (arith, length-append (swap_at p s s) d)) (λ i l. sym (front_byte i l (dec_le (length s) i))))
