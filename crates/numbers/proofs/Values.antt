-- The laws of a word as a number: one turn of each loop, and its end.
-- Above it: the proofs of the functions. Below it: the definitions. Assumes nothing.
use Prim.Native.Nat.{ℕ, ◌+◌, ◌*◌, ◌-◌, ◌/◌, ◌^◌, ◌≤◌, ◌<◌}
use native.Mathlib.Omega.{arith}
use native.Mathlib.Nat.{le_refl, le_trans, div-mul-le_self, lt-div-mul-add}
use native.Mathlib.Numerals.{add-one}
use mathlib.Core.Path.{◌≡◌, refl, sym, ◌∙◌}
use mathlib.Core.Bool.{true, false}
use mathlib.Core.List.{List, [], ◌∷◌}
use lib.ListN.{length, get_or, drop, drop_of_length-le}
use lib.Seq.{drop-cons}
use borrow.Author.Tests.{lt-ltb, le-ltb}
use Rattle.numbers.specs.Numbers.{all_digits, value_from, fitted, number_of}
use Rattle.std.proofs.Common.{Result, Ok, Err}
use Rattle.numbers.specs.declared.NoNumber.{NoNumber}
use Rattle.numbers.specs.declared.NoNumber.TheVariants.{Beyond, Not}

-- ---- the value

-- more digits never make it less
grows : (v : ℕ) (l : List ℕ) → v ≤ value_from v l
unfolding value_from
grows v [] = le_refl v
grows v (b ∷ l) = let more : v ≤ 10 * v + (b - 48) = omega arith in le_trans more (grows (10 * v + (b - 48)) l)

-- the test before a digit is taken
pub fits : (v d most : ℕ) → d ≤ most → v ≤ (most - d) / 10 → 10 * v + d ≤ most
fits v d most h l = omega (arith, div-mul-le_self (most - d) 10)

module _ (s : List ℕ) (i n v : ℕ) (e : n ≡ value_from v (drop i s)) where
  pub value_ends : length s ≤ i → v < 2 ^ 64 → Ok v ≡ fitted n
  unfolding value_from fitted
  value_ends h l = rw (e, drop_of_length-le s h, lt-ltb v (2 ^ 64) l)

  pub value_goes : (d : ℕ) → i < length s → d ≡ get_or s i 0 - 48 → n ≡ value_from (10 * v + d) (drop (i + 1) s)
  unfolding value_from
  value_goes d h q = e ∙ rw (drop-cons s i 0 h, q, add-one i)

  pub value_stops : (d : ℕ) → i < length s → d ≡ get_or s i 0 - 48 → (18446744073709551615 - d) / 10 < v → Err Beyond ≡ fitted n
  unfolding fitted
  value_stops d h q l =
      let g : 10 * v + d ≤ n = rw (value_goes d h q) (grows (10 * v + d) (drop (i + 1) s)) in
      rw (le-ltb n (2 ^ 64) (omega (arith, lt-div-mul-add {a = 18446744073709551615 - d} {b = 10} (omega arith))))

-- ---- the number

pub number_none : (w : List ℕ) → length w ≡ 0 → Err Not ≡ number_of w
unfolding number_of
number_none [] h = refl
number_none (b ∷ l) h = let z : ⊥ = omega arith in absurd z

pub number_not : (w : List ℕ) → false ≡ all_digits w → Err Not ≡ number_of w
unfolding number_of
number_not [] h = refl
number_not (b ∷ l) h = rw (sym h)

pub number_is : (w : List ℕ) (r : Result ℕ NoNumber) → (length w ≡ 0 → ⊥) → true ≡ all_digits w → r ≡ fitted (value_from 0 w) → r ≡ number_of w
unfolding number_of
number_is [] r n h e = absurd (n refl)
number_is (b ∷ l) r n h e = e ∙ rw (sym h)
