-- From the integers of specs/Integer to the arithmetic of the code: each operation on n-bit words is one on numbers modulo 2 ^ n.
-- The laws stand over the width, or over any modulus; the proofs of src/integers and the crates above cite them.
-- Assumes nothing.
use mathlib.Core.Path.{◌≡◌, refl, sym, ap, ◌∙◌, subst}
use Prim.Native.Nat.{ℕ, zero, suc, ◌+◌, ◌-◌, ◌*◌, ◌/◌, ◌%◌, ◌^◌, ◌≤◌, ◌<◌}
use native.Mathlib.Nat.{mod-lt, mod-eq_of_lt, mod-le, div-le_self, div-add-mod', div-zero, zero-mod, mod-zero, mod-add-mod, add-mul-mod_self_right, add_comm, zero-mul, lt_of_le_of_lt}
use native.Mathlib.Omega.{arith}
use lib.Dec.{ltb, leb}
use lib.Pow.{pow_pos}
use lib.IntN.{ℤ, pos, negsuc, neg_ℤ, nat_abs, sub_ℕ, ◌+ℤ◌, ◌-ℤ◌, ◌*ℤ◌, neg_ℤ-+ℤ}
use lib.Signed.{mag, quot_z, rem_z, le_z}
use borrow.Author.Tests.{ltb-true, ltb-false, lt-ltb, le-ltb, lt-leb, le-leb}
use Rattle.basis.specs.Integer.{modulo, integer_of, word_of, unary, binary, ordered, truth, add_of, sub_of, mul_of, quot_of, rem_of, neg_of, mag_of, inc_of, dec_of, leq_of}
use Rattle.basis.specs.Division.{Division, RemainderSmaller, RemainderSign}
use Rattle.basis.proofs.Bools.{cond_holds, leb_iff}

-- ---- any modulus

-- numbers that differ by multiples of m
pub same_mod : (m a b k l : ℕ) → k + a * m ≡ l + b * m → k % m ≡ l % m
same_mod m a b k l e = sym (add-mul-mod_self_right k a m) ∙ ap (λ (t : ℕ). t % m) e ∙ add-mul-mod_self_right l b m

module _ (m : ℕ) (some : 0 < m) where
  pub modulo_below : (z : ℤ) → modulo m z < m
  unfolding modulo
  modulo_below (pos a) = mod-lt a some
  modulo_below (negsuc a) = omega arith

  -- -(k + 1) is l, where the two numbers make a multiple of m
  pub opposite : (k l q : ℕ) → suc k + l ≡ q * m → modulo m (negsuc k) ≡ l % m
  unfolding modulo
  opposite k l q e =
      let r = mod-lt k some in
      let d = div-add-mod' k m in
      let s : m - suc (k % m) < m = omega arith in
      sym (mod-eq_of_lt s) ∙ same_mod m q (suc (k / m)) (m - suc (k % m)) l (omega arith)

  pub negated : (k l q : ℕ) → k + l ≡ q * m → modulo m (neg_ℤ (pos k)) ≡ l % m
  unfolding modulo
  negated zero l q e = same_mod m q 0 0 l (omega arith)
  negated (suc k) l q e = opposite k l q e

  -- a - b, where b and y make m
  pub minus : (a b y : ℕ) → y + b ≡ m → modulo m (sub_ℕ a b) ≡ (a + y) % m
  unfolding modulo
  minus a b y e =
      cond_holds (λ (z : ℤ). modulo m z ≡ (a + y) % m) (ltb a b)
      (λ t. let h = ltb-true a b t in opposite (b - suc a) (a + y) 1 (omega arith))
      (λ t. let h = ltb-false a b t in same_mod m 1 0 (a - b) (a + y) (omega arith))

  -- the difference of 0 is a case of its own: -0 is no negsuc
  take_from_pos : (a b : ℕ) → b ≤ m → modulo m (pos a -ℤ pos b) ≡ (a + (m - b)) % m
  unfolding modulo
  take_from_pos a zero h = same_mod m 1 0 (a + 0) (a + (m - 0)) (omega arith)
  take_from_pos a (suc b) h = minus a (suc b) (m - suc b) (omega arith)

  take_from_neg : (a u b : ℕ) → a + suc u ≡ m → b ≤ m → modulo m (negsuc u -ℤ pos b) ≡ (a + (m - b)) % m
  unfolding modulo
  take_from_neg a u zero e h = minus 0 (suc u) a e ∙ same_mod m 1 0 (0 + a) (a + (m - 0)) (omega arith)
  take_from_neg a u (suc b) e h = opposite (suc (u + b)) (a + (m - suc b)) 2 (omega arith)

-- ---- a word's integer

module _ (n x : ℕ) (fits : x < 2 ^ n) where
  pub low : x < 2 ^ (n - 1) → integer_of n x ≡ pos x
  unfolding integer_of
  low h = rw (lt-ltb x (2 ^ (n - 1)) h)

  pub high : 2 ^ (n - 1) ≤ x → integer_of n x ≡ negsuc (2 ^ n - suc x)
  unfolding integer_of
  high h = rw (le-ltb x (2 ^ (n - 1)) h, lt-ltb x (2 ^ n) fits)

  -- what holds of x, and of every -(u + 1) with which x makes 2 ^ n, holds of x's integer
  pub signs : (P : ℤ → Type 0) → (x < 2 ^ (n - 1) → P (pos x)) → ((u : ℕ) → x + suc u ≡ 2 ^ n → 2 ^ (n - 1) ≤ x → P (negsuc u)) → P (integer_of n x)
  unfolding integer_of
  signs P f g =
      cond_holds P (ltb x (2 ^ (n - 1)))
      (λ t. f (ltb-true x (2 ^ (n - 1)) t))
      (λ t. rw (lt-ltb x (2 ^ n) fits) (g (2 ^ n - suc x) (omega arith) (ltb-false x (2 ^ (n - 1)) t)))

  -- the word of a word's integer is that word
  pub back : word_of n (integer_of n x) ≡ x
  unfolding word_of modulo
  back =
      signs (λ (z : ℤ). word_of n z ≡ x)
      (λ _. mod-eq_of_lt fits)
      (λ u e _. opposite (2 ^ n) (pow_pos n) u x 1 (omega arith) ∙ mod-eq_of_lt fits)

  pub negation : unary n neg_ℤ x ≡ (2 ^ n - x) % 2 ^ n
  unfolding unary word_of modulo
  negation =
      signs (λ (z : ℤ). word_of n (neg_ℤ z) ≡ (2 ^ n - x) % 2 ^ n)
      (λ _. negated (2 ^ n) (pow_pos n) x (2 ^ n - x) 1 (omega arith))
      (λ u e _. let q : suc u ≡ 2 ^ n - x = omega arith in ap (λ (t : ℕ). t % 2 ^ n) q)

  -- the negative of a number that a word holds
  pub negative : unary n neg_ℤ x ≡ word_of n (neg_ℤ (pos x))
  unfolding word_of
  negative = negation ∙ sym (negated (2 ^ n) (pow_pos n) x (2 ^ n - x) 1 (omega arith))

  -- the magnitude's word, read without a sign, is the magnitude
  pub magnitude : unary n (λ z. pos (nat_abs z)) x ≡ nat_abs (integer_of n x)
  unfolding unary word_of modulo
  magnitude =
      signs (λ (z : ℤ). word_of n (pos (nat_abs z)) ≡ nat_abs z)
      (λ _. mod-eq_of_lt fits)
      (λ u e h. let p = pow_pos (n - 1) in let s : suc u < 2 ^ n = omega arith in mod-eq_of_lt s)

-- ---- half of 2 ^ n added: the order of the integers is that of these

abbrev pub half : ℕ → ℕ
half n = 2 ^ (n - 1)

abbrev bias : ℕ → ℕ → ℕ
bias n x = (x + half n) % 2 ^ n

module _ (n x : ℕ) (halves : half n + half n ≡ 2 ^ n) where
  bias_low : x < half n → bias n x ≡ x + half n
  bias_low h = let s : x + half n < 2 ^ n = omega arith in mod-eq_of_lt s

  bias_high : x < 2 ^ n → half n ≤ x → bias n x ≡ x - half n
  bias_high f h =
      let s : x - half n < 2 ^ n = omega arith in
      same_mod (2 ^ n) 0 1 (x + half n) (x - half n) (omega arith) ∙ mod-eq_of_lt s

-- ---- an integer that n bits hold is that of its word: nothing is cut off

pub exact : (n : ℕ) (z : ℤ) → half n + half n ≡ 2 ^ n → mag z < half n → integer_of n (word_of n z) ≡ z
unfolding word_of modulo
exact n (pos a) e h =
    let f : a < 2 ^ n = omega arith in
    rw (mod-eq_of_lt f) (low n a f h)
exact n (negsuc a) e h =
    let f : a < 2 ^ n = omega arith in
    let k : 2 ^ n - suc a < 2 ^ n = omega arith in
    let q : 2 ^ n - suc (2 ^ n - suc a) ≡ a = omega arith in
    rw (mod-eq_of_lt f) (high n (2 ^ n - suc a) k (omega arith) ∙ ap negsuc q)

-- ---- two words

module _ (n x y : ℕ) (fx : x < 2 ^ n) (fy : y < 2 ^ n) where
  by_signs : (P : ℤ → ℤ → Type 0) → P (pos x) (pos y)
      → ((v : ℕ) → y + suc v ≡ 2 ^ n → P (pos x) (negsuc v))
      → ((u : ℕ) → x + suc u ≡ 2 ^ n → P (negsuc u) (pos y))
      → ((u v : ℕ) → x + suc u ≡ 2 ^ n → y + suc v ≡ 2 ^ n → P (negsuc u) (negsuc v))
      → P (integer_of n x) (integer_of n y)
  by_signs P pp pn np nn =
      signs n x fx (λ (z : ℤ). P z (integer_of n y))
      (λ _. signs n y fy (λ (k : ℤ). P (pos x) k) (λ _. pp) (λ v e _. pn v e))
      (λ u d _. signs n y fy (λ (k : ℤ). P (negsuc u) k) (λ _. np u d) (λ v e _. nn u v d e))

  pub sum : binary n ◌+ℤ◌ x y ≡ (x + y) % 2 ^ n
  unfolding binary word_of modulo
  sum =
      by_signs (λ (z k : ℤ). word_of n (z +ℤ k) ≡ (x + y) % 2 ^ n)
      refl
      (λ v e. minus (2 ^ n) (pow_pos n) x (suc v) y e)
      (λ u d. minus (2 ^ n) (pow_pos n) y (suc u) x d ∙ ap (λ (t : ℕ). t % 2 ^ n) (add_comm y x))
      (λ u v d e. opposite (2 ^ n) (pow_pos n) (suc (u + v)) (x + y) 2 (omega arith))

  pub product : binary n ◌*ℤ◌ x y ≡ x * y % 2 ^ n
  unfolding binary word_of modulo
  product =
      by_signs (λ (z k : ℤ). word_of n (z *ℤ k) ≡ x * y % 2 ^ n)
      refl
      (λ v e. negated (2 ^ n) (pow_pos n) (x * suc v) (x * y) x (omega (arith, ap (λ (t : ℕ). x * t) e)))
      (λ u d. negated (2 ^ n) (pow_pos n) (suc u * y) (x * y) y (omega (arith, ap (λ (t : ℕ). t * y) d)))
      (λ u v d e. same_mod (2 ^ n) x (suc v) (suc u * suc v) (x * y)
      (omega (arith, ap (λ (t : ℕ). x * t) e, ap (λ (t : ℕ). t * suc v) d)))

  pub difference : binary n ◌-ℤ◌ x y ≡ (x + (2 ^ n - y)) % 2 ^ n
  unfolding binary word_of modulo
  difference =
      let h : y ≤ 2 ^ n = omega arith in
      by_signs (λ (z k : ℤ). word_of n (z -ℤ k) ≡ (x + (2 ^ n - y)) % 2 ^ n)
      (take_from_pos (2 ^ n) (pow_pos n) x y h)
      (λ v e. let q : x + suc v ≡ x + (2 ^ n - y) = omega arith in ap (λ (t : ℕ). t % 2 ^ n) q)
      (λ u d. take_from_neg (2 ^ n) (pow_pos n) x u y d h)
      (λ u v d e.
      let q : suc v + x ≡ x + (2 ^ n - y) = omega arith in
      minus (2 ^ n) (pow_pos n) (suc v) (suc u) x d ∙ ap (λ (t : ℕ). t % 2 ^ n) q)

  -- what wraps back to x when y is added is the difference
  pub wraps_back : (r : ℕ) → r < 2 ^ n → (r + y) % 2 ^ n ≡ x → r ≡ binary n ◌-ℤ◌ x y
  wraps_back r fr e =
      let d = div-add-mod' (r + y) (2 ^ n) in
      sym (mod-eq_of_lt fr)
      ∙ same_mod (2 ^ n) 1 ((r + y) / 2 ^ n) r (x + (2 ^ n - y)) (omega arith)
      ∙ sym difference

  -- the integers' order is that of the words that half of 2 ^ n is added to
  pub order : half n + half n ≡ 2 ^ n → ordered n x y ≡ leb ((x + half n) % 2 ^ n) ((y + half n) % 2 ^ n)
  unfolding ordered
  order halves =
      signs n x fx (λ (z : ℤ). le_z z (integer_of n y) ≡ leb (bias n x) (bias n y))
      (λ hx. rw (bias_low n x halves hx)
      (signs n y fy (λ (k : ℤ). le_z (pos x) k ≡ leb (x + half n) (bias n y))
      (λ hy. rw (bias_low n y halves hy) (leb_iff x y (x + half n) (y + half n) (omega arith) (omega arith)))
      (λ v e hy. rw (bias_high n y halves fy hy) (sym (lt-leb (x + half n) (y - half n) (omega arith))))))
      (λ u d hx. rw (bias_high n x halves fx hx)
      (signs n y fy (λ (k : ℤ). le_z (negsuc u) k ≡ leb (x - half n) (bias n y))
      (λ hy. rw (bias_low n y halves hy) (sym (le-leb (x - half n) (y + half n) (omega arith))))
      (λ v e hy. rw (bias_high n y halves fy hy) (leb_iff v u (x - half n) (y - half n) (omega arith) (omega arith)))))

-- ---- division cut towards zero: quotient times divisor and remainder make the dividend, and the remainder is the smaller

times_pos : (q b : ℕ) → neg_ℤ (pos q) *ℤ pos b ≡ neg_ℤ (pos (q * b))
times_pos zero b = rw (zero-mul b)
times_pos (suc q) b = refl

times_neg : (q b : ℕ) → neg_ℤ (pos q) *ℤ negsuc b ≡ pos (q * suc b)
times_neg zero b = rw (zero-mul (suc b))
times_neg (suc q) b = refl

pub division : Division
division (pos a) (pos b) = ap pos (div-add-mod' a b)
division (pos a) (negsuc b) = rw (times_neg (a / suc b) b) (ap pos (div-add-mod' a (suc b)))
division (negsuc a) (pos b) =
    rw (times_pos (suc a / b) b, ← neg_ℤ-+ℤ (pos (suc a / b * b)) (pos (suc a % b)), div-add-mod' (suc a) b)
division (negsuc a) (negsuc b) =
    rw (← neg_ℤ-+ℤ (pos (suc a / suc b * suc b)) (pos (suc a % suc b)), div-add-mod' (suc a) (suc b))

abs_neg : (k : ℕ) → nat_abs (neg_ℤ (pos k)) ≡ k
abs_neg zero = refl
abs_neg (suc k) = refl

pub remainder_smaller : RemainderSmaller
remainder_smaller (pos a) d h = mod-lt a h
remainder_smaller (negsuc a) d h = rw (abs_neg (suc a % nat_abs d)) (mod-lt (suc a) h)

pub remainder_sign : RemainderSign
remainder_sign a d = (refl, ap (λ (k : ℕ). neg_ℤ (pos k)) (sym (abs_neg (suc a % nat_abs d))))

-- ---- division by magnitudes

-- the magnitude of a word's integer
abbrev pub abs : ℕ → ℕ → ℕ
abs n x = nat_abs (integer_of n x)

pub abs_fits : (n x : ℕ) → x < 2 ^ n → abs n x < 2 ^ n
unfolding unary word_of
abs_fits n x h = subst (λ (a : ℕ). a < 2 ^ n) (magnitude n x h) (modulo_below (2 ^ n) (pow_pos n) (pos (abs n x)))

-- a magnitude is 0 only of the word 0
pub abs_some : (n x : ℕ) → x < 2 ^ n → (x ≡ 0 → ⊥) → 0 < abs n x
abs_some n x h some = signs n x h (λ (z : ℤ). 0 < nat_abs z) (λ _. omega arith) (λ u _ _. omega arith)

-- ---- the product, one digit of l at a time in base b: what was added up, and f times what is left of l, keep their sum modulo m. p is f times
-- the lowest digit, f' is f moved up by one digit.

pub digit : (m b s f l p f' : ℕ) → p ≡ f * (l % b) % m → f' ≡ f * b % m → ((s + p) % m + f' * (l / b)) % m ≡ (s + f * l) % m
digit m b s f l p f' part moved =
    mod-add-mod (s + p) m (f' * (l / b))
    ∙ same_mod m (f * (l % b) / m + f * b / m * (l / b)) 0 (s + p + f' * (l / b)) (s + f * l)
    (omega (
      arith,
      part,
      div-add-mod' (f * (l % b)) m,
      ap (λ (t : ℕ). t * (l / b)) moved,
      ap (λ (t : ℕ). t * (l / b)) (div-add-mod' (f * b) m),
      ap (λ (t : ℕ). f * t) (div-add-mod' l b),
    ))

-- ---- the names at width 16

module _ (x y : ℕ) (fx : x < 65536) (fy : y < 65536) where
  pub add_is : add_of x y ≡ (x + y) % 65536
  unfolding add_of
  add_is = sum 16 x y fx fy

  pub sub_is : sub_of x y ≡ (x + (65536 - y)) % 65536
  unfolding sub_of
  sub_is = difference 16 x y fx fy

  pub mul_is : mul_of x y ≡ x * y % 65536
  unfolding mul_of
  mul_is = product 16 x y fx fy

  -- wrapping subtraction's promise
  pub sub_wraps : (r : ℕ) → r < 65536 → (r + y) % 65536 ≡ x → r ≡ sub_of x y
  unfolding sub_of
  sub_wraps = wraps_back 16 x y fx fy

  pub leq_is : leq_of x y ≡ truth (leb ((x + 32768) % 65536) ((y + 32768) % 65536))
  unfolding leq_of
  leq_is = ap truth (order 16 x y fx fy refl)

module _ (x : ℕ) (fx : x < 65536) where
  pub neg_is : neg_of x ≡ (65536 - x) % 65536
  unfolding neg_of
  neg_is = negation 16 x fx

  pub neg_sub : neg_of x ≡ sub_of 0 x
  neg_sub = omega (arith, neg_is, sub_is 0 x (pow_pos 16) fx)

  pub inc_is : inc_of x ≡ add_of x 1
  unfolding inc_of add_of unary binary integer_of
  inc_is = refl

  pub dec_is : dec_of x ≡ sub_of x 1
  unfolding dec_of sub_of unary binary integer_of
  dec_is = refl

  pub mag_is : mag_of x ≡ nat_abs (integer_of 16 x)
  unfolding mag_of
  mag_is = magnitude 16 x fx

  pub mag_low : x < 32768 → mag_of x ≡ x
  mag_low h = mag_is ∙ ap nat_abs (low 16 x fx h)

  pub mag_high : 32768 ≤ x → mag_of x ≡ neg_of x
  mag_high h = omega (arith, mag_is ∙ ap nat_abs (high 16 x fx h), neg_is)

-- division, from the words of the magnitudes
module _ (x y : ℕ) {a b : ℕ} (fx : x < 65536) (fy : y < 65536) (ax : a ≡ mag_of x) (by : b ≡ mag_of y) where
  pub divisor_some : (y ≡ 0 → ⊥) → 0 < b
  divisor_some h = omega (arith, mag_is y fy, abs_some 16 y fy h)

  shares : a / b ≡ abs 16 x / abs 16 y
  shares = rw (ax ∙ mag_is x fx, by ∙ mag_is y fy)

  share_fits : abs 16 x / abs 16 y < 65536
  share_fits = lt_of_le_of_lt (div-le_self (abs 16 x) (abs 16 y)) (abs_fits 16 x fx)

  rests : a % b ≡ abs 16 x % abs 16 y
  rests = rw (ax ∙ mag_is x fx, by ∙ mag_is y fy)

  rest_fits : abs 16 x % abs 16 y < 65536
  rest_fits = lt_of_le_of_lt (mod-le (abs 16 x) (abs 16 y)) (abs_fits 16 x fx)

  pub quot_plus_plus : x < 32768 → y < 32768 → a / b ≡ quot_of x y
  unfolding quot_of binary word_of modulo
  quot_plus_plus p q = shares ∙ rw (low 16 x fx p, low 16 y fy q) (sym (mod-eq_of_lt (rw (low 16 x fx p, low 16 y fy q) at share_fits)))

  pub quot_minus_minus : 32768 ≤ x → 32768 ≤ y → a / b ≡ quot_of x y
  unfolding quot_of binary word_of modulo
  quot_minus_minus p q = shares ∙ rw (high 16 x fx p, high 16 y fy q) (sym (mod-eq_of_lt (rw (high 16 x fx p, high 16 y fy q) at share_fits)))

  pub quot_plus_minus : x < 32768 → 32768 ≤ y → neg_of (a / b) ≡ quot_of x y
  unfolding quot_of neg_of binary
  quot_plus_minus p q = ap neg_of shares ∙ rw (negative 16 (abs 16 x / abs 16 y) share_fits, low 16 x fx p, high 16 y fy q)

  pub quot_minus_plus : 32768 ≤ x → y < 32768 → neg_of (a / b) ≡ quot_of x y
  unfolding quot_of neg_of binary
  quot_minus_plus p q = ap neg_of shares ∙ rw (negative 16 (abs 16 x / abs 16 y) share_fits, high 16 x fx p, low 16 y fy q)

  pub rem_plus : x < 32768 → a % b ≡ rem_of x y
  unfolding rem_of binary word_of modulo
  rem_plus p = rests ∙ rw (low 16 x fx p) (sym (mod-eq_of_lt (rw (low 16 x fx p) at rest_fits)))

  pub rem_minus : 32768 ≤ x → neg_of (a % b) ≡ rem_of x y
  unfolding rem_of neg_of binary
  rem_minus p = ap neg_of rests ∙ rw (negative 16 (abs 16 x % abs 16 y) rest_fits, high 16 x fx p)

-- by 0 the quotient is 0, and the remainder is the dividend
module _ (x y : ℕ) (fx : x < 65536) (none : y ≡ 0) where
  pub quot_none : quot_of x y ≡ 0
  unfolding quot_of binary word_of modulo
  quot_none =
      rw (none, low 16 0 (pow_pos 16) (pow_pos 15))
      (signs 16 x fx (λ (z : ℤ). word_of 16 (quot_z z (pos 0)) ≡ 0) (λ _. rw (div-zero x) (zero-mod 65536)) (λ u _ _. rw (div-zero (suc u)) (zero-mod 65536)))

  pub rem_none : rem_of x y ≡ x
  unfolding rem_of binary
  rem_none =
      rw (none, low 16 0 (pow_pos 16) (pow_pos 15))
      (signs 16 x fx (λ (z : ℤ). word_of 16 z ≡ x → word_of 16 (rem_z z (pos 0)) ≡ x) (λ _ b. rw (mod-zero x) b) (λ u _ _ b. rw (mod-zero (suc u)) b) (back 16 x fx))

-- ---- every result is a word

pub below : (n : ℕ) (z : ℤ) → word_of n z < 2 ^ n
unfolding word_of
below n z = modulo_below (2 ^ n) (pow_pos n) z
