-- The integers of document 01: "Integers wrap to 16 bits, two's complement." An operation reads its words as integers, works on
-- those, and cuts its result to a word again. Each is stated over the width n; below stand the names at width 16 that the opcode table cites.
-- Below stand ℤ (lib.IntN), its order and its division by signs (lib.Signed); the laws are in proofs/Integer.
use Rattle.std.specs.Prelude.{ℕ, suc, ◌-◌, ◌%◌, ◌^◌, Bool, cond, not, ltb, leb, eqb, ℤ, pos, negsuc, neg_ℤ, nat_abs, ◌+ℤ◌, ◌-ℤ◌, ◌*ℤ◌}
use Rattle.std.specs.Int.Bits.{bit_and, bit_or, bit_xor}
use Rattle.std.proofs.Math.IntN.{sub_ℕ}
use Rattle.std.specs.Int.Signed.{quot_z, rem_z, le_z}

-- z modulo m: the number below m that differs from z by a multiple of m (negsuc a is -(a + 1))
unfoldable pub modulo : ℕ → ℤ → ℕ
modulo m (pos a) = a % m
modulo m (negsuc a) = m - suc (a % m)

-- the integer of an n-bit word in two's complement: x below 2 ^ (n - 1), and x - 2 ^ n from there on
unfoldable pub integer_of : ℕ → ℕ → ℤ
integer_of n x = cond (ltb x (2 ^ (n - 1))) (pos x) (sub_ℕ x (2 ^ n))

-- the word of an integer: "Integers wrap"
unfoldable pub word_of : ℕ → ℤ → ℕ
word_of n z = modulo (2 ^ n) z

-- an operation on integers, as one on n-bit words
unfoldable pub unary : ℕ → (ℤ → ℤ) → ℕ → ℕ
unary n f x = word_of n (f (integer_of n x))

unfoldable pub binary : ℕ → (ℤ → ℤ → ℤ) → ℕ → ℕ → ℕ
binary n f x y = word_of n (f (integer_of n x) (integer_of n y))

-- "Comparisons push 1 or 0."
unfoldable pub truth : Bool → ℕ
truth b = cond b 1 0

-- the signed order is that of the integers
unfoldable pub ordered : ℕ → ℕ → ℕ → Bool
ordered n x y = le_z (integer_of n x) (integer_of n y)

-- all n bits flipped: exclusive or with n ones
unfoldable pub flipped : ℕ → ℕ → ℕ
flipped n x = bit_xor x (2 ^ n - 1)

-- ---- at width 16: "integer add, subtract, multiply, divide, modulo, negate, absolute, increment, decrement"

unfoldable pub add_of : ℕ → ℕ → ℕ
add_of = binary 16 ◌+ℤ◌

unfoldable pub sub_of : ℕ → ℕ → ℕ
sub_of = binary 16 ◌-ℤ◌

unfoldable pub mul_of : ℕ → ℕ → ℕ
mul_of = binary 16 ◌*ℤ◌

-- "The quotient is cut towards zero and the remainder takes the dividend's sign." By 0 the quotient is 0 and the remainder x;
-- the machine faults before it asks.
unfoldable pub quot_of : ℕ → ℕ → ℕ
quot_of = binary 16 quot_z

unfoldable pub rem_of : ℕ → ℕ → ℕ
rem_of = binary 16 rem_z

unfoldable pub neg_of : ℕ → ℕ
neg_of = unary 16 neg_ℤ

-- of -32,768 it is -32,768
unfoldable pub mag_of : ℕ → ℕ
mag_of = unary 16 (λ z. pos (nat_abs z))

unfoldable pub inc_of : ℕ → ℕ
inc_of = unary 16 (λ z. z +ℤ pos 1)

unfoldable pub dec_of : ℕ → ℕ
dec_of = unary 16 (λ z. z -ℤ pos 1)

-- ---- "signed and unsigned word comparisons"

unfoldable pub eq_of : ℕ → ℕ → ℕ
eq_of x y = truth (eqb x y)

unfoldable pub ne_of : ℕ → ℕ → ℕ
ne_of x y = truth (not (eqb x y))

unfoldable pub leq_of : ℕ → ℕ → ℕ
leq_of x y = truth (ordered 16 x y)

unfoldable pub geq_of : ℕ → ℕ → ℕ
geq_of x y = truth (ordered 16 y x)

unfoldable pub leu_of : ℕ → ℕ → ℕ
leu_of x y = truth (leb x y)

unfoldable pub geu_of : ℕ → ℕ → ℕ
geu_of x y = truth (leb y x)

-- ---- "AND, OR, NOT of all 16 bits"

unfoldable pub and_of : ℕ → ℕ → ℕ
and_of = bit_and

unfoldable pub or_of : ℕ → ℕ → ℕ
or_of = bit_or

unfoldable pub not_of : ℕ → ℕ
not_of = flipped 16
