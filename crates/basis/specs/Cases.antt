-- Cases of 16-bit integers beside those in the table of marked cases: each operation once or more. No operation of the machine stands in an operand
-- or in what is expected: a negative operand is an integer's word, and a negative result is read as an integer.
-- specs/Integer stands below; the proof, by computing, is in proofs/Cases.
use Rattle.std.specs.Prelude.{◌≡◌, ℕ, ℤ, neg_ℤ, pos}
use Rattle.basis.specs.Integer.{integer_of, word_of, sub_of, mul_of, quot_of, rem_of, neg_of, mag_of, inc_of, dec_of, eq_of, ne_of, leq_of, geq_of, leu_of, geu_of, and_of, or_of, not_of}

-- the word of -k
unfoldable pub minus : ℕ → ℕ
minus k = word_of 16 (neg_ℤ (pos k))

-- a word, read as an integer, is k; and is -k
abbrev pub Is : ℕ → ℕ → Type 0
Is x k = integer_of 16 x ≡ pos k

abbrev pub IsMinus : ℕ → ℕ → Type 0
IsMinus x k = integer_of 16 x ≡ neg_ℤ (pos k)

pub record Others : Type 0 where
  pub subtract : IsMinus (sub_of 3 5) 2
  pub multiply : IsMinus (mul_of (minus 3) 5) 15
  pub divisor_negative : IsMinus (quot_of 7 (minus 2)) 3
  pub remainder_positive : Is (rem_of 7 (minus 2)) 1
  pub both_negative : Is (quot_of (minus 7) (minus 2)) 3
  pub quotient_by_zero : Is (quot_of (minus 7) 0) 0
  pub remainder_by_zero : IsMinus (rem_of (minus 7) 0) 7
  pub negate : neg_of 1 ≡ 65535
  pub negate_least : IsMinus (neg_of (minus 32768)) 32768
  pub absolute : Is (mag_of (minus 5)) 5
  pub absolute_least : IsMinus (mag_of (minus 32768)) 32768
  pub increment : inc_of 65535 ≡ 0
  pub decrement : IsMinus (dec_of 0) 1
  pub equal : eq_of 65535 (minus 1) ≡ 1
  pub differ : ne_of 65535 (minus 1) ≡ 0
  pub signed : leq_of (minus 1) 0 ≡ 1
  pub signed_back : geq_of (minus 1) 0 ≡ 0
  pub unsigned : leu_of (minus 1) 0 ≡ 0
  pub unsigned_back : geu_of (minus 1) 0 ≡ 1
  pub and : and_of 12 10 ≡ 8
  pub or : or_of 12 10 ≡ 14
  pub not : not_of 12 ≡ 65523
