-- "The quotient is cut towards zero and the remainder takes the dividend's sign": what that says of every two integers, of which quotOf and remOf are the words.
-- Proved by `division`, `remainder_smaller` and `remainder_sign` of proofs/Integer. Below stand ℤ (lib.IntN) and its division by signs (lib.Signed).
use Rattle.std.specs.Prelude.{◌≡◌, ℕ, ◌<◌, ℤ, pos, negsuc, neg_ℤ, nat_abs, ◌+ℤ◌, ◌*ℤ◌}
use Rattle.std.specs.Int.Signed.{quot_z, rem_z}

-- quotient times divisor and the remainder make the dividend
abbrev pub Division : Type 0
Division = (z d : ℤ) → quot_z z d *ℤ d +ℤ rem_z z d ≡ z

-- the remainder is smaller than the divisor
abbrev pub RemainderSmaller : Type 0
RemainderSmaller = (z d : ℤ) → 0 < nat_abs d → nat_abs (rem_z z d) < nat_abs d

-- of a it is not negative, and of -(a + 1) not positive
abbrev pub RemainderSign : Type 0
RemainderSign =
    (a : ℕ) (d : ℤ) → (rem_z (pos a) d ≡ pos (nat_abs (rem_z (pos a) d))) × (rem_z (negsuc a) d ≡ neg_ℤ (pos (nat_abs (rem_z (negsuc a) d))))
