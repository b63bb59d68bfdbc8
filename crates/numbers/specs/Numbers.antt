-- What the code cites: a word as a decimal number.
-- Above it: the contract of `number_of`. Below it: numbers and lists. Assumes nothing.
use Rattle.std.specs.Prelude.{ℕ, ◌+◌, ◌*◌, ◌-◌, ◌^◌, Bool, ◌&&◌, cond, List, [], ◌∷◌, ltb, leb, Result, Ok, Err}
use Rattle.std.specs.List.{list_all}
use Rattle.numbers.specs.declared.NoNumber.{NoNumber}
use Rattle.numbers.specs.declared.NoNumber.TheVariants.{Beyond, Not}

-- "0" is 48 and "9" is 57
unfoldable pub digit_byte : ℕ → Bool
digit_byte b = leb 48 b && leb b 57

unfoldable pub all_digits : List ℕ → Bool
all_digits l = list_all digit_byte l

-- the value of digits that stand after others with the value v
unfoldable pub value_from : ℕ → List ℕ → ℕ
value_from v [] = v
value_from v (b ∷ l) = value_from (10 * v + (b - 48)) l

-- a value, where 64 bits hold it
unfoldable pub fitted : ℕ → Result ℕ NoNumber
fitted v = cond (ltb v (2 ^ 64)) (Ok v) (Err Beyond)

unfoldable pub number_of : List ℕ → Result ℕ NoNumber
number_of [] = Err Not
number_of (b ∷ l) = cond (all_digits (b ∷ l)) (fitted (value_from 0 (b ∷ l))) (Err Not)
