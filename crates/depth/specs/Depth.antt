-- How deep a session's stack went, and what follows for the order of a region.
-- Request 3: "The session record shall keep the lowest stack pointer reached since opening, L at the start." The stack comes down from word L - 1, so at SP it has
-- L - SP words; and never below word `floor`, which is 6+G, the first behind the globals. So at its deepest it had L - lowest words.
-- Above: the contracts of `depth`, and what is told of a session. Below: nothing. The proof of the theorem is in proofs/Order.
use Rattle.std.specs.Prelude.{ℕ, ◌+◌, ◌-◌, ◌≤◌, max, min, ◌≡◌}

-- the words that the stack never reached so far: words floor to lowest - 1, none where lowest is floor
abbrev pub unreached : ℕ → ℕ → ℕ
unreached floor lowest = lowest - floor

-- the least L whose stack would have been enough so far: room for the globals and the deepest stack, and at least the 16 words that an opening takes
abbrev pub enough : ℕ → ℕ → ℕ → ℕ
enough floor len lowest = max 16 (floor + (len - lowest))

-- the same in 64 bits, for any numbers: it stays the largest number where it would be larger
abbrev pub most : ℕ
most = 18446744073709551615

abbrev pub told : ℕ → ℕ → ℕ → ℕ
told floor len lowest = min most (enough floor len lowest)

-- THE THEOREM
pub record Order : Type 0 where
  -- a region of `words` words, 16 or more, has room for the globals and the deepest stack exactly if `words` is at least `enough`
  pub fits : (floor len lowest words : ℕ) → enough floor len lowest ≤ words → floor + (len - lowest) ≤ words
  pub needed : (floor len lowest words : ℕ) → 16 ≤ words → floor + (len - lowest) ≤ words → enough floor len lowest ≤ words
  -- and an opening takes that many
  pub opens : (floor len lowest : ℕ) → 16 ≤ enough floor len lowest
  -- of a session, whose mark lies in 6+G..L: its own words are enough, and of them all are needed but those that the stack never reached, down to 16
  pub own : (floor len lowest : ℕ) → 16 ≤ len → floor ≤ lowest → lowest ≤ len → enough floor len lowest ≤ len
  pub rest : (floor len lowest : ℕ) → floor ≤ lowest → lowest ≤ len → enough floor len lowest ≡ max 16 (len - unreached floor lowest)
  -- and what is told of it is `enough`: the largest number is never met
  pub exact : (floor len lowest : ℕ) → 16 ≤ len → len ≤ most → floor ≤ lowest → lowest ≤ len → told floor len lowest ≡ enough floor len lowest
