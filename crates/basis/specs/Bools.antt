-- Tests, and lists of tests. The checks of segments, sessions and the bench are stated by these.
-- Nothing stands below; the laws are in proofs/Bools.
use Rattle.std.specs.Prelude.{◌≡◌, List, [], ◌∷◌, Bool, true, ◌&&◌, ℕ, leb, ltb}

-- every one of these tests holds
unfoldable pub every : List Bool → Bool
every [] = true
every (b ∷ []) = b
every (b ∷ (c ∷ bs)) = b && every (c ∷ bs)

-- the same as a statement: a proof for each of them
abbrev pub Holds : List Bool → Type 0
Holds [] = Unit {0}
Holds (b ∷ bs) = (b ≡ true) × Holds bs

-- lo ≤ x < end
unfoldable pub inside : ℕ → ℕ → ℕ → Bool
inside lo end x = leb lo x && ltb x end
