-- "A small segment": its 32 bytes, W = 16, least byte first, and the same turned.
-- Above: the worked cases. Assumes nothing.
use Rattle.std.specs.Prelude.{ℕ, List, [], ◌∷◌}

unfoldable pub small : List ℕ
small =
    0x0b ∷ 0 ∷ 0 ∷ 0 ∷ 0x50 ∷ 0x4f ∷ 0x4e ∷ 0x44 ∷ 0x20 ∷ 0x20 ∷ 0x20 ∷ 0x20 ∷ 1 ∷ 0 ∷ 0 ∷ 0 ∷ 2 ∷ 0 ∷ 0 ∷ 0 ∷ 0 ∷ 0 ∷ 1 ∷ 0 ∷ 0x0e ∷ 0 ∷ 0x1e ∷ 0 ∷ 0 ∷ 0 ∷ 5 ∷ 7 ∷ []

unfoldable pub small_turned : List ℕ
small_turned =
    0 ∷ 0x0b ∷ 0 ∷ 0 ∷ 0x50 ∷ 0x4f ∷ 0x4e ∷ 0x44 ∷ 0x20 ∷ 0x20 ∷ 0x20 ∷ 0x20 ∷ 0 ∷ 1 ∷ 0 ∷ 0 ∷ 0 ∷ 2 ∷ 0 ∷ 0 ∷ 0 ∷ 0 ∷ 0 ∷ 1 ∷ 0 ∷ 0x0e ∷ 0 ∷ 0x1e ∷ 0 ∷ 0 ∷ 5 ∷ 7 ∷ []
