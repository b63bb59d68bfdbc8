-- What `slices.rt` cites: two lists put into room for so many.
-- Above it: the contract of `joined`. Below it: lists. Assumes nothing.
use Rattle.std.specs.Prelude.{ℕ, ◌+◌, cond, List, [], ◌++◌, leb, length}

-- one after the other, or nothing where the room has not so many
unfoldable pub joined_in : ℕ → List ℕ → List ℕ → List ℕ
joined_in room a b = cond (leb (length a + length b) room) (a ++ b) []
