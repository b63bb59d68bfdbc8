-- When a recorded fault is the one that a session's numbers give: then its reason is told with them, and else only the rule that its number names.
-- Above: the contract of `is_recorded`; below: the place of a fault, in Run of `pmachine`.
use Rattle.std.specs.Prelude.{ℕ, List, Bool, ◌&&◌, ◌||◌, not, eqb}
use Rattle.pmachine.specs.Run.{place_of}

-- the fault that is found, 0 for none, is fault n; and it was recorded at its place, or, as before request 8, at the instruction's first byte
unfoldable pub recorded : List ℕ → ℕ → ℕ → ℕ → ℕ → Bool
recorded s at found n place = not (eqb found 0) && (eqb found n && (eqb place at || eqb place (place_of s n at)))
