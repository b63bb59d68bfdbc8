-- MIRROR OF THE CODE, for the proofs; nobody has to believe it: the mark that a call writes is in Step of `pmachine`. Above: the contract of `mark`, and the step; below: nothing.
use Rattle.std.specs.Prelude.{ℕ, List, [], ◌∷◌, get_or}

-- "The mark holds the lexical parent's M [..], the caller's M, the byte after the call, 1, and the caller's routine number."
abbrev pub mark_of : ℕ → ℕ → ℕ → ℕ → List ℕ
mark_of parent caller next routine = parent ∷ caller ∷ next ∷ 1 ∷ routine ∷ []

-- the five words of an array that holds a mark
abbrev pub five : List ℕ → List ℕ
five a = get_or a 0 0 ∷ get_or a 1 0 ∷ get_or a 2 0 ∷ get_or a 3 0 ∷ get_or a 4 0 ∷ []
