-- What `words.rt` cites: a line's words are its maximal runs of bytes that are not blank, in order.
-- Above it: the contracts of `words.rt`. Below it: lists. Assumes nothing.
use Rattle.std.specs.Prelude.{ℕ, Bool, cond, not, ◌||◌, List, [], ◌∷◌, eqb}
use Rattle.std.specs.List.{prefix_len}

-- a space, a tab or a carriage return
unfoldable pub blank_byte : ℕ → Bool
blank_byte b = eqb b 32 || (eqb b 9 || eqb b 13)

-- a byte that joins the first of some words
unfoldable pub grown : ℕ → List (List ℕ) → List (List ℕ)
grown b [] = (b ∷ []) ∷ []
grown b (w ∷ ws) = (b ∷ w) ∷ ws

-- a byte that is not blank in front of a line with the words ws: it joins the word that the line begins with, or is a word by itself
unfoldable pub in_front : ℕ → List ℕ → List (List ℕ) → List (List ℕ)
in_front b [] ws = (b ∷ []) ∷ ws
in_front b (c ∷ l) ws = cond (blank_byte c) ((b ∷ []) ∷ ws) (grown b ws)

-- the words of a line
unfoldable pub words : List ℕ → List (List ℕ)
words [] = []
words (b ∷ l) = cond (blank_byte b) (words l) (in_front b l (words l))

-- how many blanks a line begins with, and how many other bytes
unfoldable pub blank_run : List ℕ → ℕ
blank_run l = prefix_len blank_byte l

unfoldable pub ink_run : List ℕ → ℕ
ink_run l = prefix_len (λ b. not (blank_byte b)) l
