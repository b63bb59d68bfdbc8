-- The laws of words: the steps of the two runs, and that the first word and the rest are what the runs cut off.
-- Above it: the proofs of `words.rt`. Below it: the definitions. Assumes nothing.
use Prim.Native.Nat.{ℕ, suc, ◌+◌, ◌-◌, ◌<◌}
use native.Mathlib.Omega.{arith}
use native.Mathlib.Nat.{le_refl}
use mathlib.Core.Path.{◌≡◌, refl, ap, ◌∙◌}
use mathlib.Core.Bool.{Bool, true, false, not}
use mathlib.Core.List.{List, [], ◌∷◌}
use lib.ListN.{length, get_or, take, drop, length-drop}
use lib.Seq.{get_or-drop, take_all}
use Rattle.text.specs.Words.{blank_byte, grown, in_front, words, blank_run, ink_run}

-- ---- a run of bytes that are blank (t is true), or that are not

record Run (t : Bool) (R : List ℕ → ℕ) : Type 0 where
  stop : (b : ℕ) (l : List ℕ) → blank_byte b ≡ not t → R (b ∷ l) ≡ 0
  go : (b : ℕ) (l : List ℕ) → blank_byte b ≡ t → R (b ∷ l) ≡ suc (R l)

one_more : (n : ℕ) → 1 + n ≡ suc n
one_more n = omega arith

blanks : Run true blank_run
unfolding blank_run
blanks = record { stop = λ b l e. rw e; go = λ b l e. rw e (one_more _) }

ink : Run false ink_run
unfolding ink_run
ink = record { stop = λ b l e. rw e; go = λ b l e. rw e (one_more _) }

-- ---- the first word and the rest

-- a word in front and the words after it
abbrev cut : List ℕ → List (List ℕ)
cut l = take (ink_run l) l ∷ words (drop (ink_run l) l)

module _ (b : ℕ) (l : List ℕ) where
  words_blank : blank_byte b ≡ true → words (b ∷ l) ≡ words l
  unfolding words
  words_blank e = rw e

  words_ink : blank_byte b ≡ false → words (b ∷ l) ≡ in_front b l (words l)
  unfolding words
  words_ink e = rw e

inked_by : (b c : ℕ) (m : List ℕ) (t : Bool) → blank_byte c ≡ t → (blank_byte c ≡ false → words (c ∷ m) ≡ cut (c ∷ m))
    → in_front b (c ∷ m) (words (c ∷ m)) ≡ (b ∷ take (ink_run (c ∷ m)) (c ∷ m)) ∷ words (drop (ink_run (c ∷ m)) (c ∷ m))
unfolding in_front grown
inked_by b c m true e ih = rw (e, ink.stop c m e)
inked_by b c m false e ih = rw (e, ih e)

-- a line that begins with a byte that is not blank begins with a word
inked : (b : ℕ) (l : List ℕ) → blank_byte b ≡ false → words (b ∷ l) ≡ cut (b ∷ l)
unfolding ink_run in_front words
inked b [] e = rw e
inked b (c ∷ m) e = words_ink b (c ∷ m) e ∙ inked_by b c m (blank_byte c) refl (inked c m) ∙ rw (ink.go b (c ∷ m) e)

abbrev begun_of : List ℕ → List ℕ
begun_of s = drop (blank_run s) s

abbrev Parts : List ℕ → Type 0
Parts s = (take (ink_run (begun_of s)) (begun_of s) ≡ get_or (words s) 0 []) × (words (drop (ink_run (begun_of s)) (begun_of s)) ≡ drop 1 (words s))

parts_by : (b : ℕ) (l : List ℕ) (t : Bool) → blank_byte b ≡ t → Parts l → Parts (b ∷ l)
parts_by b l true e ih = rw (blanks.go b l e, words_blank b l e) ih
parts_by b l false e ih = rw (blanks.stop b l e, inked b l e) (refl, refl)

parts : (s : List ℕ) → Parts s
unfolding ink_run blank_run words
parts [] = (refl, refl)
parts (b ∷ l) = parts_by b l (blank_byte b) refl (parts l)

-- ---- the functions of `words.rt`

-- a part that reaches to the end
to_end : (n : ℕ) (l : List ℕ) → take (length l - n) (drop n l) ≡ drop n l
to_end n l = take_all (length l - n) (drop n l) (rw length-drop (le_refl _))

pub begun_holds : (s : List ℕ) (n : ℕ) → n ≡ blank_run s → take (length s - n) (drop n s) ≡ begun_of s
begun_holds s n h = to_end n s ∙ rw h

module _ (s t : List ℕ) (n : ℕ) (ht : t ≡ begun_of s) (hn : n ≡ ink_run t) where
  pub first_holds : take n t ≡ get_or (words s) 0 []
  first_holds = rw (hn, ht) (parts s).0

  pub rest_holds : words (take (length t - n) (drop n t)) ≡ drop 1 (words s)
  rest_holds = ap words (to_end n t) ∙ rw (hn, ht) (parts s).1

-- a later word of a line is an earlier one of the rest
pub word_more : (ws vs : List (List ℕ)) (k : ℕ) (r : List ℕ) → 0 < k → vs ≡ drop 1 ws → r ≡ get_or vs (k - 1) [] → r ≡ get_or ws k []
word_more ws vs k r h e f = let q : 1 + (k - 1) ≡ k = omega arith in f ∙ rw (e, get_or-drop 1 ws (k - 1) [], q)
