-- `words::word` is a word by its number. It calls itself on the rest of the line; the measure is the number. Assumes nothing.
use Rattle.text.proofs.words.+word.Given as goal

abbrev pub decreases-word : goal.decreases-word
decreases-word l = l.k
