-- Words of the constant pool: request 2, "the multiple-word constant load and the case jump as their entries in the manual give them".
-- Above: Step, which judges LDC and XJP by these; below: the header numbers of `segment`, and the integers of `basis`.
use Rattle.std.specs.Prelude.{ℕ, zero, suc, ◌+◌, List, [], ◌∷◌, reverse, Bool, ◌&&◌, ◌||◌, not, leb, eqb}
use Rattle.basis.specs.Integer.{sub_of, leq_of}
use Rattle.operand.specs.Bytes.{word_by}
use Rattle.segment.specs.Head.{least, word, pool, real_pool}

-- "With no pool, or where a word to be read lies at W or above or from the real pool's start on, fault 6": whether n words can be read, from offset b
-- of the pool on. The real pool starts at W at the latest, and of no words none can lie too high.
unfoldable pub in_pool : List ℕ → ℕ → ℕ → Bool
in_pool s b n = not (eqb (pool s) 0) && (eqb n 0 || leb (pool s + b + n) (real_pool s))

-- ---- LDC: "B is a word offset into the constant pool of the current segment. Push the UB_2 words starting at that offset onto the evaluation stack."

-- "If UB_1, the mode, is 2, and the current segment is of opposite byte sex from the host, swap the bytes of each word as it is pushed";
-- "our own sex is least-first"
unfoldable pub swaps : List ℕ → ℕ → Bool
swaps s mode = eqb mode 2 && not (least s)

-- n words of a segment from word `from` on, each least byte first or each most byte first
unfoldable pub words_from : Bool → List ℕ → ℕ → ℕ → List ℕ
words_from sex s from zero = []
words_from sex s from (suc n) = word_by sex s from ∷ words_from sex s (from + 1) n

-- the words that LDC pushes, in the order in which they are pushed
unfoldable pub constants_of : List ℕ → ℕ → ℕ → ℕ → List ℕ
constants_of s mode b n = words_from (not (swaps s mode)) s (pool s + b) n

-- "each word as it is pushed": they are pushed one after another, so that, read from SP upward, the one that was pushed last comes first
unfoldable pub on_top : List ℕ → List ℕ
on_top pushed = reverse pushed

-- ---- XJP: "The first word, W1, with word offset B in the constant pool of the current segment is word-aligned and is the minimum index of the table.
-- The next word up, W2, is the maximum index." "If the byte sex of the segment is opposite to the host, any of these words must be byte-swapped before
-- they are used": so each is read in the segment's own sex.
abbrev pub lowest : List ℕ → ℕ → ℕ
lowest s b = word s (pool s + b)

abbrev pub highest : List ℕ → ℕ → ℕ
highest s b = word s (pool s + b + 1)

-- "If TOS, the actual index, is in the range W1 through W2", all three in two's complement
unfoldable pub in_table : List ℕ → ℕ → ℕ → Bool
in_table s b i = eqb (leq_of (lowest s b) i) 1 && eqb (leq_of i (highest s b)) 1

-- "The case table is the next (W2 - W1) + 1 words": the offset of the index's word in the pool. From W1 to an index in range are 0 to 65,535 words,
-- so that the difference of 16 bits is the difference.
unfoldable pub arm_offset : List ℕ → ℕ → ℕ → ℕ
arm_offset s b i = b + 2 + sub_of i (lowest s b)
