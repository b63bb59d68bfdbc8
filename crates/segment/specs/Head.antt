-- Segment layout: the numbers of the header and of the routines, and what each of the checks 1 to 8 asks.
-- Below: bytes and words. Above: the verdict, turning, the machine. Assumes nothing.
use Rattle.std.specs.Prelude.{ℕ, ◌+◌, ◌-◌, ◌*◌, ◌/◌, ◌%◌, List, Bool, true, ◌&&◌, ◌||◌, not, cond, length, leb, ltb, eqb}
use Rattle.basis.specs.Bools.{inside}
use Rattle.operand.specs.Bytes.{byte_at, word_by}
use Rattle.segment.specs.declared.Segment.{Segment}
use Rattle.segment.specs.declared.Routine.{Routine}

-- "A segment is W words"
abbrev pub words : List ℕ → ℕ
words s = length s / 2

-- "The sex word's bytes are 01 00 (least byte first) or 00 01 (most first)": the sex word is word 6
unfoldable pub least : List ℕ → Bool
least s = eqb (byte_at s 12) 1

-- word w, in the segment's own sex
unfoldable pub word : List ℕ → ℕ → ℕ
word s w = word_by (least s) s w

-- "words 0 to 10 are: routine dictionary pointer, relocation pointer, eight name characters (words 2 to 5), byte sex,
-- constant pool pointer, real size, two reserved"
unfoldable pub dict : List ℕ → ℕ
dict s = word s 0

unfoldable pub reloc : List ℕ → ℕ
reloc s = word s 1

unfoldable pub pool : List ℕ → ℕ
pool s = word s 7

unfoldable pub real : List ℕ → ℕ
real s = word s 8

-- 000: "The first word of the constant pool points to the beginning of the real pool. This is a word pointer relative to the start of the constant
-- pool; if there are no real constants in the code segment, this word must be 0."
unfoldable pub pool_first : List ℕ → ℕ
pool_first s = word s (pool s)

-- Where the real pool starts, as a word number of the segment: what a report may read of the pool lies below it. Without a real pool that is the
-- pool's end, W; with no pool at all it is 0.
unfoldable pub real_pool : List ℕ → ℕ
real_pool s = cond (eqb (pool s) 0) 0 (cond (eqb (pool_first s) 0) (words s) (pool s + pool_first s))

-- "word D is the count n, word D+k the entry of routine k"
unfoldable pub count : List ℕ → ℕ
count s = word s (dict s)

unfoldable pub entry : List ℕ → ℕ → ℕ
entry s k = word s (dict s + k)

-- Request 1: "declared but unlinked external routines. The manual says such an entry is zero"
unfoldable pub linked : List ℕ → ℕ → Bool
linked s k = not (eqb (entry s k) 0)

-- "Entry e is the word number of DATASIZE; EXITIC is word e-1; the first instruction is byte 2(e+1)". A routine that is not linked has none of
-- them; request 14: "A zero entry counts as start, DATASIZE and EXITIC 0."
unfoldable pub datasize : List ℕ → ℕ → ℕ
datasize s k = cond (linked s k) (word s (entry s k)) 0

unfoldable pub exitic : List ℕ → ℕ → ℕ
exitic s k = cond (linked s k) (word s (entry s k - 1)) 0

unfoldable pub start : List ℕ → ℕ → ℕ
start s k = cond (linked s k) (2 * (entry s k + 1)) 0

-- the numbers of the header and of routine k, as the code's records have them
abbrev pub head_of : List ℕ → Segment
head_of s = record {
  words = words s;
  least = least s;
  dict = dict s;
  reloc = reloc s;
  pool = pool s;
  reals = real_pool s;
  real = real s;
  count = count s;
}

abbrev pub routine_of : List ℕ → ℕ → Routine
routine_of s k = record { entry = entry s k; datasize = datasize s k; exitic = exitic s k; start = start s k }

-- the record of a segment that is not there yet
abbrev pub fresh_of : Segment
fresh_of = record { words = 0; least = true; dict = 0; reloc = 0; pool = 0; reals = 0; real = 0; count = 0 }

-- 1: "segment length odd, or W outside 16..32,767"
abbrev pub shape_ok : List ℕ → Bool
shape_ok s = eqb (length s % 2) 0 && inside 16 32768 (words s)

-- 2: "sex bytes neither 01 00 nor 00 01"
unfoldable pub sex_bytes : ℕ → ℕ → Bool
sex_bytes a b = (eqb a 1 && eqb b 0) || (eqb a 0 && eqb b 1)

abbrev pub sex_ok : List ℕ → Bool
sex_ok s = sex_bytes (byte_at s 12) (byte_at s 13)

-- 3: "relocation pointer not 0"
abbrev pub reloc_ok : List ℕ → Bool
reloc_ok s = eqb (reloc s) 0

-- 4: "pool pointer neither 0 nor 11..W-1"; request 2: "The pool's first word must be 0 or point inside the pool (which ends at W), else refusal 4"
abbrev pub pool_ok : List ℕ → Bool
pool_ok s = eqb (pool s) 0 || (inside 11 (words s) (pool s) && ltb (pool s + pool_first s) (words s))

-- 5: "D outside 11..W-1, n outside 1..255, or D+n at or above W"
abbrev pub dict_ok : List ℕ → Bool
dict_ok s = inside 11 (words s) (dict s) && (inside 1 256 (count s) && ltb (dict s + count s) (words s))

-- 6: "an entry outside 12..W-2, zero included"; request 1 takes a zero out of the table for every routine but routine 1 (Judge)
abbrev pub entry_ok : List ℕ → ℕ → Bool
entry_ok s k = leb 12 (entry s k) && ltb (entry s k + 1) (words s)

-- 7: "DATASIZE 32,768 or more"
abbrev pub data_ok : List ℕ → ℕ → Bool
data_ok s k = ltb (datasize s k) 32768

-- 8: "EXITIC outside 22..2W-1"
abbrev pub exit_ok : List ℕ → ℕ → Bool
exit_ok s k = inside 22 (2 * words s) (exitic s k)
