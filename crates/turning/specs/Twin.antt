-- What turning keeps and what it changes, what it answers and what it writes: the statements, which `once` and `twins` (proofs/Twice), `answers`
-- (proofs/Positions), `writes` and `turns_back` (proofs/Outputs) prove.
-- Above: whoever turns segments. Below: word positions and turning (Turn), the layout and the checks of a segment.
-- Assumes nothing.
use Rattle.std.specs.Prelude.{ℕ, ◌+◌, ◌*◌, ◌/◌, ◌≤◌, ◌<◌, ◌≡◌, List, Bool, true, false, not, ◌||◌, length, take, drop}
use Rattle.operand.specs.Bytes.{byte_at}
use Rattle.segment.specs.Head.{least, word, dict, reloc, pool, real_pool, real, count, entry, datasize, exitic, start}
use Rattle.segment.specs.Judge.{judged}
use Rattle.basis.specs.Checks.{passed, refused}
use Rattle.turning.specs.Turn.{position, swap_at, turned, turn_ruling, output_of}

-- "once, even if two rules name it": words outputOf for one rule and then for another are as outputOf once for both, so a word that
-- both name is swapped once; and outputOf again it stays
pub record Once : Type 0 where
  pub both_rules : (p q : ℕ → Bool) (s out : List ℕ) → swap_at q s (swap_at p s out) ≡ swap_at (λ w. p w || q w) s out
  pub one_rule : (p : ℕ → Bool) (s out : List ℕ) → swap_at p s (swap_at p s out) ≡ swap_at p s out

-- routine k has the same entry, DATASIZE, EXITIC and first instruction
pub record SameRoutine (s t : List ℕ) (k : ℕ) : Type 0 where
  pub entries : entry t k ≡ entry s k
  pub datasizes : datasize t k ≡ datasize s k
  pub exitics : exitic t k ≡ exitic s k
  pub starts : start t k ≡ start s k

-- t is s in the other byte sex
pub record Twin (s t : List ℕ) : Type 0 where
  -- the bytes: swapped at each word position, copied elsewhere
  pub lengths : length t ≡ length s
  pub lows : (w : ℕ) → position s w ≡ true → byte_at t (2 * w) ≡ byte_at s (2 * w + 1)
  pub highs : (w : ℕ) → position s w ≡ true → byte_at t (2 * w + 1) ≡ byte_at s (2 * w)
  pub others : (i : ℕ) → position s (i / 2) ≡ false → byte_at t i ≡ byte_at s i
  -- the header: the other sex, the same numbers
  pub sexes : least t ≡ not (least s)
  pub dicts : dict t ≡ dict s
  pub relocs : reloc t ≡ reloc s
  pub pools : pool t ≡ pool s
  pub real_pools : real_pool t ≡ real_pool s
  pub reals : real t ≡ real s
  pub reserved_9 : word t 9 ≡ word s 9
  pub reserved_10 : word t 10 ≡ word s 10
  -- the routines, the word positions and the ruling
  pub counts : count t ≡ count s
  pub routines : (k : ℕ) → 1 ≤ k → k ≤ count s → SameRoutine s t k
  pub positions : (w : ℕ) → position t w ≡ position s w
  pub rulings : judged t ≡ judged s
  -- turned again it is the first one
  pub again : turned t ≡ s

-- a segment that passes checks 1 to 8 and has no pool, and its turned one
abbrev pub Twins : Type 0
Twins = (s : List ℕ) → judged s ≡ passed → pool s ≡ 0 → Twin s (turned s)

-- the answer of turning s into an output of `room` bytes, in every case
pub record Answers (s : List ℕ) (room : ℕ) : Type 0 where
  pub as_judged : (n p : ℕ) → judged s ≡ refused n p → turn_ruling s room ≡ refused n p
  pub nine : judged s ≡ passed → (pool s ≡ 0 → ⊥) → turn_ruling s room ≡ refused 9 0
  pub ten : judged s ≡ passed → pool s ≡ 0 → room < length s → turn_ruling s room ≡ refused 10 0
  pub accepts : judged s ≡ passed → pool s ≡ 0 → length s ≤ room → turn_ruling s room ≡ passed

-- "Turning writes the first 2W output bytes and no others", and none where it refuses
pub record Outputs (s out : List ℕ) : Type 0 where
  pub size : length (output_of s out) ≡ length out
  pub first : turn_ruling s (length out) ≡ passed → take (length s) (output_of s out) ≡ turned s
  pub rest : drop (length s) (output_of s out) ≡ drop (length s) out
  pub unchanged : (n p : ℕ) → turn_ruling s (length out) ≡ refused n p → output_of s out ≡ out

-- turned into an output of its own length, and that turned into another: both are accepted, and the second holds the first bytes
pub record Back (s a b : List ℕ) : Type 0 where
  pub accepted_again : turn_ruling (output_of s a) (length b) ≡ passed
  pub restored : output_of (output_of s a) b ≡ s

abbrev pub TurnsBack : Type 0
TurnsBack = (s a b : List ℕ) → turn_ruling s (length a) ≡ passed → length a ≡ length s → length b ≡ length s → Back s a b
