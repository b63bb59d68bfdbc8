-- A turned segment has the other sex, the same header numbers, routines, word positions and checks, and turned again it is the first one.
-- Above: outputs turned back (Outputs). Below: word positions, and words outputOf swapped. Assumes nothing.
use Prim.Native.Nat.{ℕ, zero, suc, ◌+◌, ◌-◌, ◌*◌, ◌/◌, ◌%◌, ◌≤◌, ◌<◌}
use native.Mathlib.Decide.{dec_le}
use native.Mathlib.Omega.{arith}
use mathlib.Core.Path.{◌≡◌, refl, sym, ap, ◌∙◌}
use mathlib.Core.Logic.{⊎_elim}
use mathlib.Core.List.{List}
use mathlib.Core.Bool.{Bool, true, false, not, ◌||◌, ◌&&◌, cond, or-true}
use borrow.Author.Tests.{eqb-true}
use lib.ListN.{length, get_or-eq_default}
use lib.Seq.{ext_get_or}
use lib.Dec.{eqb}
use Rattle.basis.specs.Bools.{inside}
use Rattle.basis.proofs.Bools.{both_true, inside_holds, or_cases}
use Rattle.operand.specs.Bytes.{byte_at, word_by}
use Rattle.segment.specs.Head.{words, least, word, dict, reloc, pool, real_pool, real, count, entry, linked, datasize, exitic, start, sex_bytes, sex_ok}
use Rattle.segment.specs.Judge.{head_checks, routine_checks, routines_from, checks, judged}
use Rattle.basis.specs.Checks.{passed}
use Rattle.segment.proofs.Laws.{Header, all_good}
use Rattle.turning.specs.Turn.{framed, position, other, swap_byte, swap_at, turned}
use Rattle.turning.specs.Twin.{Once, SameRoutine, Twins}
use Rattle.turning.proofs.Swaps.{halves, other_even, other_odd, length_swap, get_or_swap, swap_in, swap_out, swap_same, swap_join}
use Rattle.turning.proofs.Positions.{near_frame, framed_has, entry_in, position_in}

-- ---- once, even if two rules name it

or_same : (b : Bool) → (b || b) ≡ b
or_same true = refl
or_same false = refl

pub once : Once
once = record {
  both_rules = swap_join;
  one_rule = λ p s out. swap_join p p s out ∙ swap_same (λ w. p w || p w) p s out (λ (w : ℕ). or_same (p w));
}

-- ---- the sex word

sex_flips : (a b : ℕ) → sex_bytes a b ≡ true → (sex_bytes b a ≡ true) × (eqb b 1 ≡ not (eqb a 1))
unfolding sex_bytes
sex_flips a b h =
    or_cases (eqb a 1 && eqb b 0) (eqb a 0 && eqb b 1) h
    (λ p. let q = both_true _ _ p in rw (eqb-true a 1 q.0, eqb-true b 0 q.1) (refl, refl))
    (λ p. let q = both_true _ _ p in rw (eqb-true a 0 q.0, eqb-true b 1 q.1) (refl, refl))

-- ---- checks and word positions, routine by routine

-- a number of a routine that is linked, and 0 of one that is not
if_linked : (b : Bool) {x y : ℕ} → (b ≡ true → x ≡ y) → cond b x 0 ≡ cond b y 0
if_linked true h = h refl
if_linked false h = refl

same_from : (t s : List ℕ) (n j : ℕ) → ((k : ℕ) → j ≤ k → k < j + n → routine_checks t k ≡ routine_checks s k) → routines_from t n j ≡ routines_from s n j
unfolding routines_from
same_from t s zero j h = refl
same_from t s (suc n) j h =
    rw (h j (omega arith) (omega arith), same_from t s n (j + 1) (λ (k : ℕ) (l : j + 1 ≤ k) (m : k < j + 1 + n). h k (omega arith) (omega arith)))

same_framed : (t s : List ℕ) (w n : ℕ) → ((k : ℕ) → k ≤ n → entry t k ≡ entry s k) → framed t n w ≡ framed s n w
unfolding framed linked
same_framed t s w zero h = refl
same_framed t s w (suc n) h = rw (h (suc n) (omega arith), same_framed t s w n (λ (k : ℕ) (m : k ≤ n). h k (omega arith)))

-- ---- the other byte lies in the same word, and its other byte is the first

mate : (i : ℕ) → (other i / 2 ≡ i / 2) × (other (other i) ≡ i)
mate i =
    ⊎_elim
    (λ (e : i % 2 ≡ 0). let o = other_even i e in (omega arith, rw o (omega (arith, other_odd (i + 1) (omega arith)))))
    (λ (e : i % 2 ≡ 1). let o = other_odd i e in (omega arith, rw o (omega (arith, other_even (i - 1) (omega arith)))))
    (halves i)

-- ---- an accepted segment and its turned one

module _ (s : List ℕ) (ok : judged s ≡ passed) where
  good : Header s
  good = (all_good s ok).header

  pub length_turned : length (turned s) ≡ length s
  unfolding turned
  length_turned = length_swap (position s) s s

  turned_at : (i : ℕ) → i < length s → byte_at (turned s) i ≡ swap_byte (position s) s s i
  unfolding turned
  turned_at i l = get_or_swap (position s) s s i l

  -- at a word position stands the other byte of the word
  moved_byte : (i : ℕ) → position s (i / 2) ≡ true → byte_at (turned s) i ≡ byte_at s (other i)
  moved_byte i h =
      let m = position_in s ok (i / 2) h in
      turned_at i (omega arith) ∙ swap_in (position s) s s i h

  low_byte : (w : ℕ) → position s w ≡ true → byte_at (turned s) (2 * w) ≡ byte_at s (2 * w + 1)
  low_byte w h = let e : 2 * w / 2 ≡ w = omega arith in moved_byte (2 * w) (rw e h) ∙ ap (byte_at s) (other_even (2 * w) (omega arith))

  high_byte : (w : ℕ) → position s w ≡ true → byte_at (turned s) (2 * w + 1) ≡ byte_at s (2 * w)
  high_byte w h =
      let e : (2 * w + 1) / 2 ≡ w = omega arith in
      let z : 2 * w + 1 - 1 ≡ 2 * w = omega arith in
      moved_byte (2 * w + 1) (rw e h) ∙ ap (byte_at s) (other_odd (2 * w + 1) (omega arith) ∙ z)

  other_byte' : (i : ℕ) → position s (i / 2) ≡ false → Dec (length s ≤ i) → byte_at (turned s) i ≡ byte_at s i
  other_byte' i h (yes l) = let n = length_turned in get_or-eq_default (turned s) 0 (omega arith) ∙ sym (get_or-eq_default s 0 l)
  other_byte' i h (no l) = turned_at i (omega arith) ∙ swap_out (position s) s s i h

  other_byte : (i : ℕ) → position s (i / 2) ≡ false → byte_at (turned s) i ≡ byte_at s i
  other_byte i h = other_byte' i h (dec_le (length s) i)

  -- a word position reads the same in the other sex
  other_sex : (b : Bool) (w : ℕ) → position s w ≡ true → word_by (not b) (turned s) w ≡ word_by b s w
  unfolding word_by
  other_sex true w h = rw (low_byte w h, high_byte w h) refl
  other_sex false w h = rw (low_byte w h, high_byte w h) refl

  sex_turned : (sex_ok (turned s) ≡ true) × (least (turned s) ≡ not (least s))
  unfolding least position inside
  sex_turned =
      let a = low_byte 6 refl in
      let b = high_byte 6 refl in
      let f = sex_flips _ _ good.sexed in
      (rw (a, b) f.0, rw a f.1)

  same_word : (w : ℕ) → position s w ≡ true → word (turned s) w ≡ word s w
  unfolding word
  same_word w h = rw sex_turned.1 (other_sex (least s) w h)

  same_words : words (turned s) ≡ words s
  same_words = ap (λ (n : ℕ). n / 2) length_turned

  -- the header: the words 0, 1 and 6 to 10
  same_dict : dict (turned s) ≡ dict s
  unfolding dict position inside
  same_dict = same_word 0 refl

  same_reloc : reloc (turned s) ≡ reloc s
  unfolding reloc position inside
  same_reloc = same_word 1 refl

  same_pool : pool (turned s) ≡ pool s
  unfolding pool position inside
  same_pool = same_word 7 refl

  -- the words D to D + n, and the two of each routine
  in_dict : (k : ℕ) → k ≤ count s → position s (dict s + k) ≡ true
  unfolding position
  in_dict k l = simp (inside_holds (dict s) (dict s + count s + 1) (dict s + k) (omega arith) (omega arith), or-true)

  in_frame : (w k : ℕ) → 1 ≤ k → k ≤ count s → linked s k ≡ true → w ≤ entry s k → entry s k ≤ w + 1 → position s w ≡ true
  unfolding position
  in_frame w k l r some a b = simp (framed_has s w (count s) k l r some (near_frame (entry s k) w a b), or-true)

  same_entry : (k : ℕ) → k ≤ count s → entry (turned s) k ≡ entry s k
  unfolding entry
  same_entry k l = rw same_dict (same_word (dict s + k) (in_dict k l))

  same_count : count (turned s) ≡ count s
  unfolding count
  same_count =
      let e : dict s + 0 ≡ dict s = omega arith in
      rw same_dict (same_word (dict s) (rw e at (in_dict 0 (omega arith))))

  same_linked : (k : ℕ) → k ≤ count s → linked (turned s) k ≡ linked s k
  unfolding linked
  same_linked k l = rw (same_entry k l)

  module _ (k : ℕ) (l : 1 ≤ k) (r : k ≤ count s) where
    same_datasize : datasize (turned s) k ≡ datasize s k
    unfolding datasize
    same_datasize =
        rw (same_linked k r, same_entry k r)
        (if_linked (linked s k) (λ some. same_word (entry s k) (in_frame (entry s k) k l r some (omega arith) (omega arith))))

    same_exitic : exitic (turned s) k ≡ exitic s k
    unfolding exitic
    same_exitic =
        rw (same_linked k r, same_entry k r)
        (if_linked (linked s k) (λ some.
        let i = entry_in s ok k l r some in
        same_word (entry s k - 1) (in_frame (entry s k - 1) k l r some (omega arith) (omega arith))))

    same_routine : SameRoutine s (turned s) k
    unfolding start
    same_routine =
        record { entries = same_entry k r; datasizes = same_datasize; exitics = same_exitic; starts = rw (same_linked k r, same_entry k r) }

  same_position : (w : ℕ) → position (turned s) w ≡ position s w
  unfolding position
  same_position w = rw (same_dict, same_count, same_framed (turned s) s w (count s) same_entry) refl

  -- with no pool there is no real pool
  same_reals : pool s ≡ 0 → real_pool (turned s) ≡ real_pool s
  unfolding real_pool
  same_reals none = rw (same_pool, none)

  -- the same checks, so the same ruling; of a pool's first word nothing is asked, since there is none
  same_head : pool s ≡ 0 → head_checks (turned s) ≡ head_checks s
  unfolding head_checks
  same_head none = rw (same_words, length_turned, same_reloc, same_pool, none, same_dict, same_count, sex_turned.0, good.sexed) refl

  same_three : (k : ℕ) → 1 ≤ k → k < 1 + count s → routine_checks (turned s) k ≡ routine_checks s k
  unfolding routine_checks
  same_three k l r =
      rw (same_linked k (omega arith), same_entry k (omega arith), same_datasize k l (omega arith), same_exitic k l (omega arith), same_words)

  same_ruling : pool s ≡ 0 → judged (turned s) ≡ judged s
  unfolding judged checks
  same_ruling none = rw (same_head none, same_count, same_from (turned s) s (count s) 1 same_three)

  -- turned twice, it is the segment
  turned_back : (i : ℕ) (b : Bool) → position s (i / 2) ≡ b → swap_byte (position s) (turned s) (turned s) i ≡ byte_at s i
  turned_back i true h =
      let m = mate i in
      swap_in (position s) (turned s) (turned s) i h ∙ moved_byte (other i) (rw m.0 h) ∙ ap (byte_at s) m.1
  turned_back i false h = swap_out (position s) (turned s) (turned s) i h ∙ other_byte i h

  turned_twice : turned (turned s) ≡ s
  unfolding turned
  turned_twice =
      let m = length_swap (position s) (turned s) (turned s) in
      swap_same (position (turned s)) (position s) (turned s) (turned s) same_position
      ∙ ext_get_or 0 (swap_at (position s) (turned s) (turned s)) s (m ∙ length_turned)
      (λ (i : ℕ) (l : i < length (swap_at (position s) (turned s) (turned s))).
      get_or_swap (position s) (turned s) (turned s) i (omega arith) ∙ turned_back i (position s (i / 2)) refl)

pub twins : Twins
unfolding real position inside
twins s ok none = record {
  lengths = length_turned s ok;
  lows = low_byte s ok;
  highs = high_byte s ok;
  others = other_byte s ok;
  sexes = (sex_turned s ok).1;
  dicts = same_dict s ok;
  relocs = same_reloc s ok;
  pools = same_pool s ok;
  real_pools = same_reals s ok none;
  reals = same_word s ok 8 refl;
  reserved_9 = same_word s ok 9 refl;
  reserved_10 = same_word s ok 10 refl;
  counts = same_count s ok;
  routines = same_routine s ok;
  positions = same_position s ok;
  rulings = same_ruling s ok none;
  again = turned_twice s ok;
}
