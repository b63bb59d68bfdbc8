-- Word positions: the loops over a range of words and over the routines, that the four writings together write every word position, and the answers.
-- Above: the proofs of the code, and what a segment and its turned one share. Below: words outputOf swapped (Swaps).
-- Assumes nothing.
use Prim.Native.Nat.{ℕ, zero, suc, ◌+◌, ◌-◌, ◌*◌, ◌/◌, ◌≤◌, ◌<◌}
use native.Mathlib.Nat.{eq-or-lt_of_le}
use native.Mathlib.Omega.{arith}
use mathlib.Core.Path.{◌≡◌, refl, sym, ◌∙◌}
use mathlib.Core.Logic.{⊎_elim}
use mathlib.Core.List.{List, ◌++◌}
use mathlib.Core.Bool.{Bool, true, false, ◌&&◌, ◌||◌, or-true, or-false, false≢true}
use borrow.Author.Tests.{eq-eqb, eqb-true, ne_eqb, le-leb, lt-leb, leb-true}
use lib.ListN.{length}
use lib.Dec.{eqb}
use Rattle.basis.specs.Bools.{inside}
use Rattle.basis.proofs.Bools.{inside_true, inside_holds, both_true, or_cases}
use Rattle.segment.specs.Head.{words, dict, count, entry, linked, pool}
use Rattle.segment.specs.Judge.{checks, judged}
use Rattle.basis.specs.Checks.{passed, refused, ruling, followed_by}
use Rattle.basis.proofs.Checks.{ruling_append, passing, followed, followed_by_lem}
use Rattle.segment.proofs.Laws.{linked_some, linked_none, all_good}
use Rattle.turning.specs.Turn.{frame, framed, position, swap_at, turned, turn_checks, turn_ruling}
use Rattle.turning.specs.Twin.{Answers}
use Rattle.turning.proofs.Swaps.{swap_same, swap_none, swap_join, swap_front}

-- ---- tests

iff : (a b : Bool) → (a ≡ true → b ≡ true) → (b ≡ true → a ≡ true) → a ≡ b
iff true b f g = sym (f refl)
iff false true f g = g refl
iff false false f g = refl

never : (b : Bool) → (b ≡ true → ⊥) → b ≡ false
never true h = absurd (h refl)
never false h = refl

-- ---- a range of words, one more at each turn of the loop

module _ (s out : List ℕ) (a : ℕ) where
  pub range_start : out ≡ swap_at (inside a a) s out
  range_start = sym (swap_none (inside a a) s out (λ v. never _ (λ h. let i = inside_true a a v h in omega arith)))

  module _ (w : ℕ) (l : a ≤ w) where
    one_more : (v : ℕ) → (inside a w v || eqb w v) ≡ inside a (w + 1) v
    one_more v = iff _ _
        (λ h. or_cases (inside a w v) (eqb w v) h
        (λ p. let i = inside_true a w v p in inside_holds a (w + 1) v (omega arith) (omega arith))
        (λ q. let e = eqb-true w v q in inside_holds a (w + 1) v (omega arith) (omega arith)))
        (λ h.
        let i = inside_true a (w + 1) v h in
        let m : v ≤ w = omega arith in
        ⊎_elim (λ (e : v ≡ w). simp (eq-eqb w v (sym e), or-true)) (λ (k : v < w). rw (inside_holds a w v (omega arith) k)) (eq-or-lt_of_le m))

    pub range_more : {t : List ℕ} → t ≡ swap_at (inside a w) s out → swap_at (eqb w) s t ≡ swap_at (inside a (w + 1)) s out
    range_more h = rw h (swap_join (inside a w) (eqb w) s out ∙ swap_same (λ v. inside a w v || eqb w v) (inside a (w + 1)) s out one_more)

-- ---- EXITIC and DATASIZE

frame_near : (e w : ℕ) → frame e w ≡ true → (w ≤ e) × (e ≤ w + 1)
unfolding frame
frame_near e w h = or_cases (eqb (w + 1) e) (eqb w e) h (λ p. let q = eqb-true (w + 1) e p in omega arith) (λ p. let q = eqb-true w e p in omega arith)

pub near_frame : (e w : ℕ) → w ≤ e → e ≤ w + 1 → frame e w ≡ true
unfolding frame
near_frame e w l r =
    ⊎_elim (λ (q : w ≡ e). simp (eq-eqb w e q, or-true)) (λ (k : w < e). let q : w + 1 ≡ e = omega arith in rw (eq-eqb (w + 1) e q)) (eq-or-lt_of_le l)

-- of an entry that is not zero they are the words from e - 1 up to e + 1
frame_inside : (e w : ℕ) → 1 ≤ e → inside (e - 1) (e + 1) w ≡ frame e w
frame_inside e w l = iff _ _
    (λ h. let i = inside_true (e - 1) (e + 1) w h in near_frame e w (omega arith) (omega arith))
    (λ h. let n = frame_near e w h in inside_holds (e - 1) (e + 1) w (omega arith) (omega arith))

-- ---- the routines, one more at each turn of the loop that writes; one that is not linked adds no word

pub frames_start : (s out : List ℕ) → out ≡ swap_at (framed s 0) s out
unfolding framed
frames_start s out = sym (swap_none (framed s 0) s out (λ w. refl))

pub frames_more : (s out : List ℕ) {t : List ℕ} (k : ℕ) {e : ℕ} → 1 ≤ k → t ≡ swap_at (framed s (k - 1)) s out → e ≡ entry s k → 1 ≤ e
    → swap_at (inside (e - 1) (e + 1)) s t ≡ swap_at (framed s k) s out
unfolding framed
frames_more s out zero o h q l = absurd (omega arith)
frames_more s out (suc k) {e} o h q l =
    let below : suc k - 1 ≡ k = omega arith in
    let some : 1 ≤ entry s (suc k) = omega arith in
    rw (h, below)
    (swap_join (framed s k) (inside (e - 1) (e + 1)) s out
    ∙ swap_same (λ w. framed s k w || inside (e - 1) (e + 1) w) (framed s (suc k)) s out (λ w. rw (frame_inside e w l, q, linked_some s (suc k) some)))

-- a routine that is not linked has no word positions
pub unlinked_words : (s : List ℕ) (k w : ℕ) → entry s (suc k) ≡ 0 → framed s (suc k) w ≡ framed s k w
unfolding framed
unlinked_words s k w e = rw (linked_none s (suc k) e) (or-false (framed s k w))

pub frames_same : (s out : List ℕ) {t : List ℕ} (k : ℕ) {e : ℕ} → 1 ≤ k → t ≡ swap_at (framed s (k - 1)) s out → e ≡ entry s k → e ≡ 0
    → t ≡ swap_at (framed s k) s out
frames_same s out zero o h q z = absurd (omega arith)
frames_same s out (suc k) o h q z =
    let below : suc k - 1 ≡ k = omega arith in
    h ∙ rw below (swap_same (framed s k) (framed s (suc k)) s out (λ w. sym (unlinked_words s k w (sym q ∙ z))))

-- the words of a linked routine k are among those of the first n; and what holds of each linked routine's words holds of all of them
pub framed_has : (s : List ℕ) (w n k : ℕ) → 1 ≤ k → k ≤ n → linked s k ≡ true → frame (entry s k) w ≡ true → framed s n w ≡ true
unfolding framed
framed_has s w zero k l r some h = let f : ⊥ = omega arith in absurd f
framed_has s w (suc n) k l r some h =
    ⊎_elim (λ (e : k ≡ suc n). simp (rw e at some, rw e at h, or-true)) (λ (m : k < suc n). rw (framed_has s w n k l (omega arith) some h)) (eq-or-lt_of_le r)

framed_in : (s : List ℕ) (w n top : ℕ) → ((k : ℕ) → 1 ≤ k → k ≤ n → linked s k ≡ true → entry s k < top) → framed s n w ≡ true → w < top
unfolding framed
framed_in s w zero top f h = absurd (false≢true h)
framed_in s w (suc n) top f h =
    or_cases (framed s n w) (linked s (suc n) && frame (entry s (suc n)) w) h (λ p. framed_in s w n top (λ k l (r : k ≤ n). f k l (omega arith)) p)
    (λ p.
    let q = both_true (linked s (suc n)) _ p in
    omega (arith, frame_near (entry s (suc n)) w q.1, f (suc n) (omega arith) (omega arith) q.0))

-- ---- an accepted segment: its word positions lie in it, and the four writings write all of them

module _ (s : List ℕ) (ok : judged s ≡ passed) where
  pub entry_in : (k : ℕ) → 1 ≤ k → k ≤ count s → linked s k ≡ true → (12 ≤ entry s k) × (entry s k < words s)
  entry_in k l r some =
      let f = (all_good s ok).routines k l r some in
      omega arith

  -- the same of a result e, for routine k of n
  pub entry_fits : {n k e : ℕ} → n ≡ count s → 1 ≤ k → k ≤ n → e ≡ entry s k → 1 ≤ e → 2 * (e + 1) ≤ length s
  entry_fits {n} {k} {e} hn o l he some =
      let i = entry_in k o (omega arith) (linked_some s k (omega arith)) in
      omega arith

  pub position_in : (w : ℕ) → position s w ≡ true → w < words s
  unfolding position
  position_in w h =
      let g = (all_good s ok).header in
      or_cases ((inside 0 2 w || inside 6 11 w) || inside (dict s) (dict s + count s + 1) w) (framed s (count s) w) h
      (λ p. or_cases (inside 0 2 w || inside 6 11 w) (inside (dict s) (dict s + count s + 1) w) p
      (λ q. or_cases (inside 0 2 w) (inside 6 11 w) q (λ i. omega (arith, inside_true 0 2 w i)) (λ i. omega (arith, inside_true 6 11 w i)))
      (λ q. omega (arith, inside_true (dict s) (dict s + count s + 1) w q)))
      (λ p. framed_in s w (count s) (words s) (λ k l r some. (entry_in k l r some).1) p)

  past_none : (i : ℕ) → length s ≤ i → position s (i / 2) ≡ false
  past_none i l = let g = (all_good s ok).header in never _ (λ h. omega (arith, position_in (i / 2) h))

  pub all_written : (d : List ℕ) {o₀ o₁ o₂ o₃ o₄ : List ℕ} {at n : ℕ} → at ≡ dict s → n ≡ count s
      → o₀ ≡ s ++ d
      → o₁ ≡ swap_at (inside 0 2) s o₀
      → o₂ ≡ swap_at (inside 6 11) s o₁
      → o₃ ≡ swap_at (inside at (at + n + 1)) s o₂
      → o₄ ≡ swap_at (framed s (count s)) s o₃
      → o₄ ≡ turned s ++ d
  unfolding turned position
  all_written d hd hn h₀ h₁ h₂ h₃ h₄ =
      rw (
        h₄,
        h₃,
        h₂,
        h₁,
        h₀,
        hd,
        hn,
        swap_join (inside 0 2) (inside 6 11),
        swap_join (λ w. inside 0 2 w || inside 6 11 w),
        swap_join (λ w. (inside 0 2 w || inside 6 11 w) || inside (dict s) (dict s + count s + 1) w),
      )
      (swap_front (position s) s d past_none)

-- ---- checks 9 and 10 after checks 1 to 8

module _ (s : List ℕ) (room : ℕ) where
  ruling_is : turn_ruling s room ≡ followed_by (judged s) (ruling (turn_checks s room))
  unfolding turn_ruling judged
  ruling_is = ruling_append (checks s) (turn_checks s room)

  pub turn_good : turn_ruling s room ≡ passed → (judged s ≡ passed) × (pool s ≡ 0) × (length s ≤ room)
  unfolding turn_checks
  turn_good h =
      let a = followed _ _ (sym ruling_is ∙ h) in
      let p = passing (turn_checks s room) a.1 in
      (a.0, eqb-true _ _ p.0, leb-true _ _ p.1.0)

  pub turn_as_judged : (n p : ℕ) → judged s ≡ refused n p → turn_ruling s room ≡ refused n p
  unfolding followed_by
  turn_as_judged n p h = ruling_is ∙ rw h refl

  module _ (ok : judged s ≡ passed) where
    pub turn_nine : (pool s ≡ 0 → ⊥) → turn_ruling s room ≡ refused 9 0
    unfolding ruling turn_checks
    turn_nine h = ruling_is ∙ followed_by_lem _ _ ok ∙ rw (ne_eqb (pool s) 0 h) refl

    module _ (none : pool s ≡ 0) where
      pub turn_ten : room < length s → turn_ruling s room ≡ refused 10 0
      unfolding ruling turn_checks
      turn_ten l = ruling_is ∙ followed_by_lem _ _ ok ∙ rw (eq-eqb (pool s) 0 none, lt-leb (length s) room l) refl

      pub turn_accepts : length s ≤ room → turn_ruling s room ≡ passed
      unfolding ruling turn_checks
      turn_accepts l = ruling_is ∙ followed_by_lem _ _ ok ∙ rw (eq-eqb (pool s) 0 none, le-leb (length s) room l) refl

  pub answers : Answers s room
  answers = record { as_judged = turn_as_judged; nine = turn_nine; ten = turn_ten; accepts = turn_accepts }
