-- What an accepted segment tells of its numbers, and the steps of the loop over the routines.
-- Below: the theorems on rulings in `basis`. Above: turning, the machine and the bench. Assumes nothing.
use Prim.Native.Nat.{ℕ, zero, suc, ◌+◌, ◌-◌, ◌*◌, ◌%◌, ◌≤◌, ◌<◌}
use native.Mathlib.Omega.{arith}
use native.Mathlib.Nat.{eq-or-lt_of_le}
use mathlib.Core.Path.{◌≡◌, refl, sym, ◌∙◌}
use mathlib.Core.Logic.{◌↔◌, ◌⊎◌, inl, inr, ⊎_elim}
use mathlib.Core.List.{List, [], ◌∷◌, cons≢nil}
use mathlib.Core.Bool.{Bool, true, false, ◌&&◌, ◌||◌, not, cond, and-true, or-true}
use borrow.Author.Tests.{leb-true, ltb-true, eqb-true, eqb-false, le-leb, lt-leb, lt-ltb, ne_eqb}
use lib.ListN.{length}
use lib.Dec.{leb, ltb, eqb}
use Rattle.basis.specs.Bools.{inside}
use Rattle.basis.proofs.Bools.{both_true, inside_true, inside_holds, or_cases, cond_holds}
use Rattle.operand.specs.Bytes.{word_by}
use Rattle.segment.specs.Head.{words, least, word, dict, reloc, pool, pool_first, real_pool, count, entry, linked, datasize, exitic, start, shape_ok, sex_ok, reloc_ok, pool_ok, entry_ok, data_ok, exit_ok}
use Rattle.basis.specs.Checks.{Check, check, passed, refused, ruling, passes, followed_by}
use Rattle.basis.proofs.Checks.{ruling_append, pass_all, stops, passing, followed, followed_by_lem}
use Rattle.segment.specs.Judge.{head_checks, routine_checks, routines_from, checks, judged}

-- ---- a routine that is linked, and one that is not

no_checks : (x : Check) (xs : List Check) (zero first : Bool) → cond (not zero || first) (x ∷ xs) [] ≡ [] → (zero ≡ true) × (first ≡ false)
no_checks x xs true false h = (refl, refl)
no_checks x xs true true h = absurd (cons≢nil h)
no_checks x xs false first h = absurd (cons≢nil h)

module _ (s : List ℕ) (k : ℕ) where
  pub linked_some : 1 ≤ entry s k → linked s k ≡ true
  unfolding linked
  linked_some l = let e : eqb (entry s k) 0 ≡ false = ne_eqb (entry s k) 0 (λ z. omega (arith, l, z)) in rw e

  pub linked_none : entry s k ≡ 0 → linked s k ≡ false
  unfolding linked
  linked_none e = rw e

  pub unlinked_numbers : entry s k ≡ 0 → (datasize s k ≡ 0) × (exitic s k ≡ 0) × (start s k ≡ 0)
  unfolding datasize exitic start
  unlinked_numbers e = rw (linked_none e) (refl, refl, refl)

  -- it has no checks, unless it is routine 1, and no other routine has none
  pub unlinked_checks : (routine_checks s k ≡ []) ↔ ((entry s k ≡ 0) × (k ≡ 1 → ⊥))
  unfolding routine_checks linked
  unlinked_checks = (
    λ h.
        let z = no_checks _ _ (eqb (entry s k) 0) (eqb k 1) h in
        (eqb-true (entry s k) 0 z.0, eqb-false k 1 z.1),
    λ h. rw (h.0, ne_eqb k 1 h.1),
  )

-- ---- what checks 1 to 5 tell

pub record Header (s : List ℕ) : Type 0 where
  pub long : 32 ≤ length s
  pub even : length s ≡ 2 * words s
  pub few : words s ≤ 32767
  pub sexed : sex_ok s ≡ true
  pub relocs : reloc s ≡ 0
  pub pools : (pool s ≡ 0) ⊎ ((11 ≤ pool s) × (pool s < words s) × (pool s + pool_first s < words s))
  pub low : 11 ≤ dict s
  pub some : 1 ≤ count s
  pub many : count s ≤ 255
  pub room : dict s + count s < words s

shaped : (s : List ℕ) → shape_ok s ≡ true → (32 ≤ length s) × (length s ≡ 2 * words s) × (words s ≤ 32767)
shaped s h =
    let p = both_true (eqb (length s % 2) 0) _ h in
    omega (arith, eqb-true (length s % 2) 0 p.0, inside_true _ _ _ p.1)

pub pooled : (s : List ℕ) → pool_ok s ≡ true → (pool s ≡ 0) ⊎ ((11 ≤ pool s) × (pool s < words s) × (pool s + pool_first s < words s))
pooled s h =
    or_cases _ _ h (λ (e : eqb (pool s) 0 ≡ true). inl (eqb-true _ _ e))
    (λ (e : (inside 11 (words s) (pool s) && ltb (pool s + pool_first s) (words s)) ≡ true).
    let b = both_true _ _ e in
    let i = inside_true _ _ _ b.0 in
    inr (i.0, i.1, ltb-true _ _ b.1))

-- check 4, in numbers
pub pool_check : (s : List ℕ) → (pool_ok s ≡ true) ↔ ((pool s ≡ 0) ⊎ ((11 ≤ pool s) × (pool s + pool_first s < words s)))
pool_check s = (
  λ h.
      ⊎_elim (λ (e : pool s ≡ 0). inl e) (λ (e : (11 ≤ pool s) × (pool s < words s) × (pool s + pool_first s < words s)). inr (e.0, e.2))
      (pooled s h),
  λ h.
      ⊎_elim (λ (e : pool s ≡ 0). rw e)
      (λ (e : (11 ≤ pool s) × (pool s + pool_first s < words s)).
      rw (inside_holds 11 (words s) (pool s) e.0 (omega (arith, e.1)), lt-ltb (pool s + pool_first s) (words s) e.1) (simp or-true)) h,
)

-- and it comes behind 1, 2 and 3, before all others
pub four : (s : List ℕ) → shape_ok s ≡ true → sex_ok s ≡ true → reloc_ok s ≡ true → pool_ok s ≡ false → judged s ≡ refused 4 0
unfolding judged checks head_checks ruling
four s one two three bad = rw (one, two, three, bad)

-- the real pool starts inside the pool, or at its end
pub reals_high : (s : List ℕ) → (pool s ≡ 0) ⊎ ((11 ≤ pool s) × (pool s < words s) × (pool s + pool_first s < words s)) → real_pool s ≤ words s
unfolding real_pool
reals_high s h =
    ⊎_elim (λ (e : pool s ≡ 0). rw e (omega arith))
    (λ (e : (11 ≤ pool s) × (pool s < words s) × (pool s + pool_first s < words s)).
    cond_holds (λ (n : ℕ). n ≤ words s) (eqb (pool s) 0) (λ _. omega arith)
    (λ _. cond_holds (λ (n : ℕ). n ≤ words s) (eqb (pool_first s) 0) (λ _. omega arith) (λ _. omega (arith, e.2)))) h

pub head_good : (s : List ℕ) → ruling (head_checks s) ≡ passed → Header s
unfolding head_checks
head_good s h =
    let c = passing (head_checks s) h in
    let a = shaped s c.0 in
    let p = both_true _ _ c.1.1.1.1.0 in
    let q = both_true _ _ p.1 in
    let j = inside_true _ _ _ q.0 in
    record {
      long = a.0;
      even = a.1;
      few = a.2;
      sexed = c.1.0;
      relocs = eqb-true _ _ c.1.1.0;
      pools = pooled s c.1.1.1.0;
      low = (inside_true _ _ _ p.0).0;
      some = j.0;
      many = omega arith;
      room = ltb-true _ _ q.1;
    }

-- ---- the loop over the routines: with those below k judged, one turn

-- checks 6 to 8 of routine k, and none where it is not linked and not routine 1
linked_or_first : (zero first : Bool) → (not zero || first) ≡ not (zero && not first)
linked_or_first true true = refl
linked_or_first true false = refl
linked_or_first false first = refl

pub checks_by : (s : List ℕ) (k : ℕ) {none : Bool} → none ≡ (eqb (entry s k) 0 && not (eqb k 1))
    → routine_checks s k ≡ cond (not none) (check 6 k (entry_ok s k) ∷ check 7 k (data_ok s k) ∷ check 8 k (exit_ok s k) ∷ []) []
unfolding routine_checks linked
checks_by s k e = rw (linked_or_first (eqb (entry s k) 0) (eqb k 1), ← e)

-- checks of a routine whose entry is too low, `zero` or not, and `first` if it is routine 1
low_passes : (k : ℕ) (cs : List Check) (zero first : Bool) → passes (cond (not zero || first) (check 6 k false ∷ cs) []) ≡ (zero && not first)
unfolding passes
low_passes k cs true true = refl
low_passes k cs true false = refl
low_passes k cs false first = refl

module _ (s : List ℕ) where
  routines_more : (n k : ℕ) → k ≤ n → ruling (routines_from s (n + 1 - k) k) ≡ followed_by (ruling (routine_checks s k)) (ruling (routines_from s (n + 1 - (k + 1)) (k + 1)))
  unfolding routines_from
  routines_more n k l = let e : n + 1 - k ≡ suc (n + 1 - (k + 1)) = omega arith in rw e (ruling_append (routine_checks s k) (routines_from s (n + 1 - (k + 1)) (k + 1)))

  pub judge_stop : (n k : ℕ) → k ≤ n → passes (routine_checks s k) ≡ false → ruling (routines_from s (n + 1 - k) k) ≡ ruling (routine_checks s k)
  judge_stop n k l h = routines_more n k l ∙ stops (routine_checks s k) _ h

  pub judge_step : (n k : ℕ) → k ≤ n → passes (routine_checks s k) ≡ true → ruling (routines_from s (n + 1 - k) k) ≡ ruling (routines_from s (n + 1 - (k + 1)) (k + 1))
  judge_step n k l h = routines_more n k l ∙ followed_by_lem _ _ (pass_all (routine_checks s k) h)

  -- the test of routine k, made of numbers in hand: the sex, W, D and the entry. An entry below 12 passes only if it is 0, of another routine than 1
  module _ {b : Bool} {w d : ℕ} (k : ℕ) {e : ℕ} (hb : b ≡ least s) (hw : w ≡ words s) (hd : d ≡ dict s) (he : e ≡ word_by b s (d + k)) where
    pub passes_by : 12 ≤ e → passes (routine_checks s k) ≡ (ltb (e + 1) w && (ltb (word_by b s e) 32768 && inside 22 (2 * w) (word_by b s (e - 1))))
    unfolding passes routine_checks linked entry datasize exitic word
    passes_by l =
        let some : eqb e 0 ≡ false = ne_eqb e 0 (λ z. omega (arith, l, z)) in
        let high : leb 12 e ≡ true = le-leb 12 e l in
        rw (← hb, ← hw, ← hd, ← he, some, high) (simp and-true)

    pub passes_low : e < 12 → passes (routine_checks s k) ≡ (eqb e 0 && not (eqb k 1))
    unfolding passes routine_checks linked entry datasize exitic word
    passes_low l = let low : leb 12 e ≡ false = lt-leb 12 e l in rw (← hb, ← hw, ← hd, ← he, low) (low_passes k _ (eqb e 0) (eqb k 1))

  pub judge_done : (n k : ℕ) → n < k → ruling (routines_from s (n + 1 - k) k) ≡ passed
  unfolding ruling routines_from
  judge_done n k l = let e : n + 1 - k ≡ 0 = omega arith in rw e

-- ---- what checks 6 to 8 tell

pub record GoodRoutine (s : List ℕ) (k : ℕ) : Type 0 where
  pub low : 12 ≤ entry s k
  pub high : entry s k + 1 < words s
  pub size : datasize s k < 32768
  pub exit_low : 22 ≤ exitic s k
  pub exit_high : exitic s k < 2 * words s

routine_facts : (s : List ℕ) (k : ℕ) → ruling (routine_checks s k) ≡ passed → (linked s k || eqb k 1) ≡ true → GoodRoutine s k
unfolding routine_checks
routine_facts s k h some =
    let c = passing (check 6 k (entry_ok s k) ∷ check 7 k (data_ok s k) ∷ check 8 k (exit_ok s k) ∷ []) (rw some at h) in
    let p = both_true _ _ c.0 in
    let i = inside_true _ _ _ c.1.1.0 in
    record { low = leb-true _ _ p.0; high = ltb-true _ _ p.1; size = ltb-true _ _ c.1.0; exit_low = i.0; exit_high = i.1 }

routine_at : (s : List ℕ) (n j : ℕ) → ruling (routines_from s n j) ≡ passed → (k : ℕ) → j ≤ k → k < j + n → ruling (routine_checks s k) ≡ passed
unfolding routines_from
routine_at s zero j h k l r = let f : ⊥ = omega arith in absurd f
routine_at s (suc n) j h k l r =
    let a = followed _ _ (sym (ruling_append (routine_checks s j) (routines_from s n (j + 1))) ∙ h) in
    ⊎_elim (λ (e : j ≡ k). rw e at a.0) (λ (m : j < k). routine_at s n (j + 1) a.1 k (omega arith) (omega arith)) (eq-or-lt_of_le l)

-- routine 1 at zero
first_fails : (s : List ℕ) (n : ℕ) → entry s 1 ≡ 0 → ruling (routines_from s (suc n) 1) ≡ refused 6 1
unfolding routines_from routine_checks ruling
first_fails s n e = simp (or-true, e)

pub unlinked_first : (s : List ℕ) → entry s 1 ≡ 0 → ruling (head_checks s) ≡ passed → judged s ≡ refused 6 1
unfolding judged checks
unlinked_first s e h =
    let c : count s ≡ suc (count s - 1) = omega (arith, (head_good s h).some) in
    ruling_append (head_checks s) (routines_from s (count s) 1) ∙ followed_by_lem _ _ h ∙ rw c (first_fails s (count s - 1) e)

-- ---- an accepted segment

pub record Good (s : List ℕ) : Type 0 where
  pub header : Header s
  pub first : GoodRoutine s 1
  pub routines : (k : ℕ) → 1 ≤ k → k ≤ count s → linked s k ≡ true → GoodRoutine s k

-- checks 1 to 5, and those of the routines
pub judged_is : (s : List ℕ) → judged s ≡ followed_by (ruling (head_checks s)) (ruling (routines_from s (count s) 1))
unfolding judged checks
judged_is s = ruling_append (head_checks s) (routines_from s (count s) 1)

judged_parts : (s : List ℕ) → judged s ≡ passed → (ruling (head_checks s) ≡ passed) × (ruling (routines_from s (count s) 1) ≡ passed)
judged_parts s h = followed _ _ (sym (judged_is s) ∙ h)

-- the checks of a routine, those of routine 1 and those of one that is linked
module _ (s : List ℕ) (h : judged s ≡ passed) where
  passed_at : (k : ℕ) → 1 ≤ k → k ≤ count s → ruling (routine_checks s k) ≡ passed
  passed_at k l m = routine_at s (count s) 1 (judged_parts s h).1 k l (omega arith)

  pub all_good : Good s
  all_good =
      let a = head_good s (judged_parts s h).0 in
      record {
        header = a;
        first = routine_facts s 1 (passed_at 1 (omega arith) a.some) (simp or-true);
        routines = λ k l m some. routine_facts s k (passed_at k l m) (rw some);
      }
