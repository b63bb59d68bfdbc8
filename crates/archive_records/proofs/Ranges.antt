-- A farm's records: all of them and only they lie in its range, which lies in the archive; and the laws of the loop that finds it.
-- Above: the proof of range_in, archive, demands. Below: specs/Records, Order.
use mathlib.Core.Path.{◌≡◌, refl, sym, ◌∙◌}
use mathlib.Core.Logic.{◌↔◌}
use mathlib.Core.List.{List, [], ◌++◌}
use mathlib.Core.Bool.{true}
use Prim.Native.Nat.{ℕ, zero, suc, ◌+◌, ◌-◌, ◌*◌, ◌%◌, ◌≤◌, ◌<◌}
use native.Mathlib.Omega.{arith}
use native.Mathlib.Decide.{dec_lt}
use lib.Dec.{eqb}
use lib.ListN.{length, take, drop}
use lib.Seq.{drop-drop, take-add}
use borrow.Author.Tests.{eqb-true, eqb-false, eq-eqb, ne_eqb}
use Rattle.basis.specs.Part.{part}
use Rattle.basis.proofs.Bools.{and_snd}
use Rattle.sound.proofs.Lists.{either_way, decided}
use Rattle.archive_records.specs.Records.{records_in, farm_at, never_falls, accepted, how_many, first_of, range_of, records_of, own_records}
use Rattle.archive_records.proofs.Order.{fewer, rising}

module _ (a : List ℕ) (farm : ℕ) where
  abbrev many : ℕ → ℕ
  many n = how_many a farm n

  abbrev first : ℕ → ℕ
  first n = first_of a farm n

  -- ---- one record more: another farm's, the farm's first, one that is not its first

  module _ (n : ℕ) where
    pub other_many : (farm_at a n ≡ farm → ⊥) → many (suc n) ≡ many n
    unfolding how_many
    other_many h = rw (ne_eqb _ _ h)

    pub other_first : (farm_at a n ≡ farm → ⊥) → first (suc n) ≡ first n
    unfolding first_of
    other_first h = rw (ne_eqb _ _ h)

    pub own_many : farm_at a n ≡ farm → many (suc n) ≡ many n + 1
    unfolding how_many
    own_many h = rw (eq-eqb _ _ h)

    pub own_first : farm_at a n ≡ farm → many n ≡ 0 → first (suc n) ≡ n
    unfolding first_of
    own_first h z = rw (eq-eqb _ _ h, eq-eqb _ _ z)

    pub later_first : farm_at a n ≡ farm → (many n ≡ 0 → ⊥) → first (suc n) ≡ first n
    unfolding first_of
    later_first h z = rw (eq-eqb _ _ h, ne_eqb _ _ z)

  -- one of the three, for every record
  by_record : {P : Type 0} (n : ℕ) → ((farm_at a n ≡ farm → ⊥) → P) → (farm_at a n ≡ farm → many n ≡ 0 → P) → (farm_at a n ≡ farm → (many n ≡ 0 → ⊥) → P) → P
  by_record n p q r =
      either_way (eqb (farm_at a n) farm)
      (λ h. either_way (eqb (many n) 0) (λ z. q (eqb-true _ _ h) (eqb-true _ _ z)) (λ z. r (eqb-true _ _ h) (eqb-false _ _ z)))
      (λ h. p (eqb-false _ _ h))

  -- the range ends by the last record, in any order; and it begins at 0 if it is empty
  pub within : (n : ℕ) → first n + many n ≤ n
  unfolding how_many first_of
  within zero = omega arith
  within (suc n) =
      let i = within n in
      by_record n
      (λ h. rw (other_many n h, other_first n h) (omega (arith, i)))
      (λ h z. rw (own_many n h, own_first n h z, z) (omega arith))
      (λ h z. rw (own_many n h, later_first n h z) (omega (arith, i)))

  pub none_first : (n : ℕ) → many n ≡ 0 → first n ≡ 0
  unfolding how_many first_of
  none_first zero e = refl
  none_first (suc n) e =
      by_record n
      (λ h. rw (other_first n h) (none_first n (sym (other_many n h) ∙ e)))
      (λ h z. absurd (omega (arith, own_many n h, e)))
      (λ h z. absurd (omega (arith, own_many n h, e)))

  pub none_many : (n : ℕ) → ((r : ℕ) → r < n → farm_at a r ≡ farm → ⊥) → many n ≡ 0
  unfolding how_many
  none_many zero f = refl
  none_many (suc n) f = other_many n (f n (omega arith)) ∙ none_many n (λ r o. f r (omega arith))

  -- ---- all and only

  pub record Found (n : ℕ) : Type 0 where
    pub each : (r : ℕ) → r < n → farm_at a r ≡ farm → (first n ≤ r) × (r < first n + many n)
    pub only : (r : ℕ) → first n ≤ r → r < first n + many n → farm_at a r ≡ farm

  -- a record of another farm leaves the range
  with_other : (n : ℕ) → (farm_at a n ≡ farm → ⊥) → Found n → Found (suc n)
  with_other n h f =
      record {
        each = λ r o e. rw (other_many n h, other_first n h)
            (decided (dec_lt r n) (λ q. f.each r q e) (λ q. let z : r ≡ n = omega arith in absurd (h (rw z at e))));
        only = λ r l u. f.only r (rw (other_first n h) at l) (rw (other_many n h, other_first n h) at u);
      }

  -- the farm's first record begins it
  with_first : (n : ℕ) → farm_at a n ≡ farm → many n ≡ 0 → Found n → Found (suc n)
  with_first n h z f =
      let m = own_many n h in
      let b = own_first n h z in
      record {
        each = λ r o e. rw (m, b, z)
            (decided (dec_lt r n)
            (λ q. let t = f.each r q e in absurd (omega (arith, t.0, t.1, z)))
            (λ q. (omega arith, omega arith)));
        only = λ r l u. let q : r ≡ n = omega (arith, rw b at l, rw (m, b, z) at u) in rw q h;
      }

  -- a later one stands right behind it: what stands between has a farm number no less than the farm's first record, and no greater than this one
  touches : (n : ℕ) → never_falls a n ≡ true → farm_at a n ≡ farm → (many n ≡ 0 → ⊥) → Found n → first n + many n ≡ n
  touches n g h z f =
      decided (dec_lt (first n + many n) n)
      (λ q.
      let start = f.only (first n) (omega arith) (omega (arith, z)) in
      let low = rising a n (first n) (n - 1) g (omega (arith, q)) (omega arith) in
      let high = rising a n (n - 1) n g (omega arith) (omega arith) in
      let same : farm_at a (n - 1) ≡ farm = omega (arith, start, low, high, h) in
      absurd (omega (arith, q, (f.each (n - 1) (omega (arith, q)) same).1)))
      (λ q. omega (arith, within n, q))

  with_later : (n : ℕ) → never_falls a n ≡ true → farm_at a n ≡ farm → (many n ≡ 0 → ⊥) → Found n → Found (suc n)
  with_later n g h z f =
      let m = own_many n h in
      let b = later_first n h z in
      let t = touches n g h z f in
      record {
        each = λ r o e. rw (m, b)
            (decided (dec_lt r n)
            (λ q. let s = f.each r q e in (s.0, omega (arith, s.1)))
            (λ q. (omega (arith, t, o, q), omega (arith, t, o, q))));
        only = λ r l u.
            decided (dec_lt r n)
            (λ q. f.only r (rw b at l) (omega (arith, t, q)))
            (λ q. let s : r ≡ n = omega (arith, t, rw (m, b) at u, q) in rw s h);
      }

  pub found : (n : ℕ) → never_falls a (n - 1) ≡ true → Found n
  unfolding how_many first_of
  found zero g = record { each = λ r o e. absurd (omega arith); only = λ r l u. absurd (omega arith) }
  found (suc n) g =
      let e : suc n - 1 ≡ n = omega arith in
      let k : never_falls a n ≡ true = rw e at g in
      let f = found n (fewer a n k) in
      by_record n (λ h. with_other n h f) (λ h z. with_first n h z f) (λ h z. with_later n k h z f)

  -- in an accepted archive a record has the farm's number exactly if it lies in the range
  pub all_and_only : accepted a ≡ true → (r : ℕ) → r < records_in a
      → (farm_at a r ≡ farm) ↔ (((range_of a farm).first ≤ 4 * r) × (4 * r < (range_of a farm).first + (range_of a farm).len))
  all_and_only h r o = (
    λ e. let t = f.each r o e in (omega (arith, t.0), omega (arith, t.1)),
    λ t. f.only r (omega (arith, t.0)) (omega (arith, t.1)),
  )
    where
      f : Found (records_in a)
      f = found (records_in a) (and_snd (eqb (length a % 4) 0) (never_falls a (records_in a - 1)) h)

  -- ---- its words: the farm's records, one after another

  -- four words more behind a part
  longer : (f m n : ℕ) → f + m ≡ n → part (4 * f) (4 * f + 4 * m) a ++ take 4 (drop (4 * n) a) ≡ part (4 * f) (4 * f + 4 * (m + 1)) a
  unfolding part
  longer f m n e =
      let less : 4 * f + 4 * m - 4 * f ≡ 4 * m = omega arith in
      let more : 4 * f + 4 * (m + 1) - 4 * f ≡ 4 * m + 4 = omega arith in
      let at : 4 * n ≡ 4 * f + 4 * m = omega (arith, e) in
      rw (less, more, at, ← (drop-drop (4 * m) (4 * f) a)) (sym (take-add (4 * m) 4 (drop (4 * f) a)))

  nothing : (f : ℕ) → part (4 * f) (4 * f + 4 * 0) a ≡ []
  unfolding part
  nothing f = let none : 4 * f + 4 * 0 - 4 * f ≡ 0 = omega arith in rw none

  words_below : (n : ℕ) → never_falls a (n - 1) ≡ true → part (4 * first n) (4 * first n + 4 * many n) a ≡ own_records a farm n
  unfolding how_many first_of own_records
  words_below zero g = nothing 0
  words_below (suc n) g =
      let e : suc n - 1 ≡ n = omega arith in
      let k : never_falls a n ≡ true = rw e at g in
      let i = words_below n (fewer a n k) in
      by_record n
      (λ h. rw (ne_eqb _ _ h) i)
      (λ h z. let none : own_records a farm n ≡ [] = sym i ∙ rw z (nothing (first n)) in
      rw (eq-eqb _ _ h, eq-eqb _ _ z, none, z) (sym (rw (nothing n) at (longer n 0 n (omega arith)))))
      (λ h z. rw (eq-eqb _ _ h, ne_eqb _ _ z, ← i) (sym (longer (first n) (many n) n (touches n k h z (found n (fewer a n k))))))

  pub words_are : accepted a ≡ true → records_of a farm ≡ own_records a farm (records_in a)
  words_are h = words_below (records_in a) (and_snd (eqb (length a % 4) 0) (never_falls a (records_in a - 1)) h)

  -- the range lies in the archive, and is empty at word 0 if there is none
  pub inside : (range_of a farm).first + (range_of a farm).len ≤ length a
  inside = omega (arith, within (records_in a))

  pub empty_at_zero : ((r : ℕ) → r < records_in a → farm_at a r ≡ farm → ⊥) → range_of a farm ≡ record { first = 0; len = 0 }
  empty_at_zero f = let z = none_many (records_in a) f in rw (z, none_first (records_in a) z)
