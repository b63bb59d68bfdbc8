-- "farm numbers never fall from one record to the next", record by record; and the first record that falls.
-- Above: the proofs of falls_at and is_accepted, Ranges, demands. Below: specs/Records.
use mathlib.Core.Path.{◌≡◌, refl, sym, ◌∙◌}
use mathlib.Core.Logic.{◌↔◌}
use mathlib.Core.List.{List}
use mathlib.Core.Bool.{true, false, false≢true}
use Prim.Native.Nat.{ℕ, zero, suc, ◌+◌, ◌-◌, ◌%◌, ◌≤◌, ◌<◌}
use native.Mathlib.Omega.{arith}
use native.Mathlib.Decide.{dec_lt}
use lib.Dec.{leb, eqb}
use lib.ListN.{length}
use borrow.Author.Tests.{leb-true, leb-false, le-leb, lt-leb, eqb-true, eq-eqb}
use Rattle.basis.proofs.Bools.{and_fst, and_snd, and_both, both_true}
use Rattle.sound.proofs.Lists.{either_way, decided}
use Rattle.archive_records.specs.Records.{records_in, farm_at, never_falls, accepted, first_fall}

module _ (a : List ℕ) where
  -- one record after another, and any two
  pub never_at : (k r : ℕ) → never_falls a k ≡ true → r < k → farm_at a r ≤ farm_at a (suc r)
  unfolding never_falls
  never_at zero r h o = absurd (omega arith)
  never_at (suc k) r h o =
      decided (dec_lt r k)
      (λ q. never_at k r (and_fst (never_falls a k) (leb (farm_at a k) (farm_at a (suc k))) h) q)
      (λ q. let e : r ≡ k = omega arith in rw e (leb-true _ _ (and_snd (never_falls a k) (leb (farm_at a k) (farm_at a (suc k))) h)))

  pub never_from : (k : ℕ) → ((r : ℕ) → r < k → farm_at a r ≤ farm_at a (suc r)) → never_falls a k ≡ true
  unfolding never_falls
  never_from zero f = refl
  never_from (suc k) f = and_both (never_falls a k) _ (never_from k (λ r o. f r (omega arith))) (le-leb _ _ (f k (omega arith)))

  pub fewer : (k : ℕ) → never_falls a k ≡ true → never_falls a (k - 1) ≡ true
  fewer k h = never_from (k - 1) (λ r o. never_at k r h (omega arith))

  pub rising : (k p q : ℕ) → never_falls a k ≡ true → p ≤ q → q ≤ k → farm_at a p ≤ farm_at a q
  rising k p zero h o l = let e : p ≡ 0 = omega arith in rw e (omega arith)
  rising k p (suc q) h o l =
      decided (dec_lt q p)
      (λ t. let e : p ≡ suc q = omega arith in rw e (omega arith))
      (λ t. let x = rising k p q h (omega arith) (omega arith) in let y = never_at k q h (omega arith) in omega (arith, x, y))

  -- the first that falls: none, or this one
  fall_none : (k : ℕ) → never_falls a k ≡ true → first_fall a k ≡ k + 1
  unfolding never_falls first_fall
  fall_none zero h = refl
  fall_none (suc k) h =
      let t = both_true (never_falls a k) (leb (farm_at a k) (farm_at a (suc k))) h in
      rw (t.0, t.1) (omega arith)

  fall_kept : (k r : ℕ) → r ≤ k → never_falls a r ≡ false → (never_falls a k ≡ false) × (first_fall a k ≡ first_fall a r)
  unfolding never_falls first_fall
  fall_kept zero r o h = let e : r ≡ 0 = omega arith in absurd (false≢true (sym h ∙ rw e))
  fall_kept (suc k) r o h =
      decided (dec_lt k r)
      (λ t. let e : r ≡ suc k = omega arith in rw e (rw e at h, refl))
      (λ t. let i = fall_kept k r (omega arith) h in (rw i.0, rw i.0 i.1))

  fall_some : (k : ℕ) → never_falls a k ≡ false → first_fall a k ≤ k
  unfolding never_falls first_fall
  fall_some zero h = absurd (false≢true (sym h))
  fall_some (suc k) h =
      either_way (never_falls a k)
      (λ t. let z = rw t at h in rw (t, z) (omega arith))
      (λ t. let z = fall_some k t in rw t (omega (arith, z)))

  step : (q : ℕ) → never_falls a q ≡ true → farm_at a q ≤ farm_at a (suc q) → never_falls a (suc q) ≡ true
  unfolding never_falls
  step q h f = and_both (never_falls a q) (leb (farm_at a q) (farm_at a (suc q))) h (le-leb _ _ f)

  fell : (q : ℕ) → never_falls a q ≡ true → farm_at a (suc q) < farm_at a q → (never_falls a (suc q) ≡ false) × (first_fall a (suc q) ≡ q + 1)
  unfolding never_falls first_fall
  fell q h f = let low = lt-leb (farm_at a q) (farm_at a (suc q)) f in (rw (h, low), rw (h, low))

  -- a loop that has come to record r, of records 1 to k
  module _ (k r : ℕ) (o : 1 ≤ r) (h : never_falls a (r - 1) ≡ true) where
    at : suc (r - 1) ≡ r
    at = omega arith

    pub goes : farm_at a (r - 1) ≤ farm_at a r → never_falls a (r + 1 - 1) ≡ true
    goes f =
        let e : r + 1 - 1 ≡ suc (r - 1) = omega arith in
        let f' : farm_at a (r - 1) ≤ farm_at a (suc (r - 1)) = rw at f in
        rw e (step (r - 1) h f')

    pub falls : r ≤ k → farm_at a r < farm_at a (r - 1) → r ≡ first_fall a k
    falls l f =
        let f' : farm_at a (suc (r - 1)) < farm_at a (r - 1) = rw at f in
        let t = fell (r - 1) h f' in
        let kept = (fall_kept k (suc (r - 1)) (omega arith) t.0).1 in
        omega (arith, kept, t.1)

    pub ends : r - 1 ≡ k → r ≡ first_fall a k
    ends e = let z = fall_none (r - 1) h in let q : first_fall a (r - 1) ≡ r = omega (arith, z) in rw (← e) (sym q)

  -- no record falls exactly if the first that does is past the last
  pub never_is : (n : ℕ) → leb n (first_fall a (n - 1)) ≡ never_falls a (n - 1)
  never_is n =
      either_way (never_falls a (n - 1))
      (λ h. let z = fall_none (n - 1) h in let o : n ≤ first_fall a (n - 1) = omega (arith, z) in rw h (le-leb n (first_fall a (n - 1)) o))
      (λ h. rw h (lt-leb n (first_fall a (n - 1)) (short (fall_some (n - 1) h) h)))
    where
      short : first_fall a (n - 1) ≤ n - 1 → never_falls a (n - 1) ≡ false → first_fall a (n - 1) < n
      short z h =
          decided (dec_lt 0 n)
          (λ o. omega (arith, z))
          (λ o. let e : n - 1 ≡ 0 = omega arith in absurd (false≢true (sym h ∙ never_from (n - 1) (λ r q. absurd (omega (arith, q, e))))))

  -- if some record falls, this is one, and none before it does
  pub record First (k r : ℕ) : Type 0 where
    pub some : 1 ≤ r
    pub most : r ≤ k
    pub falls_there : farm_at a r < farm_at a (r - 1)
    pub before : never_falls a (r - 1) ≡ true

  pub first_fall_lem : (k : ℕ) → never_falls a k ≡ false → First k (first_fall a k)
  unfolding never_falls first_fall
  first_fall_lem zero h = absurd (false≢true (sym h))
  first_fall_lem (suc k) h =
      either_way (never_falls a k)
      (λ t.
      let z : leb (farm_at a k) (farm_at a (suc k)) ≡ false = rw t at h in
      let up : k + 1 ≡ suc k = omega arith in
      let down : suc k - 1 ≡ k = omega arith in
      rw (t, z, up) (record { some = omega arith; most = omega arith; falls_there = rw down (leb-false _ _ z); before = rw down t }))
      (λ t. let f = first_fall_lem k t in rw t (record { some = f.some; most = omega (arith, f.most); falls_there = f.falls_there; before = f.before }))

  -- "accepted exactly if S is a multiple of 4 and farm numbers never fall from one record to the next"
  pub accepted_is : (accepted a ≡ true) ↔ ((length a % 4 ≡ 0) × ((r : ℕ) → r + 1 < records_in a → farm_at a r ≤ farm_at a (r + 1)))
  accepted_is = (there, back)
    where
      there : accepted a ≡ true → (length a % 4 ≡ 0) × ((r : ℕ) → r + 1 < records_in a → farm_at a r ≤ farm_at a (r + 1))
      there h =
          let t = both_true (eqb (length a % 4) 0) (never_falls a (records_in a - 1)) h in
          (eqb-true _ _ t.0, λ r o. let e : r + 1 ≡ suc r = omega arith in rw e (never_at (records_in a - 1) r t.1 (omega arith)))

      back : (length a % 4 ≡ 0) × ((r : ℕ) → r + 1 < records_in a → farm_at a r ≤ farm_at a (r + 1)) → accepted a ≡ true
      back h =
          and_both (eqb (length a % 4) 0) (never_falls a (records_in a - 1)) (eq-eqb _ _ h.0)
          (never_from (records_in a - 1) (λ r o. let e : r + 1 ≡ suc r = omega arith in rw e at (h.1 r (omega arith))))
