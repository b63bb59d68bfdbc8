-- `archive_records::range_in` meets its contract: the loop has come to record r, and knows the farm's records before it.
use mathlib.Core.Path.{◌≡◌, refl, sym, ◌∙◌}
use mathlib.Core.List.{List}
use native.Mathlib.Omega.{arith}
use Prim.Native.Nat.{ℕ, suc, ◌+◌, ◌*◌, ◌≤◌}
use Rattle.archive_records.specs.Records.{records_in, farm_at, how_many, first_of, range_of}
use Rattle.archive_records.proofs.Ranges.{within, other_many, other_first, own_many, own_first, later_first}
use Rattle.archive_records.proofs.range_in.Goals as goal
use Rattle.archive_records.proofs.range_in.Goals.{then-farm_at-farm, else-farm_at-farm, then-count-eq0, else-count-eq0}

abbrev Known : List ℕ → ℕ → ℕ → ℕ → ℕ → Type 0
Known a farm r first count = (first ≡ first_of a farm (r + 1)) × (count ≡ how_many a farm (r + 1))

bounded : (a : List ℕ) (farm n first count : ℕ) → (first ≡ first_of a farm n) × (count ≡ how_many a farm n) → (first ≤ n) × (count ≤ n)
bounded a farm n first count k = let w = within a farm n in (omega (arith, w, k.0), omega (arith, w, k.1))

ended : (a : List ℕ) (farm n first count : ℕ) → n ≡ records_in a → (first ≡ first_of a farm n) × (count ≡ how_many a farm n)
    → record { first = 4 * first; len = 4 * count } ≡ range_of a farm
ended a farm n first count e k = rw (k.0, k.1, e)

module _ (a : List ℕ) (farm r first count x : ℕ) (f : first ≡ first_of a farm r) (m : count ≡ how_many a farm r) (e : x ≡ farm_at a r) where
  next : r + 1 ≡ suc r
  next = omega arith

  passes : (x ≡ farm → ⊥) → Known a farm r first count
  passes h = let h' : farm_at a r ≡ farm → ⊥ = rw e at h in rw (next, other_first a farm r h', other_many a farm r h') (f, m)

  begins : x ≡ farm → count ≡ 0 → Known a farm r r (count + 1)
  begins h z =
      let h' = sym e ∙ h in
      rw (next, own_first a farm r h' (sym m ∙ z), own_many a farm r h') (refl, rw m)

  extends : x ≡ farm → (count ≡ 0 → ⊥) → Known a farm r first (count + 1)
  extends h z =
      let h' = sym e ∙ h in
      rw (next, later_first a farm r h' (rw m at z), own_many a farm r h') (f, rw m)

pub loop-r-init : goal.loop-r-init
unfolding how_many first_of
loop-r-init c = ((omega arith, (omega arith, omega arith)), (refl, refl))

pub loop-r-preserved : goal.loop-r-preserved
loop-r-preserved c =
    let inv = c.loop-r.invariant.1 in
    let e = c.farm_at.ensures in
    let k : Known c.args.words.now c.args.farm c.loop-r.r c.if-farm_at-farm.first c.if-farm_at-farm.count =
    elim c.if-farm_at-farm.branch [
      | then-farm_at-farm w ↦ rw (w.first-is, w.count-is) (elim w.if-count-eq0.branch [
        | then-count-eq0 u ↦ rw u.first-is (begins _ _ _ _ _ _ inv.0 inv.1 e w.if-farm_at-farm.true u.if-count-eq0.true)
        | else-count-eq0 u ↦ rw u.first-is (extends _ _ _ _ _ _ inv.0 inv.1 e w.if-farm_at-farm.true u.if-count-eq0.false)
      ])
      | else-farm_at-farm w ↦ rw (w.first-is, w.count-is) (passes _ _ _ _ _ _ inv.0 inv.1 e w.if-farm_at-farm.false)
    ]
    in
    ((omega (arith, c.loop-r-test.true), bounded _ _ _ _ _ k), k)

pub returns : goal.returns
returns c = let inv = c.loop-r.invariant in ended _ _ _ _ _ (omega (arith, inv.0.0, c.loop-r-test.false)) inv.1
