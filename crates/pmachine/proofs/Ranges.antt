-- The ranges of soundness, as a test and as numbers, one from the other.
-- Above: Keeps, and the laws of session and bench; below: Sound.
use Prim.Native.Nat.{ℕ, ◌≤◌}
use mathlib.Core.Path.{◌≡◌, refl}
use mathlib.Core.List.{List}
use mathlib.Core.Bool.{true}
use lib.ListN.{length}
use borrow.Author.Tests.{leb-true, le-leb}
use Rattle.basis.specs.Bools.{every}
use Rattle.basis.proofs.Bools.{every_holds, holds_every}
use Rattle.pmachine.specs.State.{Registers, Kind, ready, finished, faulted}
use Rattle.pmachine.specs.Sound.{kind_in_range, in_range, Ranged}

-- the kind's, as numbers
abbrev pub KindRanged : List ℕ → Kind → Type 0
KindRanged s ready = Unit {0}
KindRanged s finished = Unit {0}
KindRanged s (faulted n place) = (1 ≤ n) × (n ≤ 10) × (22 ≤ place) × (place ≤ length s)

kind_numbers : (s : List ℕ) (k : Kind) → kind_in_range s k ≡ true → KindRanged s k
unfolding kind_in_range
kind_numbers s ready h = tt
kind_numbers s finished h = tt
kind_numbers s (faulted n place) h =
    let a = every_holds _ h in
    (leb-true _ _ a.0, leb-true _ _ a.1.0, leb-true _ _ a.1.1.0, leb-true _ _ a.1.1.1.0)

kind_test : (s : List ℕ) (k : Kind) → KindRanged s k → kind_in_range s k ≡ true
unfolding kind_in_range
kind_test s ready h = refl
kind_test s finished h = refl
kind_test s (faulted n place) h =
    holds_every _ (le-leb _ _ h.0, (le-leb _ _ h.1, (le-leb _ _ h.2, (le-leb _ _ h.3, tt))))

module _ (s : List ℕ) (l : ℕ) (r : Registers) (k : Kind) where
  pub ranged : in_range s l r k ≡ true → Ranged s l r
  unfolding in_range
  ranged h =
      let a = every_holds _ h in
      let b = a.1.1.1.1 in
      record {
        low = leb-true _ _ a.0;
        sp_low = leb-true _ _ a.1.0;
        sp_high = leb-true _ _ a.1.1.0;
        m_low = leb-true _ _ a.1.1.1.0;
        m_high = leb-true _ _ b.0;
        counter_low = leb-true _ _ b.1.0;
        counter_high = leb-true _ _ b.1.1.0;
        routine_low = leb-true _ _ b.1.1.1.0;
        routine_high = leb-true _ _ b.1.1.1.1.0;
        lowest_low = leb-true _ _ b.1.1.1.1.1.0;
        lowest_high = leb-true _ _ b.1.1.1.1.1.1.0;
      }

  pub kind_ranged : in_range s l r k ≡ true → KindRanged s k
  unfolding in_range
  kind_ranged h = let a = every_holds _ h in kind_numbers s k a.1.1.1.1.1.1.1.1.1.1.1.0

  pub in_range_lem : Ranged s l r → KindRanged s k → in_range s l r k ≡ true
  unfolding in_range every
  in_range_lem f g =
      rw (
        le-leb _ _ f.low,
        le-leb _ _ f.sp_low,
        le-leb _ _ f.sp_high,
        le-leb _ _ f.m_low,
        le-leb _ _ f.m_high,
        le-leb _ _ f.counter_low,
        le-leb _ _ f.counter_high,
        le-leb _ _ f.routine_low,
        le-leb _ _ f.routine_high,
        le-leb _ _ f.lowest_low,
        le-leb _ _ f.lowest_high,
        kind_test s k g,
      )
