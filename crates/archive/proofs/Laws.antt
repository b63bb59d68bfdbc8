-- What a verdict on the archive says: 11, 23, or that the bench is sound and its archive accepted. A sound bench has its S words in its memory.
-- Above: the proofs of the entries, promises. Below: specs/Archive, entry's laws of a list of checks, sound's facts.
use mathlib.Core.Path.{◌≡◌, refl, sym, ap, ◌∙◌}
use mathlib.Core.List.{List}
use mathlib.Core.Bool.{Bool, true, false}
use Prim.Native.Nat.{ℕ}
use native.Mathlib.Omega.{arith}
use lib.ListN.{length}
use lib.Seq.{length-take-le}
use borrow.Author.Tests.{eqb-true}
use Rattle.basis.specs.Checks.{passed, refused, ruling}
use Rattle.basis.proofs.Checks.{passing}
use Rattle.sound.specs.declared.Window.{Window}
use Rattle.sound.specs.Bench.{World, shared_of}
use Rattle.sound.proofs.Facts.{taken_apart, limits}
use Rattle.entry.specs.Answer.{Result, refused_at}
use Rattle.entry.specs.Entries.{is_sound, window_open_of}
use Rattle.entry.proofs.Refusing.{none_left, fails, holds, refuses, accepts}
use Rattle.archive_records.specs.Records.{accepted}
use Rattle.archive.specs.Archive.{Found, At, Refused, archive_checks, farm_range, found_by, range_answer, farm_open_of}

module _ (store : List ℕ) (w : World) where
  pub shared_long : is_sound store w ≡ true → length (shared_of w) ≡ w.bench.s
  shared_long h =
      let parts = taken_apart w.bench w.mem store h in
      let within = (limits w.bench.n w.bench.s parts.limits).within in
      let long = eqb-true (length w.mem) w.bench.n parts.sized in
      length-take-le w.bench.s w.mem (omega (arith, within, long))

  -- ---- the verdict

  pub unsound : is_sound store w ≡ false → refused 11 0 ≡ ruling (archive_checks store w)
  unsound h = sym (fails _ _ _ _ h)

  pub no_archive : {b : Bool} → is_sound store w ≡ true → b ≡ accepted (shared_of w) → b ≡ false → refused 23 0 ≡ ruling (archive_checks store w)
  no_archive s e h = sym (holds _ _ _ _ _ s (fails _ _ _ _ (sym e ∙ h)))

  pub an_archive : {b : Bool} → is_sound store w ≡ true → b ≡ accepted (shared_of w) → b ≡ true → passed ≡ ruling (archive_checks store w)
  an_archive s e h = sym (holds _ _ _ _ _ s (holds _ _ _ _ _ (sym e ∙ h) none_left))

  pub both_hold : ruling (archive_checks store w) ≡ passed → (is_sound store w ≡ true) × (accepted (shared_of w) ≡ true)
  both_hold h = let p = passing (archive_checks store w) h in (p.0, p.1.0)

  -- ---- what follows from it

  module _ (farm : ℕ) where
    pub refuses_range : (n p : ℕ) → refused n p ≡ ruling (archive_checks store w) → Refused n p ≡ range_answer store farm w
    unfolding range_answer
    refuses_range n p e = ap (λ r. found_by r (farm_range farm w)) e

    pub finds_range : passed ≡ ruling (archive_checks store w) → At (farm_range farm w) ≡ range_answer store farm w
    unfolding range_answer
    finds_range e = ap (λ r. found_by r (farm_range farm w)) e

    ruled_range : (f : Found) → f ≡ range_answer store farm w → (P : Found → Type 0)
        → ((n p : ℕ) → ruling (archive_checks store w) ≡ refused n p → P (Refused n p))
        → (ruling (archive_checks store w) ≡ passed → P (At (farm_range farm w)))
        → P f
    unfolding range_answer
    ruled_range f e P r g = rw e (go (ruling (archive_checks store w)) refl)
      where
        go : (q : _) → ruling (archive_checks store w) ≡ q → P (found_by q (farm_range farm w))
        go passed h = g h
        go (refused n p) h = r n p h

    module _ (slot len : ℕ) (f : Found) (e : f ≡ range_answer store farm w) where
      pub opens_there : (v : Window) {y : Result} → f ≡ At v → y ≡ window_open_of store slot len v w → y ≡ farm_open_of store slot len farm w
      unfolding farm_open_of
      opens_there v {y} =
          ruled_range f e (λ x. x ≡ At v → y ≡ window_open_of store slot len v w → y ≡ farm_open_of store slot len farm w)
          (λ n p h q. let z : ◌≡◌ {A = ℕ} 0 1 = cc in absurd (omega arith))
          (λ h q u. let z : v ≡ farm_range farm w = cc in accepts _ _ _ h (rw z at u))

      pub refuses_there : (n p : ℕ) {y : Result} → f ≡ Refused n p → y ≡ refused_at n p w → y ≡ farm_open_of store slot len farm w
      unfolding farm_open_of
      refuses_there n p {y} =
          ruled_range f e (λ x. x ≡ Refused n p → y ≡ refused_at n p w → y ≡ farm_open_of store slot len farm w)
          (λ m q h t u.
          let zn : m ≡ n = cc in
          let zp : q ≡ p = cc in
          refuses _ _ _ m q h (rw (← zn, ← zp) at u))
          (λ h q. let z : ◌≡◌ {A = ℕ} 0 1 = cc in absurd (omega arith))
