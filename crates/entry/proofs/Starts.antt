-- What the verdict of the guard says: the refusal of the whole list of checks; or that the bench is sound, and that what is named passes.
-- Above: the entries' proofs. Below: `begins` of specs/Entries, sound's facts of an open session.
use mathlib.Core.Path.{◌≡◌, refl, sym, ap, ◌∙◌}
use mathlib.Core.List.{List, [], ◌∷◌, ◌++◌}
use mathlib.Core.Bool.{Bool, true, false, ◌&&◌}
use Prim.Native.Nat.{ℕ, ◌≤◌}
use native.Mathlib.Omega.{arith}
use native.Mathlib.Decide.{dec_lt}
use lib.Dec.{leb}
use lib.ListN.{length, get_or, get_or-eq_default}
use borrow.Author.Tests.{le-leb, lt-leb, leb-true, eqb-true}
use Rattle.basis.specs.Checks.{Check, check, passed, refused, ruling}
use Rattle.basis.proofs.Bools.{both_true}
use Rattle.basis.proofs.Checks.{needed}
use Rattle.std.specs.Prelude.{⊤, Result, Ok, Err}
use Rattle.segment.specs.declared.refusal.Refusal.{Refusal}
use Rattle.segment.specs.Refusals.{number_of, place_of}
use Rattle.segment.specs.Judge.{ruling_of}
use Rattle.sound.specs.declared.Session.{Session}
use Rattle.sound.specs.declared.Slot.{Slot}
use Rattle.sound.specs.Bench.{no_slot, no_session, slot_at, World, session_at}
use Rattle.sound.specs.Sound.{all, placed}
use Rattle.sound.proofs.Lists.{decided}
use Rattle.sound.proofs.Facts.{Opened, opened, Limits, limits, taken_apart}
use Rattle.entry.specs.Entries.{is_sound, loaded_at, open_at, begins}
use Rattle.entry.proofs.Refusing.{refused_first}

-- sound, and what is named passes
pub record Begun (store : List ℕ) (w : World) (asked : Bool) : Type 0 where
  pub passes : ruling (begins store w asked) ≡ passed
  pub sound : is_sound store w ≡ true
  pub named : asked ≡ true
  pub limits : Limits w.bench.n w.bench.s
  pub long : length w.mem ≡ w.bench.n
  pub places : all (placed w.bench.n w.bench.s) w.bench.sessions ≡ true

-- the same of a session that is open, and was read
pub record Going (store : List ℕ) (w : World) (i : ℕ) (se : Session) : Type 0 where
  pub passes : ruling (begins store w (open_at w i)) ≡ passed
  pub low : i ≤ 15
  pub few : w.bench.s ≤ 32768
  pub session : Opened store w se

-- the verdict of the guard: the refusal of every list of checks that begins so, or what holds from then on
pub record Guarded (store : List ℕ) (w : World) (asked : Bool) (v : Result ⊤ Refusal) (P : Type 0) : Type 0 where
  pub refuses : (ds : List Check) (r : Refusal) → v ≡ Err r → ruling (begins store w asked ++ ds) ≡ refused (number_of r) (place_of r)
  pub goes : {u : ⊤} → v ≡ Ok u → P

pub guarded : (store : List ℕ) (w : World) (named asked : Bool) (v : Result ⊤ Refusal) → ruling_of v ≡ ruling (begins store w named) → named ≡ asked → Guarded store w asked v (Begun store w asked)
unfolding ruling
guarded store w named asked v h e = record { refuses = λ ds r f. refused_first (begins store w asked) ds _ _ (sym rules ∙ ap ruling_of f); goes = goes }
  where
    rules : ruling_of v ≡ ruling (begins store w asked)
    rules = rw e at h

    goes : {u : ⊤} → v ≡ Ok u → Begun store w asked
    goes f =
        let p = sym rules ∙ ap ruling_of f in
        let a = needed (is_sound store w) 11 0 (ruling (check 12 0 asked ∷ [])) p in
        let parts = taken_apart w.bench w.mem store a.0 in
        record {
          passes = p;
          sound = a.0;
          named = (needed asked 12 0 passed a.1).0;
          limits = limits _ _ parts.limits;
          long = eqb-true _ _ parts.sized;
          places = parts.places;
        }

-- ---- what is named, by its own record among the sixteen

module _ {A : Type 0} (p : A → Bool) (l : List A) (i : ℕ) (d : A) (o : length l ≡ 16) (n : p d ≡ false) (x : A) (e : x ≡ get_or l i d) where
  in_sixteen : p x ≡ (leb i 15 && p (get_or l i d))
  in_sixteen = rw e
      (decided (dec_lt 15 i) (λ h. rw (lt-leb i 15 h) (ap p (get_or-eq_default l d {n = i} (omega arith)) ∙ n)) (λ h. rw (le-leb i 15 (omega arith))))

module _ (store : List ℕ) (w : World) (i : ℕ) (v : Result ⊤ Refusal) where
  pub slot_guarded : length w.bench.slots ≡ 16 → (sl : Slot) → sl ≡ slot_at w.bench.slots i → ruling_of v ≡ ruling (begins store w sl.loaded)
      → Guarded store w (loaded_at w i) v (Begun store w (loaded_at w i))
  slot_guarded o sl e h = guarded store w sl.loaded (loaded_at w i) v h (in_sixteen (λ (x : Slot). x.loaded) w.bench.slots i no_slot o refl sl e)

  pub session_guarded : length w.bench.sessions ≡ 16 → (se : Session) → se ≡ session_at w i → ruling_of v ≡ ruling (begins store w se.used)
      → Guarded store w (open_at w i) v (Going store w i se)
  session_guarded o se e h = record { refuses = whole.refuses; goes = λ t. goes (whole.goes t) }
    where
      whole : Guarded store w (open_at w i) v (Begun store w (open_at w i))
      whole = guarded store w se.used (open_at w i) v h (in_sixteen (λ (x : Session). x.used) w.bench.sessions i no_session o refl se e)

      goes : Begun store w (open_at w i) → Going store w i se
      goes g =
          let u = both_true (leb i 15) (session_at w i).used g.named in
          record {
            passes = g.passes;
            low = leb-true i 15 u.0;
            few = g.limits.few;
            session = rw e (opened store w (record { sound = g.sound; sixteen = o }) i u.1);
          }
