-- A new bench is sound, and loading, opening and closing keep a sound bench sound. (Turns: isolation's law of one turn.)
-- Above: Promises. Below: sound's facts, entry's laws of a list of checks, opening's of the lowest gap, the laws of the start.
use mathlib.Core.Logic.{◌↔◌}
use mathlib.Core.Path.{◌≡◌, refl, sym, ap, ◌∙◌}
use mathlib.Core.List.{List}
use mathlib.Core.Bool.{true, false, not, false≢true, or-true}
use Prim.Native.Nat.{ℕ, ◌+◌, ◌%◌, ◌≤◌, ◌<◌}
use native.Mathlib.Omega.{arith}
use lib.Dec.{leb, eqb}
use lib.ListN.{length, set, replicate, length-set, length-replicate}
use lib.Seq.{get_or-set_other}
use borrow.Author.Tests.{leb-true, eq-eqb, not-true}
use Rattle.basis.proofs.Bools.{every_holds, holds_every, and_snd, both_true, or_cases}
use Rattle.basis.proofs.Part.{length_splice}
use Rattle.basis.specs.Checks.{passed, refused}
use Rattle.basis.proofs.Checks.{never, is_passed_lem, all_passed}
use Rattle.sound.specs.Below.{judged, start_of}
use Rattle.sound.specs.Bench.{code_of, slot_at, slot_of, no_slot, no_session, World, world_of, session_at, at_slots}
use Rattle.sound.specs.Sound.{limits_ok, slot_ok, inside_shared, placed, apart, session_ok, sound_b, Sound}
use Rattle.sound.specs.declared.Slot.{Slot}
use Rattle.sound.specs.declared.Session.{Session}
use Rattle.sound.specs.declared.Window.{Window}
use Rattle.sound.proofs.Below.{start_ok}
use Rattle.sound.proofs.Lists.{either_way, all_at, all_imp, all_put, apart_put}
use Rattle.sound.proofs.Facts.{put_together, parts, long, opened, slot_good}
use Rattle.std.specs.Prelude.{Option, Some, None}
use Rattle.entry.specs.Answer.{answer_ruling}
use Rattle.entry.specs.Entries.{loaded_at, new_of, loaded_slot, range_ok, load_of, len_ok, record_for, clear_of, gap_at, gap_of, gap_for, found, place_in, cleared, fresh, window_open_of, close_of}
use Rattle.entry.proofs.Refusing.{by_checks}
use Rattle.entry_open.proofs.Lowest.{lowest_passes}

module _ (store : List ℕ) (w : World) (g : Sound store w) where
  -- record i replaced, and a part of memory cleared
  replaced_good : (i : ℕ) (se : Session) (base len : ℕ) → base + len ≤ length w.mem → placed w.bench.n w.bench.s se ≡ true
      → session_ok store w.bench.slots se ≡ true
      → ((j : ℕ) → j < length w.bench.sessions → (j ≡ i → ⊥) → (apart se (session_at w j) ≡ true) × (apart (session_at w j) se ≡ true))
      → Sound store (cleared i se base len w)
  replaced_good i se base len f pl ok lone =
      let p = parts store w g in
      let l = w.bench.sessions in
      let long = length_splice base (base + len) w.mem (omega arith) f (replicate len 0) (length-replicate len 0 ∙ omega arith) in
      record {
        sixteen = length-set l i se ∙ g.sixteen;
        sound =
            put_together _ _ store
            (record {
              limits = p.limits;
              sized = rw long p.sized;
              slots = p.slots;
              places = all_put (placed w.bench.n w.bench.s) l i se p.places pl;
              lone = apart_put l i se no_session p.lone lone;
              sessions = all_put (session_ok store w.bench.slots) l i se p.sessions ok;
            });
      }

  unused_apart : (se : Session) → (apart no_session se ≡ true) × (apart se no_session ≡ true)
  unfolding apart
  unused_apart se = (refl, or-true (not se.used))

  pub close_sound : (i : ℕ) → Sound store (close_of store i w).world
  unfolding close_of placed session_ok
  close_sound i =
      by_checks (λ r. Sound store r.world) _ w _ (λ _ _. g)
      (λ p. replaced_good i no_session (session_at w i).base (session_at w i).len
      (opened store w g i (and_snd (leb i 15) (session_at w i).used p.1.0)).inside refl refl (λ j o n. unused_apart (session_at w j)))

  module _ (slot len : ℕ) (v : Window) (loaded : loaded_at w slot ≡ true) (lk : len_ok (code_of store (slot_at w.bench.slots slot)) len ≡ true) (seen : inside_shared w.bench.s v ≡ true) where
    abbrev code : List ℕ
    code = code_of store (slot_at w.bench.slots slot)

    abbrev opening : ℕ → Session
    opening a = fresh slot a len v (start_of code len)

    fresh_apart : (a : ℕ) (se : Session) → clear_of a len se ≡ true → (apart (opening a) se ≡ true) × (apart se (opening a) ≡ true)
    unfolding apart
    fresh_apart a se h = (
      h,
      either_way se.used
          (λ u. or_cases (leb (a + len) se.base) (leb (se.base + se.len) a) (rw u at h) (λ q. rw (u, q) (or-true (leb (se.base + se.len) a))) (λ q. rw (u, q)))
          (λ u. rw u),
    )

    fresh_ok : (a : ℕ) → session_ok store w.bench.slots (opening a) ≡ true
    unfolding session_ok len_ok
    fresh_ok a =
        let y = every_holds _ lk in
        let at = both_true (leb slot 15) (slot_at w.bench.slots slot).loaded loaded in
        let start = start_ok code len (slot_good store w g slot at.1) (leb-true _ _ y.0) (leb-true _ _ y.1.1.0) in
        holds_every _ (at.0, (at.1, (y.0, (y.1.0, (start, tt)))))

    opens_by : (i : ℕ) (r : Option ℕ) → gap_for w len ≡ r → found r ≡ true → Sound store (cleared i (opening (place_in r)) (place_in r) len w)
    unfolding gap_of gap_at placed
    opens_by i None e h = absurd (false≢true h)
    opens_by i (Some a) e h =
        let x = every_holds _ (lowest_passes (gap_at w.bench.sessions w.bench.s w.bench.n len) (w.bench.n + 1) 0 a e) in
        let f : a + len ≤ length w.mem = rw (long store w g) (leb-true _ _ x.1.0) in
        replaced_good i (opening a) a len f (holds_every _ (x.0, (x.1.0, (seen, tt)))) (fresh_ok a)
        (λ j q n. fresh_apart a (session_at w j) (all_at (clear_of a len) w.bench.sessions j no_session x.1.1.0 q))

  pub open_sound : (slot len : ℕ) (v : Window) → Sound store (window_open_of store slot len v w).world
  unfolding window_open_of
  open_sound slot len v =
      by_checks (λ r. Sound store r.world) _ w _ (λ _ _. g)
      (λ p. let sizes = both_true _ _ p.1.1.0 in
      opens_by slot len v p.1.0 sizes.0 sizes.1 (record_for w) (gap_for w len) refl p.1.1.1.1.0)

module _ (store : List ℕ) (w : World) (g : Sound store w) (slot start len : ℕ) (free : (slot_at w.bench.slots slot).loaded ≡ false) where
  abbrev slots' : List Slot
  slots' = set w.bench.slots slot (loaded_slot start len)

  -- a session that is open names another slot
  same_slot : (se : Session) → (slot_of w.bench.slots se).loaded ≡ true → slot_of slots' se ≡ slot_of w.bench.slots se
  same_slot se h =
      get_or-set_other w.bench.slots slot se.slot (loaded_slot start len) no_slot
      (λ e. false≢true (sym free ∙ ap (λ (x : ℕ). (slot_at w.bench.slots x).loaded) (sym e) ∙ h))

  still_ok : (se : Session) → session_ok store w.bench.slots se ≡ true → session_ok store slots' se ≡ true
  unfolding session_ok
  still_ok se h = either_way se.used (λ u. let a = every_holds _ (rw u at h) in rw (same_slot se a.1.0) h) (λ u. rw u)

  loaded_good : range_ok store start len ≡ true → judged (code_of store (loaded_slot start len)) ≡ passed → Sound store (world_of (at_slots w.bench slots') w.mem)
  unfolding slot_ok
  loaded_good r j =
      let p = parts store w g in
      let within = and_snd (eqb (start % 2) 0) (leb (start + len) (length store)) r in
      record {
        sixteen = g.sixteen;
        sound =
            put_together (at_slots w.bench slots') w.mem store
            (record {
              limits = p.limits;
              sized = p.sized;
              slots = all_put (slot_ok store) w.bench.slots slot (loaded_slot start len) p.slots (holds_every _ (within, (is_passed_lem _ j, tt)));
              places = p.places;
              lone = p.lone;
              sessions = all_imp (session_ok store w.bench.slots) (session_ok store slots') w.bench.sessions still_ok p.sessions;
            });
      }

pub load_sound : (store : List ℕ) (w : World) → Sound store w → (slot start len : ℕ) → Sound store (load_of store slot start len w).world
unfolding load_of judged
load_sound store w g slot start len =
    by_checks (λ r. Sound store r.world) _ w _ (λ _ _. g)
    (λ p.
    let free = and_snd (leb slot 15) (not (slot_at w.bench.slots slot).loaded) p.1.0 in
    loaded_good store w g slot start len (not-true _ free) p.1.1.0 (all_passed _ p.1.1.1))

-- a new bench is refused exactly where its limits are not kept
pub new_answers : (n s : ℕ) → (answer_ruling (new_of n s).answer ≡ refused 17 0) ↔ (limits_ok n s ≡ false)
unfolding new_of
new_answers n s = (λ h. either_way (limits_ok n s) (λ l. absurd (never (rw l) h)) (λ l. l), λ h. rw h)

pub new_sound : (store m : List ℕ) (n s : ℕ) → answer_ruling (new_of n s).answer ≡ passed → length m ≡ n → Sound store (world_of (new_of n s).bench m)
unfolding new_of sound_b slot_ok placed session_ok apart
new_sound store m n s h e =
    either_way (limits_ok n s)
    (λ l. rw l (record { sixteen = refl; sound = holds_every _ (l, (eq-eqb (length m) n e, (refl, (refl, (refl, (refl, tt)))))) }))
    (λ l. absurd (never {n = 17} {p = 0} h (rw l)))
