-- What a sound bench gives, as numbers: facts of the memory, of a slot, of one open session, of two; and what keeps it sound.
-- Above: the entries, isolation. Below: specs/Sound, Lists.
use mathlib.Core.Path.{◌≡◌, refl, sym, ◌∙◌}
use mathlib.Core.List.{List}
use mathlib.Core.Bool.{Bool, true, false, false≢true}
use Prim.Native.Nat.{ℕ, ◌+◌, ◌≤◌, ◌<◌}
use native.Mathlib.Omega.{arith}
use native.Mathlib.Decide.{dec_lt}
use lib.Dec.{eqb}
use lib.ListN.{length, get_or, set, length-set, get_or-eq_default}
use lib.Seq.{get_or-set_same}
use borrow.Author.Tests.{leb-true, eqb-true, le-leb}
use Rattle.basis.proofs.Bools.{every_holds, holds_every, or_cases}
use Rattle.sound.specs.Below.{judged, Cpu, cpu_ok}
use Rattle.sound.specs.Bench.{code_of, slot_at, slot_of, no_slot, no_session, World, session_at, code_at, at_cpu, at_window, at_sessions}
use Rattle.sound.specs.Sound.{all, limits_ok, slot_ok, placed, apart, all_apart, session_ok, sound_b, Sound}
use Rattle.sound.specs.declared.Slot.{Slot}
use Rattle.sound.specs.declared.Window.{Window}
use Rattle.sound.specs.declared.Session.{Session}
use Rattle.sound.specs.declared.Bench.{Bench}
use Rattle.basis.specs.Checks.{passed}
use Rattle.basis.proofs.Checks.{passed_is}
use Rattle.sound.proofs.Lists.{all_at, all_set, apart_at, apart_set, apart_window}

-- the test taken apart
pub record Parts (b : Bench) (m store : List ℕ) : Type 0 where
  pub limits : limits_ok b.n b.s ≡ true
  pub sized : eqb (length m) b.n ≡ true
  pub slots : all (slot_ok store) b.slots ≡ true
  pub places : all (placed b.n b.s) b.sessions ≡ true
  pub lone : all_apart b.sessions ≡ true
  pub sessions : all (session_ok store b.slots) b.sessions ≡ true

module _ (b : Bench) (m store : List ℕ) where
  pub taken_apart : sound_b b m store ≡ true → Parts b m store
  unfolding sound_b
  taken_apart h =
      let a = every_holds _ h in
      record {
        limits = a.0;
        sized = a.1.0;
        slots = a.1.1.0;
        places = a.1.1.1.0;
        lone = a.1.1.1.1.0;
        sessions = a.1.1.1.1.1.0;
      }

  pub put_together : Parts b m store → sound_b b m store ≡ true
  unfolding sound_b
  put_together p =
      holds_every _ (p.limits, (p.sized, (p.slots, (p.places, (p.lone, (p.sessions, tt))))))

pub record Limits (n s : ℕ) : Type 0 where
  pub words : n ≤ 1048576
  pub few : s ≤ 32768
  pub within : s ≤ n

pub limits : (n s : ℕ) → limits_ok n s ≡ true → Limits n s
unfolding limits_ok
limits n s h =
    let a = every_holds _ h in
    record { words = leb-true _ _ a.0; few = leb-true _ _ a.1.0; within = leb-true _ _ a.1.1.0 }

-- what soundness says of a session that is open
pub record Opened (store : List ℕ) (w : World) (se : Session) : Type 0 where
  pub slot_low : se.slot ≤ 15
  pub loaded : (slot_of w.bench.slots se).loaded ≡ true
  pub above : w.bench.s ≤ se.base
  pub inside : se.base + se.len ≤ length w.mem
  pub seen : se.window.first + se.window.len ≤ w.bench.s
  pub least : 16 ≤ se.len
  pub most : se.len ≤ 32768
  pub checked : judged (code_of store (slot_of w.bench.slots se)) ≡ passed
  pub cpu_ok_lem : cpu_ok (code_of store (slot_of w.bench.slots se)) se.len se.cpu ≡ true

-- an element that has what the one past the end has not lies in the list
holds_in : {A : Type 0} (has : A → Bool) (l : List A) (i : ℕ) (d : A) → has d ≡ false → has (get_or l i d) ≡ true → i < length l
holds_in has l i d n u = go (dec_lt i (length l))
  where
    go : Dec (i < length l) → i < length l
    go (yes h) = h
    go (no h) = absurd (false≢true (sym n ∙ (rw (get_or-eq_default l d {n = i} (omega arith)) at u)))

apart_of : (a b : Session) → a.used ≡ true → b.used ≡ true → apart a b ≡ true → {P : Type 0}
    → (a.base + a.len ≤ b.base → P)
    → (b.base + b.len ≤ a.base → P)
    → P
unfolding apart
apart_of a b ua ub h f k = or_cases _ _ (rw (ua, ub) at h) (λ e. f (leb-true _ _ e)) (λ e. k (leb-true _ _ e))

module _ (store : List ℕ) (w : World) (g : Sound store w) where
  pub parts : Parts w.bench w.mem store
  parts = taken_apart w.bench w.mem store g.sound

  pub long : length w.mem ≡ w.bench.n
  long = eqb-true (length w.mem) w.bench.n parts.sized

  -- an open session is one of the sixteen
  pub used_in : (i : ℕ) → (session_at w i).used ≡ true → i < length w.bench.sessions
  used_in i u = holds_in (λ (se : Session). se.used) w.bench.sessions i no_session refl u

  passing : (i : ℕ) → (session_at w i).used ≡ true → (p : Session → Bool) → all p w.bench.sessions ≡ true → p (session_at w i) ≡ true
  passing i u p h = all_at p w.bench.sessions i no_session h (used_in i u)

  pub used_below : (i : ℕ) → (session_at w i).used ≡ true → i < 16
  used_below i u = rw g.sixteen at (used_in i u)

  -- a loaded slot's bytes pass the checks
  pub slot_good : (j : ℕ) → (slot_at w.bench.slots j).loaded ≡ true → judged (code_of store (slot_at w.bench.slots j)) ≡ passed
  unfolding slot_ok
  slot_good j h =
      let q = all_at (slot_ok store) w.bench.slots j no_slot parts.slots (holds_in (λ (sl : Slot). sl.loaded) w.bench.slots j no_slot refl h) in
      passed_is _ (every_holds _ (rw h at q)).1.0

  pub opened : (i : ℕ) → (session_at w i).used ≡ true → Opened store w (session_at w i)
  unfolding session_ok placed
  opened i u =
      let a = every_holds _ (rw u at (passing i u (session_ok store w.bench.slots) parts.sessions)) in
      let b = every_holds _ (rw u at (passing i u (placed w.bench.n w.bench.s) parts.places)) in
      record {
        slot_low = leb-true _ _ a.0;
        loaded = a.1.0;
        above = leb-true _ _ b.0;
        inside = rw long (leb-true _ _ b.1.0);
        seen = leb-true _ _ b.1.1.0;
        least = leb-true _ _ a.1.1.0;
        most = leb-true _ _ a.1.1.1.0;
        checked = slot_good (session_at w i).slot a.1.0;
        cpu_ok_lem = a.1.1.1.1.0;
      }

  -- two open sessions' regions: the one ends by the other's start
  pub apart_good : (i j : ℕ) → (j ≡ i → ⊥) → (session_at w i).used ≡ true → (session_at w j).used ≡ true → {P : Type 0}
      → ((session_at w i).base + (session_at w i).len ≤ (session_at w j).base → P)
      → ((session_at w j).base + (session_at w j).len ≤ (session_at w i).base → P)
      → P
  apart_good i j d ui uj {P} f k = go (dec_lt i j)
    where
      go : Dec (i < j) → P
      go (yes h) = apart_of (session_at w i) (session_at w j) ui uj (apart_at w.bench.sessions i j no_session parts.lone h (used_in j uj)) f k
      go (no h) = apart_of (session_at w j) (session_at w i) uj ui (apart_at w.bench.sessions j i no_session parts.lone (omega arith) (used_in i ui)) k f

  -- other registers, in their ranges, in the record of an open session; and a memory of as many words
  pub registers_good : (i : ℕ) → (session_at w i).used ≡ true → (c : Cpu) (m : List ℕ) → length m ≡ length w.mem
      → cpu_ok (code_at store w i) (session_at w i).len c ≡ true
      → Sound store (record { bench = at_sessions w.bench (set w.bench.sessions i (at_cpu (session_at w i) c)); mem = m })
  unfolding session_ok placed
  registers_good i u c m l h =
      let f = opened i u in
      let l₀ = w.bench.sessions in
      let se = at_cpu (session_at w i) c in
      let ok = session_ok store w.bench.slots in
      let new : ok se ≡ true =
      rw u (holds_every _ (le-leb _ _ f.slot_low, (f.loaded, (le-leb _ _ f.least, (le-leb _ _ f.most, (h, tt)))))) in
      record {
        sixteen = length-set l₀ i se ∙ g.sixteen;
        sound =
            put_together _ m store
            (record {
              limits = parts.limits;
              sized = rw l parts.sized;
              slots = parts.slots;
              places = all_set (placed w.bench.n w.bench.s) l₀ i no_session se refl ∙ parts.places;
              lone = apart_set l₀ i no_session c ∙ parts.lone;
              sessions = all_set ok l₀ i no_session se (new ∙ sym (passing i u ok parts.sessions)) ∙ parts.sessions;
            });
      }

  -- another window inside the S words in the record of an open session; and no other would do
  pub window_good : (i : ℕ) → (session_at w i).used ≡ true → (v : Window) → v.first + v.len ≤ w.bench.s
      → Sound store (record { bench = at_sessions w.bench (set w.bench.sessions i (at_window (session_at w i) v)); mem = w.mem })
  unfolding session_ok placed
  window_good i u v h =
      let l₀ = w.bench.sessions in
      let se = at_window (session_at w i) v in
      let ok = placed w.bench.n w.bench.s in
      let old = every_holds _ (rw u at (passing i u ok parts.places)) in
      let new : ok se ≡ true = rw u (holds_every _ (old.0, (old.1.0, (le-leb _ _ h, tt)))) in
      record {
        sixteen = length-set l₀ i se ∙ g.sixteen;
        sound =
            put_together _ w.mem store
            (record {
              limits = parts.limits;
              sized = parts.sized;
              slots = parts.slots;
              places = all_set ok l₀ i no_session se (new ∙ sym (passing i u ok parts.places)) ∙ parts.places;
              lone = apart_window l₀ i no_session v ∙ parts.lone;
              sessions = all_set (session_ok store w.bench.slots) l₀ i no_session se refl ∙ parts.sessions;
            });
      }

pub outside_unsound : (store : List ℕ) (w : World) → Sound store w → (i : ℕ) → (session_at w i).used ≡ true → (v : Window)
    → Sound store (record { bench = at_sessions w.bench (set w.bench.sessions i (at_window (session_at w i) v)); mem = w.mem })
    → v.first + v.len ≤ w.bench.s
outside_unsound store w g i u v h =
    let new : World = record { bench = at_sessions w.bench (set w.bench.sessions i (at_window (session_at w i) v)); mem = w.mem } in
    let same : session_at new i ≡ at_window (session_at w i) v =
    get_or-set_same w.bench.sessions i (at_window (session_at w i) v) no_session (used_in store w g i u) in
    let f = rw same at (opened store new h i (rw same u)) in
    f.seen
