-- Closing: the region is zeroed, and region and record are free.
-- Above: Promises. Below: Zeros, sound's facts of two open sessions.
use mathlib.Core.Path.{◌≡◌, refl, sym, ap, ◌∙◌}
use mathlib.Core.List.{List}
use mathlib.Core.Bool.{true, false≢true}
use Prim.Native.Nat.{ℕ, ◌+◌, ◌≤◌, ◌<◌}
use native.Mathlib.Omega.{arith}
use native.Mathlib.Decide.{ℕ_discrete}
use lib.Dec.{leb}
use lib.ListN.{length}
use lib.Seq.{get_or-set_same}
use Rattle.basis.proofs.Bools.{and_snd}
use Rattle.sound.specs.Bench.{no_session, World, session_at}
use Rattle.sound.specs.Sound.{Sound}
use Rattle.sound.specs.declared.Session.{Session}
use Rattle.sound.proofs.Lists.{decided}
use Rattle.sound.proofs.Facts.{opened, long, used_in, apart_good}
use Rattle.entry.specs.Entries.{cleared, open_at, close_checks, close_of}
use Rattle.entry.proofs.Refusing.{passes}
use Rattle.promises.specs.Words.{InRegion, Free, OnlyRecord, Closes}
use Rattle.promises.proofs.Zeros.{zeroed, only}
use Rattle.entry.specs.Answer.{Done}

module _ (store : List ℕ) (w : World) (i : ℕ) (g : Sound store w) (u : (session_at w i).used ≡ true) where
  abbrev after : World
  after = cleared i no_session (session_at w i).base (session_at w i).len w

  gone : session_at after i ≡ no_session
  gone = get_or-set_same w.bench.sessions i no_session no_session (used_in store w g i u)

  others : OnlyRecord w after i
  others = only w i no_session (session_at w i).base (session_at w i).len (opened store w g i u).inside

  -- a word of the region is in no other's
  nobodys : (j : ℕ) → InRegion w i j → (k : ℕ) → InRegion after k j → ⊥
  nobodys j h k r =
      decided (ℕ_discrete k i)
      (λ e. false≢true (sym (ap (λ (se : Session). se.used) gone) ∙ ap (λ (x : ℕ). (session_at after x).used) (sym e) ∙ r.used))
      (λ d.
      let s = others.same_others k d in
      let lo : (session_at w k).base ≤ j = rw s at r.low in
      let hi : j < (session_at w k).base + (session_at w k).len = rw s at r.high in
      apart_good store w g i k d u (rw s at r.used) (λ o. omega (arith, h.high)) (λ o. omega (arith, h.low)))

  freed : (j : ℕ) → InRegion w i j → Free after j
  freed j h =
      let f = opened store w g i u in
      let inside : j < length w.mem = omega (arith, f.inside, h.high) in
      record { unshared = omega (arith, f.above, h.low); inside = rw (long store w g) at inside; nobodys = nobodys j h }

  is_closed : Closes w after i
  is_closed =
      record {
        freed_record = gone;
        freed_words = freed;
        only = others;
        zeroed = zeroed w i no_session (session_at w i).base (session_at w i).len (opened store w g i u).inside;
      }

pub closed : (store : List ℕ) (w : World) (i : ℕ) → Sound store w → open_at w i ≡ true
    → ((close_of store i w).answer ≡ Done 0) × Closes w (close_of store i w).world i
unfolding close_of
closed store w i g o =
    rw (passes (close_checks store i w) w _ (g.sound, (o, tt))) (refl, is_closed store w i g (and_snd (leb i 15) (session_at w i).used o))
