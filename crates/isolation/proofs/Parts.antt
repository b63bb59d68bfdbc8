-- What is shared and what is a session's own, of a bench with its memory; and that a state put into one session changes nothing else.
-- Above: Acts. Below: bench's `put`, sound's facts of two open sessions.
use mathlib.Core.Path.{◌≡◌, refl, sym, ◌∙◌, fun_ext}
use mathlib.Core.List.{List, []}
use mathlib.Core.Bool.{Bool, true, cond, ◌||◌, not}
use Prim.Native.Nat.{ℕ, ◌+◌, ◌-◌, ◌≤◌, ◌<◌}
use native.Mathlib.Omega.{arith}
use lib.Dec.{leb, ltb}
use lib.ListN.{length, get_or, take}
use lib.Seq.{get_or-set_same, get_or-set_other, ext_get_or}
use borrow.Author.Tests.{leb-true, ltb-true}
use Rattle.basis.proofs.Bools.{or_cases}
use Rattle.basis.specs.Part.{part}
use Rattle.basis.proofs.Part.{length_part, get_d_part, length_splice, part_splice, take_splice, get_or_below, get_or_above}
use Rattle.sound.specs.Below.{SessionState, state_of, cpu_of, cpu_ok}
use Rattle.sound.specs.Bench.{no_session, World, session_at, shared_of, words_of, code_at, at_cpu}
use Rattle.sound.specs.Sound.{all, Sound}
use Rattle.sound.specs.declared.Slot.{Slot}
use Rattle.sound.specs.declared.Session.{Session}
use Rattle.sound.proofs.Lists.{either_way, all_at, all_set}
use Rattle.sound.proofs.Facts.{opened, used_in, apart_good, registers_good}
use Rattle.entry.specs.Entries.{put}

-- word j is in no region of this session
abbrev pub clear : ℕ → Session → Bool
clear j se = not se.used || (ltb j se.base || leb (se.base + se.len) j)

-- what no turn changes: the numbers N and S, the slots, the memory's size, the shared words, and every word that is in no region
pub record Public : Type 0 where
  pub n : ℕ
  pub s : ℕ
  pub slots : List Slot
  pub size : ℕ
  pub shared : List ℕ
  pub free : ℕ → ℕ

-- what is a session's own: its record and its words
pub record Private : Type 0 where
  pub rec : Session
  pub words : List ℕ

abbrev pub public_of : World → Public
public_of w =
    record {
      n = w.bench.n;
      s = w.bench.s;
      slots = w.bench.slots;
      size = length w.mem;
      shared = shared_of w;
      free = λ j. cond (all (clear j) w.bench.sessions) (get_or w.mem j 0) 0;
    }

abbrev pub private_of : ℕ → World → Private
private_of i w = record { rec = session_at w i; words = cond (session_at w i).used (words_of w (session_at w i)) [] }

-- the state of a session that is open: what the machine runs on
abbrev pub own_state : Private → SessionState
own_state p = state_of p.words p.rec.cpu

abbrev pub at_state : Private → SessionState → Private
at_state p st = record { rec = at_cpu p.rec (cpu_of st); words = st.words }

module _ (store : List ℕ) (w : World) (g : Sound store w) (i : ℕ) (u : (session_at w i).used ≡ true) where
  -- the region is the words from base up to end
  abbrev base : ℕ
  base = (session_at w i).base

  abbrev end : ℕ
  end = (session_at w i).base + (session_at w i).len

  o : base ≤ end
  o = omega arith

  fits : end ≤ length w.mem
  fits = (opened store w g i u).inside

  module _ (st : SessionState) (l : length st.words ≡ (session_at w i).len) where
    l' : length st.words ≡ end - base
    l' = omega arith

    same_rec : session_at (put i st w) i ≡ at_cpu (session_at w i) (cpu_of st)
    same_rec = get_or-set_same w.bench.sessions i (at_cpu (session_at w i) (cpu_of st)) no_session (used_in store w g i u)

    words_own : cond (session_at w i).used (words_of (put i st w) (session_at w i)) [] ≡ st.words
    words_own =
        rw u (part_splice base end w.mem o fits st.words l')

    -- what was put is there
    pub put_own : private_of i (put i st w) ≡ at_state (private_of i w) st
    put_own = rw (same_rec, words_own)

    other_rec : (j : ℕ) → (j ≡ i → ⊥) → session_at (put i st w) j ≡ session_at w j
    other_rec j d = get_or-set_other w.bench.sessions i j (at_cpu (session_at w i) (cpu_of st)) no_session d

    -- a word outside the region is as it was
    put_below : (j : ℕ) → j < base → get_or (put i st w).mem j 0 ≡ get_or w.mem j 0
    put_below j h =
        get_or_below base end w.mem o fits st.words l' j h

    put_above : (j : ℕ) → end ≤ j → get_or (put i st w).mem j 0 ≡ get_or w.mem j 0
    put_above j h =
        get_or_above base end w.mem o fits st.words l' j h

    put_long : length (put i st w).mem ≡ length w.mem
    put_long = length_splice base end w.mem o fits st.words l'

    -- a part that ends by the region's start, or starts from its end on, is as it was
    part_kept : (a f : ℕ) → a ≤ f → f ≤ length w.mem → ((k : ℕ) → a ≤ k → k < f → get_or (put i st w).mem k 0 ≡ get_or w.mem k 0)
        → part a f (put i st w).mem ≡ part a f w.mem
    part_kept a f o₁ o₂ h =
        let o₃ : f ≤ length (put i st w).mem = rw put_long o₂ in
        ext_get_or 0 (part a f (put i st w).mem) (part a f w.mem)
        (length_part a f (put i st w).mem o₁ o₃ ∙ sym (length_part a f w.mem o₁ o₂))
        (λ k hk.
        let lt : k < f - a = rw (length_part a f (put i st w).mem o₁ o₃) at hk in
        get_d_part a f (put i st w).mem o₁ o₃ k lt ∙ h (a + k) (omega arith) (omega arith) ∙ sym (get_d_part a f w.mem o₁ o₂ k lt))

    words_other : (j : ℕ) → (j ≡ i → ⊥) → (session_at w j).used ≡ true → words_of (put i st w) (session_at w j) ≡ words_of w (session_at w j)
    words_other j d uj =
        let f = (opened store w g j uj).inside in
        let kept = part_kept (session_at w j).base ((session_at w j).base + (session_at w j).len) (omega arith) f in
        apart_good store w g i j d u uj (λ h. kept (λ k p q. put_above k (omega arith))) (λ h. kept (λ k p q. put_below k (omega arith)))

    -- every other session's own is as it was
    pub put_other : (j : ℕ) → (j ≡ i → ⊥) → private_of j (put i st w) ≡ private_of j w
    put_other j d = rw (other_rec j d) (either_way (session_at w j).used (λ uj. rw (words_other j d uj)) (λ uj. rw uj))

    clear_kept : (j : ℕ) → all (clear j) (put i st w).bench.sessions ≡ all (clear j) w.bench.sessions
    clear_kept j = all_set (clear j) w.bench.sessions i no_session (at_cpu (session_at w i) (cpu_of st)) refl

    clear_own : (j : ℕ) → all (clear j) w.bench.sessions ≡ true → get_or (put i st w).mem j 0 ≡ get_or w.mem j 0
    clear_own j h =
        let q = all_at (clear j) w.bench.sessions i no_session h (used_in store w g i u) in
        or_cases (ltb j base) (leb end j) (rw u at q) (λ p. put_below j (ltb-true _ _ p)) (λ p. put_above j (leb-true _ _ p))

    free_kept : (j : ℕ) → (public_of (put i st w)).free j ≡ (public_of w).free j
    free_kept j = rw (clear_kept j) (either_way (all (clear j) w.bench.sessions) (λ h. rw (clear_own j h)) (λ h. rw h))

    shared_kept : take w.bench.s (put i st w).mem ≡ take w.bench.s w.mem
    shared_kept =
        take_splice base end w.mem o fits st.words l' w.bench.s
        (opened store w g i u).above

    -- what is shared is as it was
    pub put_public : public_of (put i st w) ≡ public_of w
    put_public = λ j. record {
      n = w.bench.n;
      s = w.bench.s;
      slots = w.bench.slots;
      size = put_long j;
      shared = shared_kept j;
      free = fun_ext free_kept j;
    }

    -- other registers in their ranges keep the world sound
    pub put_good : cpu_ok (code_at store w i) (session_at w i).len (cpu_of st) ≡ true → Sound store (put i st w)
    put_good h = registers_good store w g i u (cpu_of st) (put i st w).mem put_long h
