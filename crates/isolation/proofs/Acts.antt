-- A turn of k steps as a function of what is shared and the session's own; and that this is what `turn_of` says, in a sound world.
-- So turns are requests in the sense of interleave: `turns`. Above: Theorem. Below: Parts, Whole, bench's laws of a turn.
use mathlib.Core.Path.{◌≡◌, refl, sym, ap, ◌∙◌}
use mathlib.Core.List.{List}
use mathlib.Core.Bool.{Bool, true, false, cond, ◌&&◌, and-false}
use Prim.Native.Nat.{ℕ, ◌+◌}
use native.Mathlib.Omega.{arith}
use lib.Dec.{leb}
use lib.ListN.{length}
use borrow.Author.Tests.{le-leb}
use Rattle.basis.proofs.Bools.{cond_holds}
use Rattle.basis.proofs.Part.{length_part}
use Rattle.interleave.specs.Interleave.{Isolated}
use Rattle.sound.specs.Below.{cpu_of, cpu_ok, run_of, count_of}
use Rattle.sound.specs.Bench.{code_of, slot_of, World, session_at, window_in, words_of, code_at, window_at, state_at}
use Rattle.sound.specs.Sound.{Sound}
use Rattle.sound.proofs.Below.{run_keeps, run_length}
use Rattle.sound.proofs.Lists.{either_way}
use Rattle.sound.proofs.Facts.{opened, used_below}
use Rattle.basis.specs.Checks.{passed, refused, ruling}
use Rattle.entry.specs.Answer.{Answer, Done, Refused, Result, done, refused_at, ruled, refusing}
use Rattle.entry.specs.Entries.{put, ran_of, done_of, turn_of}
use Rattle.isolation.proofs.Parts.{Public, Private, public_of, private_of, own_state, at_state, put_own, put_other, put_public, put_good}
use Rattle.isolation.proofs.Whole.{same_world}

-- the code of a session, of what is shared and its own
abbrev pub code_in : List ℕ → Public → Private → List ℕ
code_in store c p = code_of store (slot_of c.slots p.rec)

-- the shared words that it sees
abbrev pub seen_in : Public → Private → List ℕ
seen_in c p = window_in p.rec.window c.shared

-- a turn of k steps, of what is shared and the session's own alone
unfoldable pub next_of : List ℕ → Public → ℕ → Private → Private
next_of store c k p =
    cond p.rec.used
    (cond (leb k 65535) (at_state p (run_of k (code_in store c p) (seen_in c p) (own_state p))) p)
    p

unfoldable pub says_of : List ℕ → Public → ℕ → Private → Answer
says_of store c k p =
    cond p.rec.used
    (cond (leb k 65535) (Done (count_of k (code_in store c p) (seen_in c p) (own_state p))) (Refused 16 0))
    (Refused 12 0)

-- the world after a turn, and the turn's answer
abbrev pub turned : List ℕ → ℕ → ℕ → World → World
turned store i k w = (turn_of store i k w).world

abbrev pub answered : List ℕ → ℕ → ℕ → World → Answer
answered store i k w = (turn_of store i k w).answer

module _ (store : List ℕ) (c : Public) (k : ℕ) (p : Private) where
  pub next_runs : p.rec.used ≡ true → leb k 65535 ≡ true → next_of store c k p ≡ at_state p (run_of k (code_in store c p) (seen_in c p) (own_state p))
  unfolding next_of
  next_runs u h = rw (u, h)

  pub next_16 : p.rec.used ≡ true → leb k 65535 ≡ false → next_of store c k p ≡ p
  unfolding next_of
  next_16 u h = rw (u, h)

  pub next_12 : p.rec.used ≡ false → next_of store c k p ≡ p
  unfolding next_of
  next_12 u = rw u

  pub says_runs : p.rec.used ≡ true → leb k 65535 ≡ true → says_of store c k p ≡ Done (count_of k (code_in store c p) (seen_in c p) (own_state p))
  unfolding says_of
  says_runs u h = rw (u, h)

  pub says_16 : p.rec.used ≡ true → leb k 65535 ≡ false → says_of store c k p ≡ Refused 16 0
  unfolding says_of
  says_16 u h = rw (u, h)

  pub says_12 : p.rec.used ≡ false → says_of store c k p ≡ Refused 12 0
  unfolding says_of
  says_12 u = rw u

module _ (store : List ℕ) (i k : ℕ) (w : World) (g : Sound store w) where
  low : (leb i 15 && (session_at w i).used) ≡ (session_at w i).used
  low =
      either_way (session_at w i).used
      (λ u. let h = used_below store w g i u in rw (le-leb i 15 (omega arith)))
      (λ u. rw u (and-false (leb i 15)))

  -- in a sound world, what a turn comes to is read off the session's own record
  turn_good : turn_of store i k w
      ≡ cond (session_at w i).used (cond (leb k 65535) (done (done_of store i k w) (put i (ran_of store i k w) w)) (refused_at 16 0 w)) (refused_at 12 0 w)
  unfolding turn_of refusing ruling
  turn_good = rw (g.sound, low) (go (session_at w i).used (leb k 65535) _)
    where
      go : (u few : Bool) (x : Result)
          → ruled (cond u (cond few passed (refused 16 0)) (refused 12 0)) w x ≡ cond u (cond few x (refused_at 16 0 w)) (refused_at 12 0 w)
      go true true x = refl
      go true false x = refl
      go false few x = refl

  pub own_state_is : (session_at w i).used ≡ true → own_state (private_of i w) ≡ state_at w i
  own_state_is u = rw u

  pub ran_is : (session_at w i).used ≡ true → run_of k (code_at store w i) (window_at w i) (own_state (private_of i w)) ≡ ran_of store i k w
  ran_is u = rw u

  pub own_long : (session_at w i).used ≡ true → length (words_of w (session_at w i)) ≡ (session_at w i).len
  own_long u =
      length_part (session_at w i).base ((session_at w i).base + (session_at w i).len) w.mem (omega arith) (opened store w g i u).inside ∙ omega arith

  ran_long : (session_at w i).used ≡ true → length (ran_of store i k w).words ≡ (session_at w i).len
  ran_long u = run_length k (code_at store w i) (window_at w i) (state_at w i) ∙ own_long u

  ran_ok : (session_at w i).used ≡ true → cpu_ok (code_at store w i) (session_at w i).len (cpu_of (ran_of store i k w)) ≡ true
  ran_ok u =
      let f = opened store w g i u in
      run_keeps k (code_at store w i) (window_at w i) (session_at w i).len (state_at w i) f.checked f.most (own_long u) f.cpu_ok_lem

  -- a turn on its answer and its end: refused with nothing changed, or the machine's run
  turn_cases : (P : Result → Type 0) → ((session_at w i).used ≡ false → P (refused_at 12 0 w))
      → ((session_at w i).used ≡ true → leb k 65535 ≡ false → P (refused_at 16 0 w))
      → ((session_at w i).used ≡ true → leb k 65535 ≡ true → P (done (done_of store i k w) (put i (ran_of store i k w) w)))
      → P (turn_of store i k w)
  turn_cases P p q r = rw turn_good (cond_holds P (session_at w i).used (λ u. cond_holds P (leb k 65535) (r u) (q u)) p)

  pub turn_good_kept : Sound store (turned store i k w)
  turn_good_kept =
      turn_cases (λ r. Sound store r.world) (λ _. g) (λ _ _. g) (λ u _. put_good store w g i u (ran_of store i k w) (ran_long u) (ran_ok u))

  pub turn_public : public_of (turned store i k w) ≡ public_of w
  turn_public =
      turn_cases (λ r. public_of r.world ≡ public_of w) (λ _. refl) (λ _ _. refl) (λ u _. put_public store w g i u (ran_of store i k w) (ran_long u))

  pub turn_other : (j : ℕ) → (j ≡ i → ⊥) → private_of j (turned store i k w) ≡ private_of j w
  turn_other j d =
      turn_cases (λ r. private_of j r.world ≡ private_of j w) (λ _. refl) (λ _ _. refl)
      (λ u _. put_other store w g i u (ran_of store i k w) (ran_long u) j d)

  pub turn_own : private_of i (turned store i k w) ≡ next_of store (public_of w) k (private_of i w)
  turn_own =
      let c = public_of w in
      let p = private_of i w in
      turn_cases (λ r. private_of i r.world ≡ next_of store c k p) (λ u. sym (next_12 store c k p u)) (λ u h. sym (next_16 store c k p u h))
      (λ u h. put_own store w g i u (ran_of store i k w) (ran_long u) ∙ ap (at_state p) (sym (ran_is u)) ∙ sym (next_runs store c k p u h))

  pub turn_said : answered store i k w ≡ says_of store (public_of w) k (private_of i w)
  unfolding says_of
  turn_said =
      turn_cases (λ r. r.answer ≡ says_of store (public_of w) k (private_of i w)) (λ u. rw u) (λ u h. rw (u, h)) (λ u h. rw (u, h))

-- turns are requests of sessions that see what is shared and what is their own
abbrev pub turns : List ℕ → Isolated World Public Private ℕ Answer
turns store =
    record {
      act = turned store;
      ans = answered store;
      Good = Sound store;
      public = public_of;
      priv = private_of;
      next = next_of store;
      says = says_of store;
      good = turn_good_kept store;
      common = turn_public store;
      own = turn_own store;
      other = λ i j k w g d. turn_other store i k w g j d;
      said = turn_said store;
      whole = same_world store;
    }
