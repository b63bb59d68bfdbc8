-- Two sound worlds are the same where what is shared and what is each session's own are.
-- Above: Acts. Below: Parts.
use mathlib.Core.Path.{◌≡◌, sym, ap, ◌∙◌}
use mathlib.Core.List.{List}
use mathlib.Core.Bool.{true, false, ◌||◌, not}
use Prim.Native.Nat.{ℕ, ◌+◌, ◌-◌, ◌≤◌, ◌<◌}
use native.Mathlib.Omega.{arith}
use lib.Dec.{leb, ltb}
use lib.ListN.{length, get_or}
use lib.Seq.{ext_get_or}
use borrow.Author.Tests.{ltb-false, leb-false, not-false}
use Rattle.basis.proofs.Bools.{or_none}
use Rattle.basis.proofs.Part.{get_d_part}
use Rattle.sound.specs.Bench.{no_session, World, session_at, words_of}
use Rattle.sound.specs.Sound.{all, Sound}
use Rattle.sound.specs.declared.Session.{Session}
use Rattle.sound.proofs.Lists.{either_way, all_fails}
use Rattle.sound.proofs.Facts.{opened}
use Rattle.isolation.proofs.Parts.{clear, Public, Private, public_of, private_of}

-- word j is in this session's region
record Within (j : ℕ) (se : Session) : Type 0 where
  used : se.used ≡ true
  low : se.base ≤ j
  high : j < se.base + se.len

within : (j : ℕ) (se : Session) → clear j se ≡ false → Within j se
within j se h =
    let a = or_none (not se.used) (ltb j se.base || leb (se.base + se.len) j) h in
    let b = or_none (ltb j se.base) (leb (se.base + se.len) j) a.1 in
    record { used = not-false se.used a.0; low = ltb-false _ _ b.0; high = leb-false _ _ b.1 }

-- the worlds are the same where what is shared and what is each session's own are
module _ (store : List ℕ) (v w : World) (gv : Sound store v) (gw : Sound store w) (p : public_of v ≡ public_of w) (q : (i : ℕ) → private_of i v ≡ private_of i w) where
  same_rec_at : (i : ℕ) → session_at v i ≡ session_at w i
  same_rec_at i = ap (λ (x : Private). x.rec) (q i)

  same_sessions : v.bench.sessions ≡ w.bench.sessions
  same_sessions = ext_get_or no_session v.bench.sessions w.bench.sessions (gv.sixteen ∙ sym gw.sixteen) (λ i h. same_rec_at i)

  same_words : (i : ℕ) → (session_at w i).used ≡ true → words_of v (session_at w i) ≡ words_of w (session_at w i)
  same_words i u = rw (same_rec_at i, u) at (ap (λ (x : Private). x.words) (q i))

  word_in : (j i : ℕ) → Within j (session_at w i) → get_or v.mem j 0 ≡ get_or w.mem j 0
  word_in j i h =
      let b = (session_at w i).base in
      let e = (session_at w i).base + (session_at w i).len in
      let k = j - (session_at w i).base in
      let fw : e ≤ length w.mem = (opened store w gw i h.used).inside in
      let fv : e ≤ length v.mem = rw (ap (λ (x : Public). x.size) p) fw in
      let lt : k < e - b = omega (arith, h.low, h.high) in
      let eq : b + k ≡ j = omega (arith, h.low) in
      rw eq at
      (sym (get_d_part b e v.mem (omega arith) fv k lt)
      ∙ ap (λ (l : List ℕ). get_or l k 0) (same_words i h.used)
      ∙ get_d_part b e w.mem (omega arith) fw k lt)

  same_word : (j : ℕ) → get_or v.mem j 0 ≡ get_or w.mem j 0
  same_word j =
      either_way (all (clear j) w.bench.sessions)
      (λ h. rw (same_sessions, h) at (ap (λ (x : Public). x.free j) p))
      (λ h. let r = all_fails (clear j) w.bench.sessions no_session h in word_in j r.0 (within j (session_at w r.0) r.2))

  same_mem : v.mem ≡ w.mem
  same_mem = ext_get_or 0 v.mem w.mem (ap (λ (x : Public). x.size) p) (λ j h. same_word j)

  pub same_world : v ≡ w
  same_world = λ j. record {
    bench = record { n = (p j).n; s = (p j).s; slots = (p j).slots; sessions = same_sessions j };
    mem = same_mem j;
  }
