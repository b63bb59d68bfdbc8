-- THE ISOLATION THEOREM: `isolation` is a proof of what specs/Isolation says, by the general theorem of interleave at the bench's turns.
-- Above: nothing. Below: Acts, interleave, and the laws that turns add up.
use mathlib.Core.Path.{◌≡◌, refl, sym, ap, ◌∙◌}
use mathlib.Core.List.{List, [], ◌∷◌, map}
use mathlib.Core.Bool.{true, false}
use Prim.Native.Nat.{ℕ}
use native.Mathlib.Nat.{zero-add}
use lib.Dec.{leb}
use Rattle.interleave.specs.Interleave.{By, mine, one_by_one, acts, answers, alone, alone_says, Alike}
use Rattle.interleave.proofs.Interleave.{interleaved, two_runs}
use Rattle.sound.specs.Below.{SessionState, state_of, cpu_of, run_of, count_of}
use Rattle.sound.specs.Bench.{World, session_at, code_at, window_at, state_at, at_cpu, words_of}
use Rattle.sound.specs.Sound.{Sound}
use Rattle.sound.proofs.Lists.{either_way}
use Rattle.sound.proofs.Below.{run_none, run_add, count_none, count_add}
use Rattle.entry.specs.Entries.{ran_of, turn_of}
use Rattle.isolation.specs.Isolation.{Turn, after, answers_of, steps_of, reported, reports_of, OnItsOwn, Agree, Isolation}
use Rattle.isolation.proofs.Parts.{Public, Private, public_of, private_of, own_state, at_state}
use Rattle.isolation.proofs.Acts.{code_in, seen_in, next_runs, next_16, next_12, says_runs, says_16, says_12, own_state_is, ran_is, turns}
use Rattle.entry.specs.Answer.{Answer, Done, Refused}

-- the turns of specs/Isolation are the requests of interleave
after_acts : (store : List ℕ) (ts : List Turn) (w : World) → after store ts w ≡ acts (turns store) ts w
after_acts store [] w = refl
after_acts store (t ∷ ts) w = after_acts store ts (turn_of store t.who t.what w).world

answers_are : (store : List ℕ) (ts : List Turn) (w : World) → answers_of store ts w ≡ answers (turns store) ts w
answers_are store [] w = refl
answers_are store (t ∷ ts) w =
    ap (λ (l : List (By Answer)). record { who = t.who; what = (turn_of store t.who t.what w).answer } ∷ l)
    (answers_are store ts (turn_of store t.who t.what w).world)

in_turn : (store : List ℕ) (ts : List Turn) (w : World) → map (λ (a : By Answer). a.who) (answers_of store ts w) ≡ map (λ (t : Turn). t.who) ts
in_turn store [] w = refl
in_turn store (t ∷ ts) w = ap (λ (l : List ℕ). t.who ∷ l) (in_turn store ts (turn_of store t.who t.what w).world)

-- ---- (b): a session by itself, not open and open

alone_refused : (store : List ℕ) (c : Public) (ks : List ℕ) (p : Private) → p.rec.used ≡ false → alone_says (turns store) c ks p ≡ map (λ (k : ℕ). Refused 12 0) ks
alone_refused store c [] p u = refl
alone_refused store c (k ∷ ks) p u =
    rw (next_12 store c k p u, says_12 store c k p u) (ap (λ (l : List Answer). Refused 12 0 ∷ l) (alone_refused store c ks p u))

-- what the machine reports is the count of all its steps
counts_are : (code shared ks : List ℕ) (st : SessionState) → reported (reports_of code shared ks st) ≡ count_of (steps_of ks) code shared st
counts_are code shared [] st = sym (count_none code shared st)
counts_are code shared (k ∷ ks) st =
    either_way (leb k 65535)
    (λ h. rw (h, counts_are code shared ks (run_of k code shared st)) (sym (count_add k (steps_of ks) code shared st)))
    (λ h. rw (h, zero-add (steps_of ks), zero-add) (counts_are code shared ks st))

module _ (store : List ℕ) (c : Public) where
  abbrev machine : ℕ → Private → SessionState
  machine k p = run_of k (code_in store c p) (seen_in c p) (own_state p)

  alone_runs : (ks : List ℕ) (p : Private) → p.rec.used ≡ true → alone (turns store) c ks p ≡ at_state p (machine (steps_of ks) p)
  alone_runs [] p u = sym (ap (at_state p) (run_none (code_in store c p) (seen_in c p) (own_state p)))
  alone_runs (k ∷ ks) p u =
      either_way (leb k 65535)
      (λ h. rw (next_runs store c k p u h, h)
      (alone_runs ks (at_state p (machine k p)) u ∙ ap (at_state p) (sym (run_add k (steps_of ks) (code_in store c p) (seen_in c p) (own_state p)))))
      (λ h. rw (next_16 store c k p u h, h, zero-add (steps_of ks)) (alone_runs ks p u))

  alone_says_lem : (ks : List ℕ) (p : Private) → p.rec.used ≡ true
      → alone_says (turns store) c ks p ≡ reports_of (code_in store c p) (seen_in c p) ks (own_state p)
  alone_says_lem [] p u = refl
  alone_says_lem (k ∷ ks) p u =
      either_way (leb k 65535)
      (λ h. rw (next_runs store c k p u h, says_runs store c k p u h, h, alone_says_lem ks (at_state p (machine k p)) u))
      (λ h. rw (next_16 store c k p u h, says_16 store c k p u h, h, alone_says_lem ks p u))

module _ (store : List ℕ) (ts : List Turn) (w : World) (g : Sound store w) (i : ℕ) (u : (session_at w i).used ≡ true) where
  own_end : private_of i (after store ts w) ≡ at_state (private_of i w) (ran_of store i (steps_of (mine i ts)) w)
  own_end =
      rw (after_acts store ts w)
      ((interleaved (turns store)).own_state_lem ts w g i
      ∙ alone_runs store (public_of w) (mine i ts) (private_of i w) u
      ∙ ap (at_state (private_of i w)) (ran_is store i (steps_of (mine i ts)) w g u))

  own_rec : session_at (after store ts w) i ≡ at_cpu (session_at w i) (cpu_of (ran_of store i (steps_of (mine i ts)) w))
  own_rec = ap (λ (p : Private). p.rec) own_end

  own_says : mine i (answers_of store ts w) ≡ reports_of (code_at store w i) (window_at w i) (mine i ts) (state_at w i)
  own_says =
      rw (answers_are store ts w)
      ((interleaved (turns store)).own_answers ts w g i
      ∙ alone_says_lem store (public_of w) (mine i ts) (private_of i w) u
      ∙ ap (λ (st : SessionState). reports_of (code_at store w i) (window_at w i) (mine i ts) st) (own_state_is store i 0 w g u))

  on_its_own : OnItsOwn store ts w i
  on_its_own =
      record {
        words = rw (own_rec, u) at (ap (λ (p : Private). p.words) own_end);
        registers = own_rec;
        answers = own_says;
        counts = ap reported own_says ∙ counts_are (code_at store w i) (window_at w i) (mine i ts) (state_at w i);
      }

-- ---- (c): two sessions that see alike

record Seen (store store' : List ℕ) (c : Public) (p : Private) (d : Public) (r : Private) : Type 0 where
  open_here : p.rec.used ≡ true
  open_there : r.rec.used ≡ true
  cpu : p.rec.cpu ≡ r.rec.cpu
  words : p.words ≡ r.words
  code : code_in store c p ≡ code_in store' d r
  window : seen_in c p ≡ seen_in d r

module _ (store store' : List ℕ) (c : Public) (p : Private) (d : Public) (r : Private) (k : ℕ) (s : Seen store store' c p d r) where
  same_run : run_of k (code_in store c p) (seen_in c p) (own_state p) ≡ run_of k (code_in store' d r) (seen_in d r) (own_state r)
  same_run j = run_of k (s.code j) (s.window j) (state_of (s.words j) (s.cpu j))

  same_count : count_of k (code_in store c p) (seen_in c p) (own_state p) ≡ count_of k (code_in store' d r) (seen_in d r) (own_state r)
  same_count j = count_of k (s.code j) (s.window j) (state_of (s.words j) (s.cpu j))

alike : (store store' : List ℕ) → Alike (turns store) (turns store')
alike store store' =
    record {
      Same = Seen store store';
      still = λ c p d r k s.
          let run = same_run store store' c p d r k s in
          either_way (leb k 65535)
          (λ h. rw (next_runs store c k p s.open_here h, next_runs store' d k r s.open_there h)
          (let cpu = ap cpu_of run in let words = ap (λ (st : SessionState). st.words) run in search))
          (λ h. rw (next_16 store c k p s.open_here h, next_16 store' d k r s.open_there h) s);
      speak = λ c p d r k s.
          either_way (leb k 65535)
          (λ h. rw (says_runs store c k p s.open_here h, says_runs store' d k r s.open_there h) (ap Done (same_count store store' c p d r k s)))
          (λ h. rw (says_16 store c k p s.open_here h, says_16 store' d k r s.open_there h));
    }

module _ (store store' : List ℕ) (w w' : World) (i j : ℕ) where
  seen : Agree store w i store' w' j → Seen store store' (public_of w) (private_of i w) (public_of w') (private_of j w')
  seen a = let words : (private_of i w).words ≡ (private_of j w').words = rw (a.open_here, a.open_there) a.words in search

  agree : Seen store store' (public_of w) (private_of i w) (public_of w') (private_of j w') → Agree store w i store' w' j
  agree s = let words : words_of w (session_at w i) ≡ words_of w' (session_at w' j) = rw (s.open_here, s.open_there) at s.words in search

-- ---- all of it

pub isolation : Isolation
unfolding alike
isolation =
    record {
      in_turn = in_turn;
      stays_sound = λ store ts w g. rw (after_acts store ts w) ((interleaved (turns store)).good_kept ts w g);
      shared_kept = λ store ts w g. rw (after_acts store ts w) (ap (λ (c : Public). c.shared) ((interleaved (turns store)).public_kept ts w g));
      in_any_order =
          λ store ts us w g m.
          after_acts store ts w ∙ (interleaved (turns store)).any_mix ts us w g m ∙ sym (after_acts store us w);
      same_answers =
          λ store ts us w g m i.
          rw (answers_are store ts w, answers_are store us w) ((interleaved (turns store)).any_mix_answers ts us w g m i);
      one_after_another =
          λ store n ts w g b.
          after_acts store ts w ∙ (interleaved (turns store)).one_by_one_lem n ts w b g ∙ sym (after_acts store (one_by_one n ts) w);
      one_after_another_answers =
          λ store n ts w g b i.
          rw (answers_are store ts w, answers_are store (one_by_one n ts) w) ((interleaved (turns store)).one_by_one_answers n ts w b g i);
      on_its_own = on_its_own;
      not_open =
          λ store ts w g i u.
          rw (answers_are store ts w)
          ((interleaved (turns store)).own_answers ts w g i ∙ alone_refused store (public_of w) (mine i ts) (private_of i w) u);
      two_runs =
          λ store store' ts us w w' i j g h m a.
          rw (answers_are store ts w, answers_are store' us w')
          ((two_runs (turns store) (turns store') (alike store store')).same_answers ts us w w' i j g h m (seen store store' w w' i j a));
      two_ends =
          λ store store' ts us w w' i j g h m a.
          rw (after_acts store ts w, after_acts store' us w')
          (agree store store' (acts (turns store) ts w) (acts (turns store') us w') i j
          ((two_runs (turns store) (turns store') (alike store store')).same_end ts us w w' i j g h m (seen store store' w w' i j a)));
    }
