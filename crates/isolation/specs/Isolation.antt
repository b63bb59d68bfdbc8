-- THE ISOLATION THEOREM (demand 3), of any sound bench with its memory and store, and of any list of turns.
-- What it supposes, in full: the bench is sound at the start; between the turns there is no opening, closing or loading, and nobody else
-- writes the memory, the store or the bench. That is what `after` says: each turn begins with the world that the one before it left.
-- Turns that are refused may be in the list. The proof is in proofs/Theorem. Below: bench's `turn_of`; `mine` and `one_by_one` of interleave.
use Rattle.std.specs.Prelude.{◌≡◌, List, [], ◌∷◌, map, true, false, cond, ℕ, ◌+◌, leb}
use Rattle.interleave.specs.Interleave.{By, mine, one_by_one, Below}
use Rattle.sound.specs.Below.{SessionState, cpu_of, run_of, count_of}
use Rattle.sound.specs.Bench.{World, session_at, shared_of, words_of, code_at, window_at, state_at, at_cpu}
use Rattle.sound.specs.Sound.{Sound}
use Rattle.entry.specs.Answer.{Answer, Done, Refused, value_of}
use Rattle.entry.specs.Entries.{ran_of, done_of, turn_of}

-- a turn: which session, and how many steps
abbrev pub Turn : Type 0
Turn = By ℕ

-- the world after these turns, and their answers
abbrev pub after : List ℕ → List Turn → World → World
after store [] w = w
after store (t ∷ ts) w = after store ts (turn_of store t.who t.what w).world

abbrev pub answers_of : List ℕ → List Turn → World → List (By Answer)
answers_of store [] w = []
answers_of store (t ∷ ts) w =
    record { who = t.who; what = (turn_of store t.who t.what w).answer }
    ∷ answers_of store ts (turn_of store t.who t.what w).world

-- the steps that some turns of an open session come to: one of more than 65,535 is refused, and does none
abbrev pub steps_of : List ℕ → ℕ
steps_of [] = 0
steps_of (k ∷ ks) = cond (leb k 65535) k 0 + steps_of ks

-- the steps that some answers report
abbrev pub reported : List Answer → ℕ
reported [] = 0
reported (a ∷ l) = value_of a + reported l

-- what the documented machine answers to some turns, on this code, these shared words and this state
abbrev pub reports_of : List ℕ → List ℕ → List ℕ → SessionState → List Answer
reports_of code shared [] st = []
reports_of code shared (k ∷ ks) st =
    cond (leb k 65535)
    (Done (count_of k code shared st) ∷ reports_of code shared ks (run_of k code shared st))
    (Refused 16 0 ∷ reports_of code shared ks st)

-- (b) session i after the turns ts: what the documented machine makes of its own state, on its own region, its own code and the shared
-- words of its window, in as many steps as its own turns come to
pub record OnItsOwn (store : List ℕ) (ts : List Turn) (w : World) (i : ℕ) : Type 0 where
  pub words : words_of (after store ts w) (session_at w i) ≡ (ran_of store i (steps_of (mine i ts)) w).words
  pub registers : session_at (after store ts w) i ≡ at_cpu (session_at w i) (cpu_of (ran_of store i (steps_of (mine i ts)) w))
  pub answers : mine i (answers_of store ts w) ≡ reports_of (code_at store w i) (window_at w i) (mine i ts) (state_at w i)
  pub counts : reported (mine i (answers_of store ts w)) ≡ done_of store i (steps_of (mine i ts)) w

-- (c) session i of one world and session j of another: both are open, and agree on registers, kind, region, code and the words of their
-- windows. Record numbers, slots, places in memory and of the windows, S, all other shared words, the memories' sizes and all that other
-- sessions hold may differ.
pub record Agree (store : List ℕ) (w : World) (i : ℕ) (store' : List ℕ) (w' : World) (j : ℕ) : Type 0 where
  pub open_here : (session_at w i).used ≡ true
  pub open_there : (session_at w' j).used ≡ true
  pub cpu : (session_at w i).cpu ≡ (session_at w' j).cpu
  pub words : words_of w (session_at w i) ≡ words_of w' (session_at w' j)
  pub code : code_at store w i ≡ code_at store' w' j
  pub window : window_at w i ≡ window_at w' j

pub record Isolation : Type 0 where
  -- the bench stays sound
  pub stays_sound : (store : List ℕ) (ts : List Turn) (w : World) → Sound store w → Sound store (after store ts w)
  -- the shared words are read-only
  pub shared_kept : (store : List ℕ) (ts : List Turn) (w : World) → Sound store w → shared_of (after store ts w) ≡ shared_of w
  -- each turn has one answer, in the order of the turns
  pub in_turn : (store : List ℕ) (ts : List Turn) (w : World) → map (λ (a : By Answer). a.who) (answers_of store ts w) ≡ map (λ (t : Turn). t.who) ts
  -- (a) two lists with the same turns of each session, in each session's order, end in the same bench and memory, and each session has
  -- the same answers
  pub in_any_order : (store : List ℕ) (ts us : List Turn) (w : World) → Sound store w → ((i : ℕ) → mine i ts ≡ mine i us) → after store ts w ≡ after store us w
  pub same_answers : (store : List ℕ) (ts us : List Turn) (w : World) → Sound store w → ((i : ℕ) → mine i ts ≡ mine i us) → (i : ℕ) → mine i (answers_of store ts w) ≡ mine i (answers_of store us w)
  -- so the end, and the answers, are those of each session's own turns alone: session 0's, then session 1's, up to session n - 1. With no
  -- number above 15 asked for, n is 16; with others, which are refused, n is above them.
  pub one_after_another : (store : List ℕ) (n : ℕ) (ts : List Turn) (w : World) → Sound store w → Below n ts → after store ts w ≡ after store (one_by_one n ts) w
  pub one_after_another_answers : (store : List ℕ) (n : ℕ) (ts : List Turn) (w : World) → Sound store w → Below n ts → (i : ℕ) → mine i (answers_of store ts w) ≡ mine i (answers_of store (one_by_one n ts) w)
  -- (b)
  pub on_its_own : (store : List ℕ) (ts : List Turn) (w : World) → Sound store w → (i : ℕ) → (session_at w i).used ≡ true → OnItsOwn store ts w i
  -- and every turn of a session that is not open is refused with 12
  pub not_open : (store : List ℕ) (ts : List Turn) (w : World) → Sound store w → (i : ℕ) → (session_at w i).used ≡ false → mine i (answers_of store ts w) ≡ map (λ (k : ℕ). Refused 12 0) (mine i ts)
  -- (c) sessions that agree, and take the same turns, have the same answers and agree at the end, whatever the others hold and do
  pub two_runs : (store store' : List ℕ) (ts us : List Turn) (w w' : World) (i j : ℕ) → Sound store w → Sound store' w' → mine i ts ≡ mine j us → Agree store w i store' w' j → mine i (answers_of store ts w) ≡ mine j (answers_of store' us w')
  pub two_ends : (store store' : List ℕ) (ts us : List Turn) (w w' : World) (i j : ℕ) → Sound store w → Sound store' w' → mine i ts ≡ mine j us → Agree store w i store' w' j → Agree store (after store ts w) i store' (after store' us w') j
