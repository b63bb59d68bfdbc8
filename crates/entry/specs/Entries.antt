-- What each entry answers and leaves, on every input: new bench, loading, opening, a turn, closing. Each with its refusals in their order.
-- Above: a crate for each entry, promises, isolation. Below: Answer, and sound's definitions.
use Rattle.std.specs.Prelude.{List, [], ◌∷◌, ◌++◌, Bool, true, cond, ◌&&◌, ◌||◌, not, ℕ, zero, suc, ◌+◌, ◌%◌, leb, ltb, eqb, length, set, replicate}
use Rattle.basis.specs.Bools.{every}
use Rattle.basis.specs.Checks.{Check, check, Ruling, passed, refused, is_passed}
use Rattle.basis.specs.Part.{splice}
use Rattle.sound.specs.Below.{SessionState, Cpu, cpu_of, checks, floor_of, start_of, run_of, count_of}
use Rattle.sound.specs.Bench.{no_slot, no_session, code_of, slot_at, World, world_of, session_at, code_at, window_at, state_at, fresh, at_cpu, at_sessions, at_slots}
pub use Rattle.sound.specs.Bench.{fresh}
use Rattle.sound.specs.Sound.{all, limits_ok, inside_shared, sound_b}
use Rattle.sound.specs.declared.Slot.{Slot}
use Rattle.sound.specs.declared.Window.{Window}
use Rattle.sound.specs.declared.Session.{Session}
use Rattle.sound.specs.declared.Bench.{Bench}
use Rattle.entry.specs.declared.Out.{Out}
use Rattle.std.specs.Prelude.{Option, Some, None}
use Rattle.entry.specs.Answer.{Answer, Done, Refused, answer_of, Result, done, refusing}

-- ---- 11 and then 12, with which every request to a slot or a session begins

-- 11: "bench not sound for the lent memory and store"
abbrev pub is_sound : List ℕ → World → Bool
is_sound store w = sound_b w.bench w.mem store

-- 12: "slot number above 15; already loaded"
abbrev pub free_slot : World → ℕ → Bool
free_slot w slot = leb slot 15 && not (slot_at w.bench.slots slot).loaded

-- 12: "slot number above 15; slot not loaded"
abbrev pub loaded_at : World → ℕ → Bool
loaded_at w slot = leb slot 15 && (slot_at w.bench.slots slot).loaded

-- 12: "session number above 15; session not open"
abbrev pub open_at : World → ℕ → Bool
open_at w i = leb i 15 && (session_at w i).used

abbrev pub begins : List ℕ → World → Bool → List Check
begins store w named = check 11 0 (is_sound store w) ∷ check 12 0 named ∷ []

-- ---- one writing: record i becomes se, and the len words from base on these

abbrev pub replaced : ℕ → Session → ℕ → ℕ → List ℕ → World → World
replaced i se base len words w =
    world_of (at_sessions w.bench (set w.bench.sessions i se)) (splice base (base + len) words w.mem)

abbrev pub cleared : ℕ → Session → ℕ → ℕ → World → World
cleared i se base len w = replaced i se base len (replicate len 0) w

-- ---- a new bench: 17

-- "A new bench has no slot loaded and no record used, and touches no word."
abbrev pub empty_bench : ℕ → ℕ → Bench
empty_bench n s = record { n = n; s = s; slots = replicate 16 no_slot; sessions = replicate 16 no_session }

-- 17: "S or N beyond its limit"
pub record New : Type 0 where
  pub answer : Answer
  pub bench : Bench

unfoldable pub new_of : ℕ → ℕ → New
new_of n s =
    cond (limits_ok n s)
    (record { answer = Done 0; bench = empty_bench n s })
    (record { answer = Refused 17 0; bench = empty_bench 0 0 })

-- what a function returned
abbrev pub new_by : Out → New
new_by r = record { answer = answer_of r.answer; bench = r.bench }

-- ---- loading: 11, 12, 17, then 1 to 8

abbrev pub loaded_slot : ℕ → ℕ → Slot
loaded_slot start len = record { loaded = true; start = start; len = len }

-- 17: "start odd, or start plus length beyond the store"
abbrev pub range_ok : List ℕ → ℕ → ℕ → Bool
range_ok store start len = eqb (start % 2) 0 && leb (start + len) (length store)

abbrev pub load_checks : List ℕ → ℕ → ℕ → ℕ → World → List Check
load_checks store slot start len w =
    begins store w (free_slot w slot) ++ (check 17 0 (range_ok store start len) ∷ checks (code_of store (loaded_slot start len)))

unfoldable pub load_of : List ℕ → ℕ → ℕ → ℕ → World → Result
load_of store slot start len w =
    refusing (load_checks store slot start len w) w
    (done 0 (world_of (at_slots w.bench (set w.bench.slots slot (loaded_slot start len))) w.mem))

-- ---- opening: 11, 12, 13, 14, 15

-- 13: "L outside 16..32,768, or L below 6+G"
unfoldable pub len_ok : List ℕ → ℕ → Bool
len_ok code len = every (leb 16 len ∷ leb len 32768 ∷ leb (floor_of code) len ∷ [])

-- 14: "no record unused". The place of the first element that passes, or the length; so the lowest unused record.
abbrev pub first_place : {A : Type 0} → (A → Bool) → List A → ℕ
first_place p [] = 0
first_place p (x ∷ l) = cond (p x) 0 (first_place p l + 1)

-- the same place, if there is one
abbrev pub first_of : {A : Type 0} → (A → Bool) → List A → Option ℕ
first_of p l = cond (ltb (first_place p l) (length l)) (Some (first_place p l)) None

abbrev pub unused : Session → Bool
unused se = not se.used

abbrev pub record_for : World → ℕ
record_for w = first_place unused w.bench.sessions

-- the words from a up to a + len are in no region of this session
abbrev pub clear_of : ℕ → ℕ → Session → Bool
clear_of a len se = not se.used || (leb (a + len) se.base || leb (se.base + se.len) a)

abbrev pub hits : ℕ → ℕ → Session → Bool
hits a len se = not (clear_of a len se)

-- len free words from a on, "from word S up"
unfoldable pub gap_at : List Session → ℕ → ℕ → ℕ → ℕ → Bool
gap_at sessions s n len a = every (leb s a ∷ leb (a + len) n ∷ all (clear_of a len) sessions ∷ [])

-- the lowest number that passes, of so many from a on
abbrev pub lowest : (ℕ → Bool) → ℕ → ℕ → Option ℕ
lowest p zero a = None
lowest p (suc f) a = cond (p a) (Some a) (lowest p f (a + 1))

-- 15: "no gap of L free words". "Opening gives the lowest gap that fits."
unfoldable pub gap_of : List Session → ℕ → ℕ → ℕ → Option ℕ
gap_of sessions s n len = lowest (gap_at sessions s n len) (n + 1) 0

abbrev pub gap_for : World → ℕ → Option ℕ
gap_for w len = gap_of w.bench.sessions w.bench.s w.bench.n len

-- the paper's number of each case of the code's answer, and its value
abbrev pub gap_ruling : Option ℕ → Ruling
gap_ruling (Some a) = passed
gap_ruling None = refused 15 0

abbrev pub found : Option ℕ → Bool
found g = is_passed (gap_ruling g)

abbrev pub place_in : Option ℕ → ℕ
place_in (Some a) = a
place_in None = 0

-- "sets every word of the region to zero, and starts routine 1"; request 7: "The runner's session record gains the window"
abbrev pub opens : ℕ → ℕ → Window → Cpu → ℕ → ℕ → World → Result
opens slot len v c i a w = done i (cleared i (fresh slot a len v c) a len w)

-- 13 also, request 7: "A window not inside the S words gets 13"
abbrev pub window_checks : List ℕ → ℕ → ℕ → Window → World → List Check
window_checks store slot len v w =
    begins store w (loaded_at w slot)
    ++ (check 13 0 (len_ok (code_of store (slot_at w.bench.slots slot)) len && inside_shared w.bench.s v)
    ∷ check 14 0 (leb (record_for w) 15)
    ∷ check 15 0 (found (gap_for w len))
    ∷ [])

-- an opening that names its window
unfoldable pub window_open_of : List ℕ → ℕ → ℕ → Window → World → Result
window_open_of store slot len v w =
    refusing (window_checks store slot len v w) w
    (opens slot len v (start_of (code_of store (slot_at w.bench.slots slot)) len) (record_for w) (place_in (gap_for w len)) w)

-- request 7: "older openings have all S words"
abbrev pub all_shared : World → Window
all_shared w = record { first = 0; len = w.bench.s }

abbrev pub open_checks : List ℕ → ℕ → ℕ → World → List Check
open_checks store slot len w = window_checks store slot len (all_shared w) w

abbrev pub open_of : List ℕ → ℕ → ℕ → World → Result
open_of store slot len w = window_open_of store slot len (all_shared w) w

-- ---- a turn: 11, 12, 16

-- the documented machine, k steps on session i's own code, the shared words of its window and its own region; and the steps done
abbrev pub ran_of : List ℕ → ℕ → ℕ → World → SessionState
ran_of store i k w = run_of k (code_at store w i) (window_at w i) (state_at w i)

abbrev pub done_of : List ℕ → ℕ → ℕ → World → ℕ
done_of store i k w = count_of k (code_at store w i) (window_at w i) (state_at w i)

-- session i in this state: its registers and kind in its record, its words in its region, and nothing else
abbrev pub put : ℕ → SessionState → World → World
put i st w =
    replaced i (at_cpu (session_at w i) (cpu_of st)) (session_at w i).base (session_at w i).len st.words w

-- 16: "a turn of more than 65,535 steps"
abbrev pub turn_checks : List ℕ → ℕ → ℕ → World → List Check
turn_checks store i k w = begins store w (open_at w i) ++ (check 16 0 (leb k 65535) ∷ [])

unfoldable pub turn_of : List ℕ → ℕ → ℕ → World → Result
turn_of store i k w =
    refusing (turn_checks store i k w) w
    (done (done_of store i k w) (put i (ran_of store i k w) w))

-- ---- closing: 11, 12

-- "Closing zeroes the region and frees region and record."
abbrev pub close_checks : List ℕ → ℕ → World → List Check
close_checks store i w = begins store w (open_at w i)

unfoldable pub close_of : List ℕ → ℕ → World → Result
close_of store i w =
    refusing (close_checks store i w) w
    (done 0 (cleared i no_session (session_at w i).base (session_at w i).len w))
