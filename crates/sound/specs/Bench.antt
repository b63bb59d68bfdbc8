-- What the bench holds, in the words of document 01. The types Slot, Session and Bench are those of the program.
-- Above: Sound, and the entries. Below: specs/Below for a session's state.
use Rattle.std.specs.Prelude.{List, true, false, ℕ, ◌+◌, get_or, take, drop}
use Rattle.basis.specs.Part.{part}
use Rattle.sound.specs.Below.{SessionState, Cpu, state_of, no_cpu}
use Rattle.sound.specs.declared.Slot.{Slot}
use Rattle.sound.specs.declared.Window.{Window}
use Rattle.sound.specs.declared.Session.{Session}
use Rattle.sound.specs.declared.Bench.{Bench}

-- "A bench has 16 segment slots and 16 session records": a slot that is not loaded, a record that is not used. All zero.
abbrev pub no_slot : Slot
no_slot = record { loaded = false; start = 0; len = 0 }

abbrev pub no_session : Session
no_session = record { used = false; slot = 0; base = 0; len = 0; window = record { first = 0; len = 0 }; cpu = no_cpu }

-- "The caller lends a code store (bytes)": those that a slot names, as many of them as there are
abbrev pub code_of : List ℕ → Slot → List ℕ
code_of store sl = take sl.len (drop sl.start store)

-- the slot of a number, and the slot that a session names; past the last, one that is not loaded
abbrev pub slot_at : List Slot → ℕ → Slot
slot_at slots i = get_or slots i no_slot

abbrev pub slot_of : List Slot → Session → Slot
slot_of slots se = slot_at slots se.slot

-- a bench with the memory that it is used with; the code store stands beside them, and no entry changes it
pub record World : Type 0 where
  pub bench : Bench
  pub mem : List ℕ

abbrev pub world_of : Bench → List ℕ → World
world_of b m = record { bench = b; mem = m }

-- session record i; past the last, one that is not used
abbrev pub session_at : World → ℕ → Session
session_at w i = get_or w.bench.sessions i no_session

-- "The first S words are shared"
abbrev pub shared_of : World → List ℕ
shared_of w = take w.bench.s w.mem

-- request 7: a window's words, among the shared words
abbrev pub window_in : Window → List ℕ → List ℕ
window_in v shared = part v.first (v.first + v.len) shared

-- the words of a session's region
abbrev pub words_of : World → Session → List ℕ
words_of w se = part se.base (se.base + se.len) w.mem

-- the code that session i runs
abbrev pub code_at : List ℕ → World → ℕ → List ℕ
code_at store w i = code_of store (slot_of w.bench.slots (session_at w i))

-- the shared words that it sees; request 7: "in demand 3 the shared words are the words of that window"
abbrev pub window_at : World → ℕ → List ℕ
window_at w i = window_in (session_at w i).window (shared_of w)

-- its state
abbrev pub state_at : World → ℕ → SessionState
state_at w i = state_of (words_of w (session_at w i)) (session_at w i).cpu

-- the record of a session that was opened on a slot, with the len words from base on and this window, at these registers
abbrev pub fresh : ℕ → ℕ → ℕ → Window → Cpu → Session
fresh slot base len v c = record { used = true; slot = slot; base = base; len = len; window = v; cpu = c }

-- a session's record at other registers: slot, region and window stay
abbrev pub at_cpu : Session → Cpu → Session
at_cpu se c = record { used = se.used; slot = se.slot; base = se.base; len = se.len; window = se.window; cpu = c }

-- and with another window: all else stays
abbrev pub at_window : Session → Window → Session
at_window se v = record { used = se.used; slot = se.slot; base = se.base; len = se.len; window = v; cpu = se.cpu }

-- the bench with other session records, and with other slots
abbrev pub at_sessions : Bench → List Session → Bench
at_sessions b l = record { n = b.n; s = b.s; slots = b.slots; sessions = l }

abbrev pub at_slots : Bench → List Slot → Bench
at_slots b l = record { n = b.n; s = b.s; slots = l; sessions = b.sessions }
