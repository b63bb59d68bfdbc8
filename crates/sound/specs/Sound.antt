-- "A bench is sound when ..": the sentence of document 01 as tests, in its order.
-- Above: `sound_test`, which decides it, and the entries, which refuse with 11 where it fails. Below: specs/Bench, and the session's ranges in
-- specs/Below.
use Rattle.std.specs.Prelude.{◌≡◌, List, [], ◌∷◌, Bool, true, ◌&&◌, ◌||◌, not, ℕ, ◌+◌, leb, eqb, length}
use Rattle.std.specs.List.{list_all}
use Rattle.basis.specs.Bools.{every}
use Rattle.basis.specs.Checks.{is_passed}
use Rattle.sound.specs.Below.{judged, cpu_ok}
use Rattle.sound.specs.declared.Slot.{Slot}
use Rattle.sound.specs.declared.Window.{Window}
use Rattle.sound.specs.declared.Session.{Session}
use Rattle.sound.specs.declared.Bench.{Bench}
use Rattle.sound.specs.Bench.{code_of, slot_of, World}

-- every element passes
abbrev pub all : {A : Type 0} → (A → Bool) → List A → Bool
all p xs = list_all p xs

-- "N at most 1,048,576"; "S at most 32,768 and at most N"
unfoldable pub limits_ok : ℕ → ℕ → Bool
limits_ok n s = every (leb n 1048576 ∷ leb s 32768 ∷ leb s n ∷ [])

-- "every loaded slot's range lies in the store and passes checks 1 to 8"
unfoldable pub slot_ok : List ℕ → Slot → Bool
slot_ok store sl =
    not sl.loaded || every (leb (sl.start + sl.len) (length store) ∷ is_passed (judged (code_of store sl)) ∷ [])

-- request 7: "A window not inside the S words gets 13, in soundness 11." So this is a window inside them; an empty one at their end is, too.
abbrev pub inside_shared : ℕ → Window → Bool
inside_shared s v = leb (v.first + v.len) s

-- "every open region lies from word S up and inside memory", and every open session's window inside the S words
unfoldable pub placed : ℕ → ℕ → Session → Bool
placed n s se = not se.used || every (leb s se.base ∷ leb (se.base + se.len) n ∷ inside_shared s se.window ∷ [])

-- "no two regions overlap (touching is allowed)"
unfoldable pub apart : Session → Session → Bool
apart a b =
    not a.used || (not b.used || (leb (a.base + a.len) b.base || leb (b.base + b.len) a.base))

abbrev pub all_apart : List Session → Bool
all_apart [] = true
all_apart (a ∷ l) = all (apart a) l && all_apart l

-- "every open session names a loaded slot, has L in 16..32,768", and 6+G, stack pointer, record pointer, counter, routine number and
-- kind are in their ranges
unfoldable pub session_ok : List ℕ → List Slot → Session → Bool
session_ok store slots se =
    not se.used
    || every
    (leb se.slot 15
    ∷ (slot_of slots se).loaded
    ∷ leb 16 se.len
    ∷ leb se.len 32768
    ∷ cpu_ok (code_of store (slot_of slots se)) se.len se.cpu
    ∷ [])

unfoldable pub sound_b : Bench → List ℕ → List ℕ → Bool
sound_b b m store =
    every
    (limits_ok b.n b.s
    ∷ eqb (length m) b.n
    ∷ all (slot_ok store) b.slots
    ∷ all (placed b.n b.s) b.sessions
    ∷ all_apart b.sessions
    ∷ all (session_ok store b.slots) b.sessions
    ∷ [])

-- a sound bench with its memory. A list in a statement has any length, so the sixteen records stand beside the test.
pub record Sound (store : List ℕ) (w : World) : Type 0 where
  pub sound : sound_b w.bench w.mem store ≡ true
  pub sixteen : length w.bench.sessions ≡ 16
