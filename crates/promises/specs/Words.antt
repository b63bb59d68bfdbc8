-- "Every other word is free or in one session's region": which words are free, and what a gap is; what an opening and a closing do,
-- word by word and record by record.
-- Above: Promises. Below: sound's World, bench's entries.
use Rattle.std.specs.Prelude.{◌≡◌, List, true, false, ℕ, ◌+◌, ◌≤◌, ◌<◌, length, get_or}
use Rattle.sound.specs.Below.{start_of}
use Rattle.sound.specs.declared.Window.{Window}
use Rattle.sound.specs.Bench.{no_session, code_of, slot_at, World, session_at, at_sessions}
use Rattle.entry.specs.Entries.{fresh}

-- word j is in the region of session i
pub record InRegion (w : World) (i j : ℕ) : Type 0 where
  pub used : (session_at w i).used ≡ true
  pub low : (session_at w i).base ≤ j
  pub high : j < (session_at w i).base + (session_at w i).len

-- word j is free: not shared, inside memory, and in no session's region
pub record Free (w : World) (j : ℕ) : Type 0 where
  pub unshared : w.bench.s ≤ j
  pub inside : j < w.bench.n
  pub nobodys : (i : ℕ) → InRegion w i j → ⊥

-- a gap of len free words, from word a on
abbrev pub GapFrom : World → ℕ → ℕ → Type 0
GapFrom w len a = (j : ℕ) → a ≤ j → j < a + len → Free w j

-- from w to v, the len words from a on become zero and no other word changes
pub record Zeroed (w v : World) (a len : ℕ) : Type 0 where
  pub zero_in : (j : ℕ) → a ≤ j → j < a + len → get_or v.mem j 0 ≡ 0
  pub same_below : (j : ℕ) → j < a → get_or v.mem j 0 ≡ get_or w.mem j 0
  pub same_above : (j : ℕ) → a + len ≤ j → get_or v.mem j 0 ≡ get_or w.mem j 0
  pub as_long : length v.mem ≡ length w.mem

-- from w to v, only session record i of the bench changes
pub record OnlyRecord (w v : World) (i : ℕ) : Type 0 where
  pub same_bench : v.bench ≡ at_sessions w.bench v.bench.sessions
  pub same_others : (j : ℕ) → (j ≡ i → ⊥) → session_at v j ≡ session_at w j

-- "Opening gives the lowest gap that fits, from word S up, and the lowest unused record, sets every word of the region to zero, and
-- starts routine 1." Request 7: its record has the window that was named
pub record Opens (store : List ℕ) (slot len : ℕ) (view : Window) (w v : World) (i : ℕ) : Type 0 where
  pub place : ℕ
  pub gap : GapFrom w len place
  pub lowest_gap : (b : ℕ) → b < place → GapFrom w len b → ⊥
  pub low : i ≤ 15
  pub unused : (session_at w i).used ≡ false
  pub lowest_record : (j : ℕ) → j < i → (session_at w j).used ≡ true
  pub made : session_at v i ≡ fresh slot place len view (start_of (code_of store (slot_at w.bench.slots slot)) len)
  pub only : OnlyRecord w v i
  pub zeroed : Zeroed w v place len

-- "Closing zeroes the region and frees region and record."
pub record Closes (w v : World) (i : ℕ) : Type 0 where
  pub freed_record : session_at v i ≡ no_session
  pub freed_words : (j : ℕ) → InRegion w i j → Free v j
  pub only : OnlyRecord w v i
  pub zeroed : Zeroed w v (session_at w i).base (session_at w i).len
