-- The promises are not empty: the entries lead from nothing to a sound bench with a ready, a finished and a faulted session, and each of them
-- takes a turn; a segment with a routine that is not linked loads; a report that ends within an instruction faults where its bytes ran out; one with a
-- pool runs in either byte sex, and its lowest stack pointer is judged; two farms' reports read their own records and no others; and refusals 1, 4, 6, 11 to
-- 17 and 23 are each given to somebody. So no runner that refuses everything, and no loader that takes everything, meets the contracts.
-- Proved as `witness` in proofs/Witness, by computing. Above: Demands. Below: bench's entries.
use Rattle.std.specs.Prelude.{◌≡◌, Bool, true, false, cond, List, [], ◌∷◌, ◌++◌, ℕ, zero, suc, ◌/◌, ◌%◌, replicate, set, take, drop}
use Rattle.machine.specs.declared.Cpu.{Cpu}
use Rattle.machine.specs.declared.Kind.TheVariants.{Ready, Finished, Faulted}
use Rattle.sound.specs.declared.Window.{Window}
use Rattle.sound.specs.Bench.{World, world_of, session_at, words_of, at_cpu, at_window, at_sessions}
use Rattle.sound.specs.Sound.{Sound}
use Rattle.turning.specs.Turn.{turned}
use Rattle.entry.specs.Entries.{new_of, loaded_at, load_of, open_of, window_open_of, turn_of, close_of}
use Rattle.archive.specs.Archive.{At, Refused as NotFound, range_answer, farm_open_of}
use Rattle.entry.specs.Answer.{Done, Refused}

-- the document's small segment but for its last two bytes: SLDC 5 and SLDC 7, or others
unfoldable pub segment : ℕ → ℕ → List ℕ
segment x y =
    0x0B ∷ 0 ∷ 0 ∷ 0 ∷ 0x50 ∷ 0x4F ∷ 0x4E ∷ 0x44 ∷ 0x20 ∷ 0x20 ∷ 0x20 ∷ 0x20 ∷ 1 ∷ 0 ∷ 0 ∷ 0
    ∷ 2 ∷ 0 ∷ 0 ∷ 0 ∷ 0 ∷ 0 ∷ 1 ∷ 0 ∷ 0x0E ∷ 0 ∷ 0x1E ∷ 0 ∷ 0 ∷ 0 ∷ x ∷ y ∷ []

-- a segment whose routine 2 is declared and not linked: its entry is 0. Routine 1 calls it (CPG 2)
unfoldable pub unlinked : List ℕ
unlinked =
    0x0B ∷ 0 ∷ 0 ∷ 0 ∷ 0x50 ∷ 0x4F ∷ 0x4E ∷ 0x44 ∷ 0x20 ∷ 0x20 ∷ 0x20 ∷ 0x20 ∷ 1 ∷ 0 ∷ 0 ∷ 0
    ∷ 2 ∷ 0 ∷ 0 ∷ 0 ∷ 0 ∷ 0 ∷ 2 ∷ 0 ∷ 0x0F ∷ 0 ∷ 0 ∷ 0 ∷ 0x20 ∷ 0 ∷ 0 ∷ 0 ∷ 145 ∷ 2 ∷ []

-- it and its turned twin, both loaded, and a session on each
unfoldable pub declared : List ℕ
declared = unlinked ++ turned unlinked

unfoldable pub linking : World
linking = (load_of declared 1 34 34 (load_of declared 0 0 34 (world_of (new_of 56 4).bench (replicate 56 0))).world).world

unfoldable pub calling : World
calling = (open_of declared 1 16 (open_of declared 0 16 linking).world).world

-- a segment that ends within LDL's operand, as in case (e), loaded, and a session on it after its turn; and the same with the place that fault 1
-- had before request 8, as a bench of that time has it
unfoldable pub short : List ℕ
short = segment 0x87 0x80

unfoldable pub ran_out : World
ran_out = (turn_of short 0 9 (open_of short 0 16 (load_of short 0 0 32 (world_of (new_of 56 4).bench (replicate 56 0))).world).world).world

unfoldable pub earlier : World
earlier =
    world_of
    (at_sessions ran_out.bench
    (set ran_out.bench.sessions 0 (at_cpu (session_at ran_out 0) (record { kind = Faulted 1 30; regs = (session_at ran_out 0).cpu.regs }))))
    ran_out.mem

-- a report with a pool, in either byte sex: LDC 2 1 2 (two words of it), SLDC 1, XJP 3 (by the table behind them, of indexes -1 to 1), and where that leads
-- SLDC 9 and RPU 0; the other arms lead to a RPU 0. The pool is words 22 to 29, and its first word is `first`.
unfoldable pub word : Bool → ℕ → List ℕ
word least v = cond least (v % 256 ∷ v / 256 ∷ []) (v / 256 ∷ v % 256 ∷ [])

unfoldable pub units : Bool → ℕ → List ℕ
units least first =
    word least 11 ++ (word least 0 ++ (0x50 ∷ 0x4F ∷ 0x4E ∷ 0x44 ∷ 0x20 ∷ 0x20 ∷ 0x20 ∷ 0x20 ∷ [] ++ (word least 1 ++ (word least 22 ++ (word least 2
    ++ (0 ∷ 0 ∷ 0 ∷ 0 ∷ [] ++ (word least 1 ++ (word least 14 ++ (word least 30 ++ (word least 0
    ++ (131 ∷ 2 ∷ 1 ∷ 2 ∷ 1 ∷ 214 ∷ 3 ∷ 150 ∷ 0 ∷ 156 ∷ 9 ∷ 150 ∷ 0 ∷ 156 ∷ []
    ++ (word least first ++ (word least 300 ++ (word least 7
    ++ (word least 65535 ++ (word least 1 ++ (word least 0 ++ (word least 0 ++ word least 3))))))))))))))))))

-- both sexes of it with no real pool, one whose real pool is its last word, and a bench with a session on each, after a turn
unfoldable pub pools : List ℕ
pools = units true 0 ++ (units false 0 ++ units true 7)

unfoldable pub reporting : World
reporting =
    (open_of pools 2 16
    (open_of pools 1 16
    (open_of pools 0 16
    (load_of pools 2 120 60 (load_of pools 1 60 60 (load_of pools 0 0 60 (world_of (new_of 56 4).bench (replicate 56 0))).world).world).world).world).world).world

unfoldable pub reported : World
reported = (turn_of pools 2 9 (turn_of pools 1 9 (turn_of pools 0 9 reporting).world).world).world

-- the first of them after three steps, which pushed three words and popped one; and the same bench with another lowest stack pointer in its record
unfoldable pub popped : World
popped = (turn_of pools 0 3 reporting).world

unfoldable pub lowest_at : ℕ → World
lowest_at x =
    let r = (session_at popped 0).cpu.regs in
    let c : Cpu = record { kind = Ready; regs = record { sp = r.sp; m = r.m; counter = r.counter; routine = r.routine; lowest = x } } in
    world_of (at_sessions popped.bench (set popped.bench.sessions 0 (at_cpu (session_at popped 0) c))) popped.mem

-- a report that reads word 3 of its window and then word 7 (LDCI, SIND0, twice), on a bench whose archive has a record of each of two farms; opened for
-- the one and for the other, for a farm between them that has none, and on all shared words, as before request 7
unfoldable pub reads : List ℕ
reads = take 30 (segment 0 0) ++ (0x81 ∷ 3 ∷ 0x80 ∷ 0x78 ∷ 0x81 ∷ 7 ∷ 0x80 ∷ 0x78 ∷ [])

unfoldable pub archived : ℕ → ℕ → World
archived a b = (load_of reads 0 0 38 (world_of (new_of 72 8).bench (a ∷ 1 ∷ 1 ∷ 17 ∷ b ∷ 1 ∷ 1 ∷ 40 ∷ replicate 64 0))).world

unfoldable pub farmed : World
farmed =
    (open_of reads 0 16 (farm_open_of reads 0 16 4 (farm_open_of reads 0 16 5 (farm_open_of reads 0 16 3 (archived 3 5)).world).world).world).world

unfoldable pub read : World
read = (turn_of reads 3 9 (turn_of reads 2 9 (turn_of reads 1 9 (turn_of reads 0 9 farmed).world).world).world).world

abbrev pub window_on : ℕ → ℕ → Window
window_on first len = record { first = first; len = len }

-- the bench with another window in record 0
unfoldable pub seeing : ℕ → ℕ → World
seeing first len =
    world_of (at_sessions farmed.bench (set farmed.bench.sessions 0 (at_window (session_at farmed 0) (window_on first len)))) farmed.mem

-- the small segment, then one that returns at once (RPU 0)
unfoldable pub store : List ℕ
store = segment 5 7 ++ segment 150 0

-- a new bench of 56 words, 4 of them shared; both segments loaded
unfoldable pub loaded : World
loaded = (load_of store 1 32 32 (load_of store 0 0 32 (world_of (new_of 56 4).bench (replicate 56 0))).world).world

-- three sessions of 16 words: 0 and 2 on the small segment, 1 on the other
unfoldable pub opened : World
opened = (open_of store 0 16 (open_of store 1 16 (open_of store 0 16 loaded).world).world).world

-- session 1 has finished, session 2 has faulted
unfoldable pub ran : World
ran = (turn_of store 2 9 (turn_of store 1 1 opened).world).world

-- so many openings of 16 words, one after another, on a new bench of 300 words
unfoldable pub openings : ℕ → World → World
openings zero w = w
openings (suc k) w = openings k (open_of store 0 16 w).world

unfoldable pub full : World
full = openings 16 (load_of store 0 0 32 (world_of (new_of 300 4).bench (replicate 300 0))).world

pub record Witness : Type 0 where
  pub sound : Sound store ran
  -- a session of every kind
  pub ready : (session_at ran 0).cpu.kind ≡ Ready
  pub finished : (session_at ran 1).cpu.kind ≡ Finished
  pub faulted : (session_at ran 2).cpu.kind ≡ Faulted 1 32
  -- and an accepted turn of each
  pub turn_ready : (turn_of store 0 2 ran).answer ≡ Done 2
  pub turn_finished : (turn_of store 1 9 ran).answer ≡ Done 0
  pub turn_faulted : (turn_of store 2 9 ran).answer ≡ Done 0
  -- the small run: "a turn of 9 returns 3"; word 15 is 5, word 14 is 7
  pub small_run : (turn_of store 2 9 opened).answer ≡ Done 3
  pub small_words : drop 14 (words_of ran (session_at ran 2)) ≡ 7 ∷ 5 ∷ []
  -- a segment with a routine that is not linked loads, and so does its twin; a call of that routine is fault 8 at its place
  pub unlinked_loads : (loaded_at linking 0 ≡ true) × (loaded_at linking 1 ≡ true)
  pub unlinked_call : (session_at (turn_of declared 0 9 calling).world 0).cpu.kind ≡ Faulted 8 32
  pub twin_call : (session_at (turn_of declared 1 9 calling).world 1).cpu.kind ≡ Faulted 8 32
  -- request 8: fault 1 at the first byte that is missing, with the counter on the instruction; and a record of the place before it is sound and stays
  pub ran_out_lem : (session_at ran_out 0).cpu.kind ≡ Faulted 1 32
  pub ran_out_counter : (session_at ran_out 0).cpu.regs.counter ≡ 30
  pub earlier_turn : (turn_of short 0 9 earlier).answer ≡ Done 0
  pub earlier_place : (session_at (turn_of short 0 9 earlier).world 0).cpu.kind ≡ Faulted 1 30
  -- request 2: in either sex the report pushes its two words, the last on top, chooses by its table and finishes; if the table's last word is the real pool's
  -- it faults with 6 at XJP, with its words as before; a first word that points at W is refused with 4, and a slot that holds one is not sound
  pub units_words : drop 13 (words_of reported (session_at reported 0)) ≡ 9 ∷ 7 ∷ 300 ∷ []
  pub twin_words : drop 13 (words_of reported (session_at reported 1)) ≡ 9 ∷ 7 ∷ 300 ∷ []
  pub units_finished : ((session_at reported 0).cpu.kind ≡ Finished) × ((session_at reported 1).cpu.kind ≡ Finished)
  pub real_pool_lem : (session_at reported 2).cpu.kind ≡ Faulted 6 35
  pub real_pool_words : drop 13 (words_of reported (session_at reported 2)) ≡ 1 ∷ 7 ∷ 300 ∷ []
  pub first_word : (load_of (pools ++ units true 8) 3 180 60 reported).answer ≡ Refused 4 0
  pub first_word_sound : (turn_of (units true 8 ++ drop 60 pools) 1 1 reported).answer ≡ Refused 11 0
  -- request 3: SP went down to 13 and came back to 14; a bench is sound with 6+G, which is 6, to SP for the lowest, and with no other number
  pub came_back : ((session_at popped 0).cpu.regs.sp ≡ 14) × ((session_at popped 0).cpu.regs.lowest ≡ 13)
  pub lowest_sound : ((turn_of pools 0 1 (lowest_at 6)).answer ≡ Done 1) × ((turn_of pools 0 1 (lowest_at 14)).answer ≡ Done 1)
  pub lowest_below : (turn_of pools 0 1 (lowest_at 5)).answer ≡ Refused 11 0
  pub lowest_above : ((turn_of pools 0 1 (lowest_at 15)).answer ≡ Refused 11 0) × ((turn_of pools 0 1 (lowest_at 18446744073709551615)).answer ≡ Refused 11 0)
  -- request 7: each farm's report reads its own concentration and faults with 6 one word past its record; a farm without records reads nothing; by
  -- the older opening a report reads both farms' words
  pub own_range : (range_answer reads 3 farmed ≡ At (window_on 0 4)) × (range_answer reads 5 farmed ≡ At (window_on 4 4)) × (range_answer reads 4 farmed ≡ At (window_on 0 0))
  pub own_records_lem : (drop 15 (words_of read (session_at read 0)) ≡ 17 ∷ []) × (drop 15 (words_of read (session_at read 1)) ≡ 40 ∷ [])
  pub no_rival : ((session_at read 0).cpu.kind ≡ Faulted 6 37) × ((session_at read 1).cpu.kind ≡ Faulted 6 37)
  pub no_records : (session_at read 2).cpu.kind ≡ Faulted 6 33
  pub all_shared_lem : drop 14 (words_of read (session_at read 3)) ≡ 40 ∷ 17 ∷ []
  -- farm numbers that fall are 23, before a bad slot and after 11; equal ones are taken
  pub falls : (range_answer reads 3 (archived 5 3) ≡ NotFound 23 0) × ((farm_open_of reads 16 16 3 (archived 5 3)).answer ≡ Refused 23 0)
  pub falls_unsound : (farm_open_of [] 16 16 3 (archived 5 3)).answer ≡ Refused 11 0
  pub equal_farms : range_answer reads 3 (archived 3 3) ≡ At (window_on 0 8)
  pub bad_slot : (farm_open_of reads 16 16 3 (archived 3 5)).answer ≡ Refused 12 0
  -- an empty window at word S is inside the shared words, one past it is 13 and in a record 11
  pub window_at_end : ((window_open_of reads 0 16 (window_on 8 0) (archived 3 5)).answer ≡ Done 0) × ((turn_of reads 0 1 (seeing 8 0)).answer ≡ Done 1)
  pub window_past : ((window_open_of reads 0 16 (window_on 9 0) (archived 3 5)).answer ≡ Refused 13 0) × ((turn_of reads 0 1 (seeing 9 0)).answer ≡ Refused 11 0)
  pub window_wraps :
      ((window_open_of reads 0 16 (window_on 4 18446744073709551615) (archived 3 5)).answer ≡ Refused 13 0) × ((turn_of reads 0 1 (seeing 18446744073709551615 1)).answer ≡ Refused 11 0)
  -- refusals; the entry that is refused with 6 is a zero of routine 1
  pub no_bench : (new_of 56 57).answer ≡ Refused 17 0
  pub not_sound : (turn_of [] 0 1 ran).answer ≡ Refused 11 0
  pub no_session_lem : (turn_of store 4000000000 1 ran).answer ≡ Refused 12 0
  pub too_many : (turn_of store 0 65536 ran).answer ≡ Refused 16 0
  pub odd_start : (load_of store 2 1 32 ran).answer ≡ Refused 17 0
  pub half_segment : (load_of store 2 0 16 ran).answer ≡ Refused 1 0
  pub bad_entry : (load_of (store ++ (take 24 (segment 5 7) ++ (0 ∷ drop 25 (segment 5 7)))) 2 64 32 ran).answer ≡ Refused 6 1
  pub too_short : (open_of store 0 15 ran).answer ≡ Refused 13 0
  pub no_record : (open_of store 0 16 full).answer ≡ Refused 14 0
  pub no_gap : (open_of store 0 16 ran).answer ≡ Refused 15 0
  -- and a closed session's words can be given again
  pub again : (open_of store 0 16 (close_of store 1 ran).world).answer ≡ Done 1
