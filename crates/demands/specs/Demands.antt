-- ALL THAT IS PROMISED, under the maintainer's three demands and in their order. Each statement is written out here, in terms of definitions alone,
-- and proofs/Demands proves the record: a theorem that is deleted or weakened anywhere below no longer fits, and the build breaks. That the code's
-- entries are these definitions is said by the functions of src/, which state every entry's contract again. docs/PROMISES.md follows this file.
use Rattle.std.specs.Prelude.{◌≡◌, ◌↔◌, ◌⊎◌, List, [], ◌∷◌, ◌++◌, map, Bool, true, false, not, ◌&&◌, ◌||◌, cond, ℕ, suc, ◌+◌, ◌*◌, ◌-◌, ◌/◌, ◌%◌, ◌≤◌, ◌<◌, min, length, get_or, set, take, drop, leb, ltb, ℤ, pos, negsuc, neg_ℤ, nat_abs, ◌+ℤ◌, ◌*ℤ◌}
use Rattle.std.specs.Int.Signed.{quot_z, rem_z, le_z}
use Rattle.basis.specs.Bools.{inside}
use Rattle.basis.specs.Integer.{integer_of}
use Rattle.basis.specs.Checks.{Check, passed, refused, ruling, passes, FirstFailing}
use Rattle.operand.specs.Bytes.{byte_at, word_by}
use Rattle.operand.specs.Operand.{Form, got, out, fetched}
use Rattle.segment.specs.Head.{words, least, word, dict, reloc, pool, real_pool, real, count, entry, datasize, exitic, start, shape_ok, sex_ok, reloc_ok, pool_ok}
use Rattle.segment.specs.Judge.{head_checks, routine_checks, checks, judged}
use Rattle.pmachine.specs.State.{Registers, Kind, faulted, State}
use Rattle.pmachine.specs.Opcode.{appendix_b, consecutive}
use Rattle.pmachine.specs.Meaning.{index}
use Rattle.pmachine.specs.Decoding.{Instruction, instruction, faulty, decode}
use Rattle.pmachine.specs.Pool.{in_pool, swaps, constants_of, on_top, lowest, highest, in_table, arm_offset}
use Rattle.pmachine.specs.Step.{fault, goes, floor, moved, lowered, case_target, judge}
use Rattle.pmachine.specs.Run.{is_ready, place_of, step, run, steps_done}
use Rattle.pmachine.specs.Sound.{in_range, opened as openedOn, Loaded}
use Rattle.plan.specs.Answer.{regs_of}
use Rattle.pmachine.specs.Pushed.{IsLdc, IsXjp, SamePool}
use Rattle.turning.specs.Turn.{framed, position, swap_at, turned, turn_ruling, output_of}
use Rattle.interleave.specs.Interleave.{By, mine, one_by_one, Below}
use Rattle.sound.specs.Below.{start_of, cpu_of, run_of, count_of}
use Rattle.sound.specs.declared.Window.{Window}
use Rattle.sound.specs.Bench.{no_session, code_of, slot_at, World, world_of, session_at, shared_of, words_of, code_at, window_at, state_at, at_cpu, at_window, at_sessions}
use Rattle.sound.specs.Sound.{limits_ok, inside_shared, sound_b, Sound}
use Rattle.entry.specs.declared.Out.{Out}
use Rattle.entry.specs.Answer.{Answer, Done, Refused, answer_ruling, Result, result_of}
use Rattle.entry.specs.Entries.{new_of, loaded_at, len_ok, record_for, open_of, window_open_of, fresh, open_at, close_of}
use Rattle.archive_records.specs.Records.{records_in, farm_at, accepted, first_fall, range_of, records_of, own_records}
use Rattle.archive.specs.Archive.{farm_open_of}
use Rattle.promises.specs.Requests.{Request, asked, checks_for}
use Rattle.promises.specs.Words.{InRegion, Free, GapFrom}
use Rattle.isolation.specs.Isolation.{Turn, after, answers_of, steps_of, reported, reports_of}
use Rattle.demands.specs.Cases.{Cases, Calls, Walks}
use Rattle.demands.specs.Arithmetic.{Leaves}
use Rattle.demands.specs.Marked.{All, marked_cases}
use Rattle.demands.specs.Witness.{Witness}

-- ---- words and records after an opening or a closing: from w to v, the len words from a on become zero, no other word changes, and only
-- session record i of the bench changes

pub record OnlyThere (w v : World) (i a len : ℕ) : Type 0 where
  pub zero_in : (j : ℕ) → a ≤ j → j < a + len → get_or v.mem j 0 ≡ 0
  pub same_below : (j : ℕ) → j < a → get_or v.mem j 0 ≡ get_or w.mem j 0
  pub same_above : (j : ℕ) → a + len ≤ j → get_or v.mem j 0 ≡ get_or w.mem j 0
  pub as_long : length v.mem ≡ length w.mem
  pub same_bench : v.bench ≡ at_sessions w.bench v.bench.sessions
  pub same_others : (j : ℕ) → (j ≡ i → ⊥) → session_at v j ≡ session_at w j

-- "Opening gives the lowest gap that fits, from word S up, and the lowest unused record, sets every word of the region to zero, and
-- starts routine 1." Request 7: its record has the window that was named
pub record Opened (store : List ℕ) (slot len : ℕ) (view : Window) (w v : World) (i : ℕ) : Type 0 where
  pub place : ℕ
  pub gap : GapFrom w len place
  pub lowest_gap : (b : ℕ) → b < place → GapFrom w len b → ⊥
  pub low : i ≤ 15
  pub unused : (session_at w i).used ≡ false
  pub lowest_record : (j : ℕ) → j < i → (session_at w j).used ≡ true
  pub made : session_at v i ≡ fresh slot place len view (start_of (code_of store (slot_at w.bench.slots slot)) len)
  pub only : OnlyThere w v i place len

-- "Closing zeroes the region and frees region and record."
pub record Closed (w v : World) (i : ℕ) : Type 0 where
  pub freed_record : session_at v i ≡ no_session
  pub freed_words : (j : ℕ) → InRegion w i j → Free v j
  pub only : OnlyThere w v i (session_at w i).base (session_at w i).len

-- ---- what LDC leaves, from a state t in u

pub record StackThen (s : List ℕ) (mode b n next : ℕ) (t u : State) : Type 0 where
  pub stack : drop u.registers.sp u.words ≡ on_top (constants_of s mode b n) ++ drop t.registers.sp t.words
  pub below : take u.registers.sp u.words ≡ take u.registers.sp t.words
  pub count : u.registers.sp + n ≡ t.registers.sp
  pub registers : u.registers ≡ lowered (moved t.registers (t.registers.sp - n) next)

-- ---- the lowest stack pointer after k steps from a state t

-- SP was x after some step, the first to the k-th, after which the session went on
pub record CameTo (s shared : List ℕ) (k : ℕ) (t : State) (x : ℕ) : Type 0 where
  pub steps : ℕ
  pub some : 1 ≤ steps
  pub most : steps ≤ k
  pub went_on : is_ready (run s shared steps t).kind ≡ true
  pub there : (run s shared steps t).registers.sp ≡ x

-- the least of the number before and of those SP: no greater than any, and one of them
pub record LeastOf (s shared : List ℕ) (k : ℕ) (t : State) : Type 0 where
  pub before : (run s shared k t).registers.lowest ≤ t.registers.lowest
  pub each : (x : ℕ) → CameTo s shared k t x → (run s shared k t).registers.lowest ≤ x
  pub one : ((run s shared k t).registers.lowest ≡ t.registers.lowest) ⊎ CameTo s shared k t (run s shared k t).registers.lowest

-- the least of SP in t and of SP after every step up to the k-th
pub record LeastOfAll (s shared : List ℕ) (k : ℕ) (t : State) : Type 0 where
  pub each : (j : ℕ) → j ≤ k → (run s shared k t).registers.lowest ≤ (run s shared j t).registers.sp
  pub steps : ℕ
  pub most : steps ≤ k
  pub there : (run s shared steps t).registers.sp ≡ (run s shared k t).registers.lowest

-- ---- t is s in the other byte sex

pub record OtherSex (s t : List ℕ) : Type 0 where
  -- swapped at each word position, copied elsewhere
  pub size : length t ≡ length s
  pub lows : (w : ℕ) → position s w ≡ true → byte_at t (2 * w) ≡ byte_at s (2 * w + 1)
  pub highs : (w : ℕ) → position s w ≡ true → byte_at t (2 * w + 1) ≡ byte_at s (2 * w)
  pub others : (i : ℕ) → position s (i / 2) ≡ false → byte_at t i ≡ byte_at s i
  -- "reads with the same header numbers and routines"
  pub sex : least t ≡ not (least s)
  pub same_dict : dict t ≡ dict s
  pub same_reloc : reloc t ≡ reloc s
  pub same_pool : pool t ≡ pool s
  pub same_real_pool : real_pool t ≡ real_pool s
  pub same_real : real t ≡ real s
  pub same_reserved : (word t 9 ≡ word s 9) × (word t 10 ≡ word s 10)
  pub same_count : count t ≡ count s
  pub same_entry : (k : ℕ) → 1 ≤ k → k ≤ count s → entry t k ≡ entry s k
  pub same_datasize : (k : ℕ) → 1 ≤ k → k ≤ count s → datasize t k ≡ datasize s k
  pub same_exitic : (k : ℕ) → 1 ≤ k → k ≤ count s → exitic t k ≡ exitic s k
  pub same_start : (k : ℕ) → 1 ≤ k → k ≤ count s → start t k ≡ start s k
  pub same_positions : (w : ℕ) → position t w ≡ position s w
  pub same_verdict : judged t ≡ judged s
  -- "turned twice gives its first bytes"
  pub twice : turned t ≡ s

-- ---- session i after the turns ts: what the documented machine makes of its own state, on its own region, its own code and the shared words of its
-- window, in as many steps as its own turns come to

pub record OnItsOwn (store : List ℕ) (ts : List Turn) (w : World) (i : ℕ) : Type 0 where
  pub words : words_of (after store ts w) (session_at w i) ≡ (run_of (steps_of (mine i ts)) (code_at store w i) (window_at w i) (state_at w i)).words
  pub registers : session_at (after store ts w) i ≡ at_cpu (session_at w i) (cpu_of (run_of (steps_of (mine i ts)) (code_at store w i) (window_at w i) (state_at w i)))
  pub answers : mine i (answers_of store ts w) ≡ reports_of (code_at store w i) (window_at w i) (mine i ts) (state_at w i)
  pub counts : reported (mine i (answers_of store ts w)) ≡ count_of (steps_of (mine i ts)) (code_at store w i) (window_at w i) (state_at w i)

-- ---- session i after the turns ts, from a world in which it has just been opened: the lowest stack pointer of its record is the least SP that the
-- documented machine gives it, from the opening on to after the last step of its own turns, and it had that SP

pub record LowestSince (store : List ℕ) (ts : List Turn) (w : World) (i : ℕ) : Type 0 where
  pub each :
      (k : ℕ) → k ≤ steps_of (mine i ts)
      → (session_at (after store ts w) i).cpu.regs.lowest ≤ (run_of k (code_at store w i) (window_at w i) (state_at w i)).cpu.regs.sp
  pub steps : ℕ
  pub most : steps ≤ steps_of (mine i ts)
  pub there : (run_of steps (code_at store w i) (window_at w i) (state_at w i)).cpu.regs.sp ≡ (session_at (after store ts w) i).cpu.regs.lowest

-- session i of one world and session j of another: both are open, and agree on registers, kind, region, code and the words of their windows. Record
-- numbers, slots, places in memory and of the windows, S, all other shared words, the memories' sizes and all that other sessions hold may differ.
pub record Alike (store : List ℕ) (w : World) (i : ℕ) (store' : List ℕ) (w' : World) (j : ℕ) : Type 0 where
  pub open_here : (session_at w i).used ≡ true
  pub open_there : (session_at w' j).used ≡ true
  pub cpu : (session_at w i).cpu ≡ (session_at w' j).cpu
  pub words : words_of w (session_at w i) ≡ words_of w' (session_at w' j)
  pub code : code_at store w i ≡ code_at store' w' j
  pub window : window_at w i ≡ window_at w' j

-- session i of one world and session j of another, both on the range of a farm, with the same records of that farm: alike besides in registers, kind,
-- region and code. Every other record of the archives, S, where the farm's records begin, and all that other sessions hold may differ.
pub record OfFarm (farm : ℕ) (store : List ℕ) (w : World) (i : ℕ) (store' : List ℕ) (w' : World) (j : ℕ) : Type 0 where
  pub open_here : (session_at w i).used ≡ true
  pub open_there : (session_at w' j).used ≡ true
  pub range_here : (session_at w i).window ≡ range_of (shared_of w) farm
  pub range_there : (session_at w' j).window ≡ range_of (shared_of w') farm
  pub records : records_of (shared_of w) farm ≡ records_of (shared_of w') farm
  pub cpu : (session_at w i).cpu ≡ (session_at w' j).cpu
  pub words : words_of w (session_at w i) ≡ words_of w' (session_at w' j)
  pub code : code_at store w i ≡ code_at store' w' j

-- what such a session answers to its turns, and how it ends
pub record NoOtherFarm (farm : ℕ) (store store' : List ℕ) (ts us : List Turn) (w w' : World) (i j : ℕ) : Type 0 where
  pub answers : mine i (answers_of store ts w) ≡ mine j (answers_of store' us w')
  pub ends : OfFarm farm store (after store ts w) i store' (after store' us w') j

-- the first record of an archive that falls, of the records 1 to n - 1
pub record FirstFall (a : List ℕ) (r : ℕ) : Type 0 where
  pub some : 1 ≤ r
  pub last : r < records_in a
  pub falls : farm_at a r < farm_at a (r - 1)
  pub first : (q : ℕ) → q + 1 < r → farm_at a q ≤ farm_at a (q + 1)

pub record Demands : Type 0 where
  -- ======== 1: "Any bytes, any numbers, any bench may be handed to any entry point. It ends, and either does the work or gives one numbered
  -- refusal, with every lent word and byte unchanged."

  -- "Given exactly when": a refusal is that of the first check, in the order, that fails; nothing is refused exactly when every check passes
  pub refuses_exactly : (cs : List Check) (n p : ℕ) → (ruling cs ≡ refused n p) ↔ FirstFailing cs n p
  pub accepts_exactly : (cs : List Check) → (ruling cs ≡ passed) ↔ (passes cs ≡ true)
  -- so for segments, for turning, and for every request to a bench: number and place of the answer are the ruling of its checks
  pub judged_by_lem : (s : List ℕ) → judged s ≡ ruling (checks s)
  -- request 1: "An entry of zero is lawful for every routine but routine 1; it has no word positions and no checks 6 to 8." "Routine 1 at zero still
  -- gets 6"; and request 14: "A zero entry counts as start, DATASIZE and EXITIC 0."
  pub unlinked_checks : (s : List ℕ) (k : ℕ) → (routine_checks s k ≡ []) ↔ ((entry s k ≡ 0) × (k ≡ 1 → ⊥))
  pub unlinked_first : (s : List ℕ) → entry s 1 ≡ 0 → ruling (head_checks s) ≡ passed → judged s ≡ refused 6 1
  pub unlinked_words : (s : List ℕ) (k w : ℕ) → entry s (suc k) ≡ 0 → framed s (suc k) w ≡ framed s k w
  pub unlinked_numbers : (s : List ℕ) (k : ℕ) → entry s k ≡ 0 → (datasize s k ≡ 0) × (exitic s k ≡ 0) × (start s k ≡ 0)
  -- request 2: "The pool's first word must be 0 or point inside the pool (which ends at W), else refusal 4": check 4, behind 1 to 3 and before all others
  pub pool_check : (s : List ℕ) → (pool_ok s ≡ true) ↔ ((pool s ≡ 0) ⊎ ((11 ≤ pool s) × (pool s + word s (pool s) < words s)))
  pub pool_refused : (s : List ℕ) → shape_ok s ≡ true → sex_ok s ≡ true → reloc_ok s ≡ true → pool_ok s ≡ false → judged s ≡ refused 4 0
  pub turned_by : (s : List ℕ) (room n p : ℕ) → judged s ≡ refused n p → turn_ruling s room ≡ refused n p
  pub turned_nine : (s : List ℕ) (room : ℕ) → judged s ≡ passed → (pool s ≡ 0 → ⊥) → turn_ruling s room ≡ refused 9 0
  pub turned_ten : (s : List ℕ) (room : ℕ) → judged s ≡ passed → pool s ≡ 0 → room < length s → turn_ruling s room ≡ refused 10 0
  pub turned_passed : (s : List ℕ) (room : ℕ) → judged s ≡ passed → pool s ≡ 0 → length s ≤ room → turn_ruling s room ≡ passed
  pub answers : (store : List ℕ) (q : Request) (w : World) → answer_ruling (asked store q w).answer ≡ ruling (checks_for store q w)
  pub new_answers : (n s : ℕ) → (answer_ruling (new_of n s).answer ≡ refused 17 0) ↔ (limits_ok n s ≡ false)
  -- a refusal changes nothing, whatever the bench, sound or not; "Turning writes the first 2W output bytes and no others", and none if it refuses
  pub unchanged : (store : List ℕ) (q : Request) (w : World) (n p : ℕ) → answer_ruling (asked store q w).answer ≡ refused n p → (asked store q w).world ≡ w
  pub output_unchanged : (s o : List ℕ) (n p : ℕ) → turn_ruling s (length o) ≡ refused n p → output_of s o ≡ o
  pub output_size : (s o : List ℕ) → length (output_of s o) ≡ length o
  pub output_first : (s o : List ℕ) → turn_ruling s (length o) ≡ passed → take (length s) (output_of s o) ≡ turned s
  pub output_rest : (s o : List ℕ) → drop (length s) (output_of s o) ≡ drop (length s) o
  -- a new bench is sound for every memory of its size and every store, and every request leads from a sound bench to a sound bench
  pub new_sound : (store m : List ℕ) (n s : ℕ) → answer_ruling (new_of n s).answer ≡ passed → length m ≡ n → Sound store (world_of (new_of n s).bench m)
  pub stays_sound : (store : List ℕ) (q : Request) (w : World) → Sound store w → Sound store (asked store q w).world
  -- if 11 to 14 do not apply: refusal 15 exactly when there is no gap of L free words; else the session is opened
  pub fifteen :
      (store : List ℕ) (w : World) (slot len : ℕ) (v : Window) → Sound store w → loaded_at w slot ≡ true
      → len_ok (code_of store (slot_at w.bench.slots slot)) len ≡ true → inside_shared w.bench.s v ≡ true → record_for w ≤ 15
      → (answer_ruling (window_open_of store slot len v w).answer ≡ refused 15 0) ↔ ((a : ℕ) → GapFrom w len a → ⊥)
  pub opened :
      (store : List ℕ) (w : World) (slot len : ℕ) (v : Window) (i : ℕ) → Sound store w → (window_open_of store slot len v w).answer ≡ Done i
      → Opened store slot len v w (window_open_of store slot len v w).world i
  -- request 7: "older openings have all S words. A window not inside the S words gets 13, in soundness 11": of an open session exactly the windows
  -- inside them are sound
  pub older_opening : (store : List ℕ) (w : World) (slot len : ℕ) → open_of store slot len w ≡ window_open_of store slot len (record { first = 0; len = w.bench.s }) w
  pub window_refused :
      (store : List ℕ) (w : World) (slot len : ℕ) (v : Window) → Sound store w → loaded_at w slot ≡ true → w.bench.s < v.first + v.len
      → answer_ruling (window_open_of store slot len v w).answer ≡ refused 13 0
  pub window_sound :
      (store : List ℕ) (w : World) (i : ℕ) (v : Window) → Sound store w → (session_at w i).used ≡ true
      → (sound_b (at_sessions w.bench (set w.bench.sessions i (at_window (session_at w i) v))) w.mem store ≡ true) ↔ (v.first + v.len ≤ w.bench.s)
  -- "It is accepted exactly if S is a multiple of 4 and farm numbers never fall from one record to the next"; where they do, the record that the
  -- maintainer is shown is the first that falls
  pub archive_accepted :
      (a : List ℕ) → (accepted a ≡ true) ↔ ((length a % 4 ≡ 0) × ((r : ℕ) → r + 1 < records_in a → farm_at a r ≤ farm_at a (r + 1)))
  pub archive_falls : (a : List ℕ) → length a % 4 ≡ 0 → accepted a ≡ false → FirstFall a (first_fall a (records_in a - 1))
  -- "Given a farm, the crate finds its records as one range": all of them and only they lie in it
  pub all_and_only :
      (a : List ℕ) (farm : ℕ) → accepted a ≡ true → (r : ℕ) → r < records_in a
      → (farm_at a r ≡ farm) ↔ (((range_of a farm).first ≤ 4 * r) × (4 * r < (range_of a farm).first + (range_of a farm).len))
  -- so its words are the farm's records, one after another
  pub range_words : (a : List ℕ) (farm : ℕ) → accepted a ≡ true → records_of a farm ≡ own_records a farm (records_in a)
  -- "empty at word 0 if there are none"; and it lies in the archive
  pub range_empty :
      (a : List ℕ) (farm : ℕ) → ((r : ℕ) → r < records_in a → farm_at a r ≡ farm → ⊥) → range_of a farm ≡ record { first = 0; len = 0 }
  pub range_inside : (a : List ℕ) (farm : ℕ) → (range_of a farm).first + (range_of a farm).len ≤ length a
  -- "and opens a session that sees only that range": an opening for a farm that is done is the opening on that range
  pub farm_opened :
      (store : List ℕ) (w : World) (slot len farm i : ℕ) → Sound store w → (farm_open_of store slot len farm w).answer ≡ Done i
      → (accepted (shared_of w) ≡ true) × Opened store slot len (range_of (shared_of w) farm) w (farm_open_of store slot len farm w).world i
  -- an open session is closed
  pub closed :
      (store : List ℕ) (w : World) (i : ℕ) → Sound store w → open_at w i ≡ true
      → ((close_of store i w).answer ≡ Done 0) × Closed w (close_of store i w).world i
  -- "Answers allowed by the same contract are shown equal": answer, bench and memory
  pub one_answer : (r r' : Out) (m m' : List ℕ) (x : Result) → result_of r m ≡ x → result_of r' m' ≡ x → (r ≡ r') × (m ≡ m')
  -- an operand that is there has one byte or two and ends inside the segment; of one that is not, the place is the first byte past the end
  pub operand_there : (f : Form) (s : List ℕ) (at v n : ℕ) → fetched f s at ≡ got v n → (at < n) × (n ≤ at + 2) × (n ≤ length s)
  pub operand_cut : (f : Form) (s : List ℕ) (at p : ℕ) → fetched f s at ≡ out p → at ≤ length s → p ≡ length s
  -- none of this is empty: a bench with a session of every kind, an accepted turn of each, two farms on their own records, and every refusal 11 to 17 and 23
  pub witness : Witness
  -- ======== 2: "Each step is the transition of the documented p-machine, or the one fault that document 01 names for it, with that session's
  -- words and registers as before the step." The machine is the definition of `pmachine`; that the code's turn is its run is the contract of `turn`.

  -- the lines of appendix B stand in the order of the numbers, none left out and none twice
  pub lines_in_order : consecutive 0 appendix_b ≡ true
  -- "The quotient is cut towards zero and the remainder takes the dividend's sign."
  pub division : (z d : ℤ) → quot_z z d *ℤ d +ℤ rem_z z d ≡ z
  pub remainder_smaller : (z d : ℤ) → 0 < nat_abs d → nat_abs (rem_z z d) < nat_abs d
  pub remainder_sign :
      (a : ℕ) (d : ℤ) → (rem_z (pos a) d ≡ pos (nat_abs (rem_z (pos a) d))) × (rem_z (negsuc a) d ≡ neg_ℤ (pos (nat_abs (rem_z (negsuc a) d))))
  -- "Only the session's kind changes": a step that faults or finishes leaves words and registers
  pub step_kept :
      (s shared : List ℕ) (t : State) → is_ready t.kind ≡ true → is_ready (step s shared t).kind ≡ false
      → ((step s shared t).words ≡ t.words) × ((step s shared t).registers ≡ t.registers)
  -- request 8, "Say where the bytes ran out": a step faults with n at p exactly if n is the fault that is judged, and p its place
  pub fault_place :
      (s shared : List ℕ) (t : State) (n p : ℕ) → is_ready t.kind ≡ true
      → ((step s shared t).kind ≡ faulted n p) ↔ ((judge s shared t.words t.registers ≡ fault n) × (p ≡ place_of s n t.registers.counter))
  -- 1 is given exactly if the decoder gives it
  pub fault_one : (s shared w : List ℕ) (r : Registers) → (judge s shared w r ≡ fault 1) ↔ (decode s r.counter ≡ faulty 1)
  -- fault 1 carries "the offset of the first byte it could not fetch": that byte is not there, and those before it, from the instruction's first on, are
  pub first_missing :
      (s : List ℕ) (at : ℕ) → 22 ≤ at → decode s at ≡ faulty 1
      → (at ≤ place_of s 1 at) × (length s ≤ place_of s 1 at) × ((i : ℕ) → at ≤ i → i < place_of s 1 at → i < length s)
  -- "A first byte out of range gives the same place as before. All other faults keep theirs." And in a session that soundness allows it is 2W
  pub place_outside : (s : List ℕ) (n at : ℕ) → inside 22 (length s) at ≡ false → place_of s n at ≡ at
  pub place_others : (s : List ℕ) (n at : ℕ) → (n ≡ 1 → ⊥) → place_of s n at ≡ at
  pub place_at_end :
      (s shared : List ℕ) (l : ℕ) → Loaded s → (k : ℕ) (t : State) → length t.words ≡ l → in_range s l t.registers t.kind ≡ true
      → is_ready t.kind ≡ true → (p : ℕ) → (run s shared k t).kind ≡ faulted 1 p → p ≡ 2 * words s
  -- request 2, "Constants and case tables". LDC with these operands at the counter: 6 exactly if its words cannot be read, 4 exactly if they can and the stack
  -- has no room; else the words are written below the old top
  pub ldc_judged :
      (s shared w : List ℕ) (r : Registers) (mode b n next : ℕ) → r.sp ≤ length w → IsLdc s r.counter mode b n next
      → judge s shared w r
      ≡ cond (in_pool s b n)
      (cond (leb (floor s + n) r.sp) (goes (lowered (moved r (r.sp - n) next)) (r.sp - n) (on_top (constants_of s mode b n))) (fault 4))
      (fault 6)
  -- XJP: 3 exactly if there is no index, 6 exactly if W1 and W2 cannot be read or the word of an index in range, "a case target outside 22..2W-1
  -- gives fault 7", and an index out of range goes on
  pub xjp_judged :
      (s shared w : List ℕ) (r : Registers) (b next : ℕ) → floor s ≤ r.sp → IsXjp s r.counter b next
      → judge s shared w r
      ≡ cond (ltb (length w) (r.sp + 1)) (fault 3)
      (cond (in_pool s b 2)
      (cond (in_table s b (get_or w r.sp 0))
      (cond (in_pool s (arm_offset s b (get_or w r.sp 0)) 1)
      (cond (inside 22 (length s) (case_target s b next (get_or w r.sp 0)))
      (goes (lowered (moved r (r.sp + 1) (case_target s b next (get_or w r.sp 0)))) (r.sp + 1) [])
      (fault 7))
      (fault 6))
      (goes (lowered (moved r (r.sp + 1) next)) (r.sp + 1) []))
      (fault 6))
  -- "in the range W1 through W2", as integers
  pub in_range_lem :
      (s : List ℕ) (b i : ℕ)
      → in_table s b i ≡ (le_z (integer_of 16 (lowest s b)) (integer_of 16 i) && le_z (integer_of 16 i) (integer_of 16 (highest s b)))
  -- the index's word of the table is so many words behind the first as the index is above W1, as integers
  pub arm_offset_lem :
      (s : List ℕ) (b i k : ℕ) → i < 65536 → lowest s b < 65536 → in_table s b i ≡ true → arm_offset s b i ≡ b + 2 + k
      → integer_of 16 (lowest s b) +ℤ pos k ≡ integer_of 16 i
  -- "Show once, over the count of words, what the stack then holds": for every n, after LDC that does not fault the stack, read from SP upward, is
  -- the n words in the order that `on_top` fixes and then the old stack; every word below is as it was; only SP, by n, and the counter moved
  pub stack_holds :
      (s shared : List ℕ) (t : State) (mode b n next : ℕ) → t.registers.sp ≤ length t.words → IsLdc s t.registers.counter mode b n next
      → is_ready t.kind ≡ true → is_ready (step s shared t).kind ≡ true → StackThen s mode b n next t (step s shared t)
  -- that order, word by word: the last word of the block is on top; each is read least byte first, unless the mode is 2 and the segment most byte first
  pub stack_order :
      (s : List ℕ) (mode b n i : ℕ) → i < n → get_or (on_top (constants_of s mode b n)) i 0 ≡ word_by (not (swaps s mode)) s (pool s + b + (n - suc i))
  -- every word that either instruction may read lies in the pool and below the real pool; and no other is read: two segments that agree in those words, in
  -- their header numbers and in the instruction are judged alike
  pub pool_words :
      (s : List ℕ) → Loaded s → (b n i : ℕ) → in_pool s b n ≡ true → i < n
      → (1 ≤ pool s) × (pool s + b + i < real_pool s) × (real_pool s ≤ words s)
  pub ldc_reads :
      (s t shared w : List ℕ) (r : Registers) (mode b n next : ℕ) → r.sp ≤ length w → SamePool s t
      → IsLdc s r.counter mode b n next → IsLdc t r.counter mode b n next → judge t shared w r ≡ judge s shared w r
  pub xjp_reads :
      (s t shared w : List ℕ) (r : Registers) (b next : ℕ) → floor s ≤ r.sp → SamePool s t
      → IsXjp s r.counter b next → IsXjp t r.counter b next → judge t shared w r ≡ judge s shared w r
  -- request 3, "The session record shall keep the lowest stack pointer reached since opening [..]. A step that faults doesn't move it": of a step from any
  -- state, the lesser of the number before and of SP after it if the session goes on, else the number before
  pub step_lowest :
      (s shared : List ℕ) (t : State) → is_ready t.kind ≡ true
      → (is_ready (step s shared t).kind ≡ true
      → (step s shared t).registers.lowest ≡ min t.registers.lowest (step s shared t).registers.sp)
      × (is_ready (step s shared t).kind ≡ false → (step s shared t).registers.lowest ≡ t.registers.lowest)
  -- of k steps from any state: no greater than the number before, nor than SP after any step that went on, and one of them. "L at the start": from an
  -- opening it is the least SP that there was
  pub run_lowest : (s shared : List ℕ) (k : ℕ) (t : State) → LeastOf s shared k t
  pub opening_lowest : (s shared : List ℕ) (l k : ℕ) → ((openedOn s l).registers.lowest ≡ l) × LeastOfAll s shared k (openedOn s l)
  -- "A sound bench now also has this mark in 6+G..SP": in a sound session's registers exactly the numbers there are sound
  pub sound_lowest :
      (s : List ℕ) (l : ℕ) (r : Registers) (k : Kind) (x : ℕ) → in_range s l r k ≡ true
      → (in_range s l (record { sp = r.sp; m = r.m; counter = r.counter; routine = r.routine; lowest = x }) k ≡ true) ↔ ((floor s ≤ x) × (x ≤ r.sp))
  -- request 7, "Document 01's address rule reads with the window": on a sound bench, of an indexed read at 32,768 or above, word j of the window is word
  -- first + j of the memory, for j below its number of words, and everything else is fault 6
  pub window_read :
      (store : List ℕ) (w : World) (i n next x : ℕ) → Sound store w → (session_at w i).used ≡ true
      → decode (code_at store w i) (session_at w i).cpu.regs.counter ≡ instruction (record { does = index n; taken = 1; given = 1; next = next })
      → (session_at w i).cpu.regs.sp < (session_at w i).len → x ≡ get_or (words_of w (session_at w i)) (session_at w i).cpu.regs.sp 0 → 32768 ≤ x + n
      → judge (code_at store w i) (window_at w i) (words_of w (session_at w i)) (regs_of (session_at w i).cpu.regs)
      ≡ cond (leb 1 x && ltb (x + n) (32768 + (session_at w i).window.len))
      (goes (lowered (moved (regs_of (session_at w i).cpu.regs) (session_at w i).cpu.regs.sp next)) (session_at w i).cpu.regs.sp
      (get_or w.mem ((session_at w i).window.first + (x + n - 32768)) 0 ∷ []))
      (fault 6)
  -- and nothing else reads a shared word: a step that is no indexed read, or one below 32,768, is judged alike with any shared words
  pub window_only :
      (s shared shared' w : List ℕ) (r : Registers)
      → ((d : Instruction) (n : ℕ) → decode s r.counter ≡ instruction d → d.does ≡ index n → get_or w r.sp 0 + n < 32768)
      → judge s shared w r ≡ judge s shared' w r
  -- a step, and a turn, keep what soundness says of a session
  pub step_keeps :
      (s shared : List ℕ) (l : ℕ) → Loaded s → (t : State) → length t.words ≡ l → in_range s l t.registers t.kind ≡ true
      → in_range s l (step s shared t).registers (step s shared t).kind ≡ true
  pub run_keeps :
      (s shared : List ℕ) (l : ℕ) → Loaded s → (k : ℕ) (t : State) → length t.words ≡ l → in_range s l t.registers t.kind ≡ true
      → in_range s l (run s shared k t).registers (run s shared k t).kind ≡ true
  -- a steps and then b steps are a + b steps, and the steps done add up; they are at most k, and k if the session is still ready
  pub run_add : (s shared : List ℕ) (a b : ℕ) (t : State) → run s shared (a + b) t ≡ run s shared b (run s shared a t)
  pub count_add :
      (s shared : List ℕ) (a b : ℕ) (t : State) → steps_done s shared (a + b) t ≡ steps_done s shared a t + steps_done s shared b (run s shared a t)
  pub count_most : (s shared : List ℕ) (k : ℕ) (t : State) → steps_done s shared k t ≤ k
  pub count_all : (s shared : List ℕ) (k : ℕ) (t : State) → is_ready (run s shared k t).kind ≡ true → steps_done s shared k t ≡ k
  -- what a wrong line of appendix B would break, also if the code were wrong in the same way; and the marked cases (a) to (l)
  pub cases : (s shared w : List ℕ) (r : Registers) → Cases s shared w r
  pub calls : Calls
  pub walks : (w : List ℕ) (m : ℕ) → Walks w m
  pub arithmetic : (x y : ℕ) → x ≤ 31 → y ≤ 31 → Leaves x y
  pub marked : All marked_cases
  -- "A segment without a constant pool, turned to the other byte sex, reads with the same header numbers and routines, and the same
  -- code outside those words, and turned twice gives its first bytes."

  pub other_sex : (s : List ℕ) → judged s ≡ passed → pool s ≡ 0 → OtherSex s (turned s)
  -- of the entry itself: turned into an output of its own length, and that turned into another
  pub turns_back :
      (s a b : List ℕ) → turn_ruling s (length a) ≡ passed → length a ≡ length s → length b ≡ length s
      → (turn_ruling (output_of s a) (length b) ≡ passed) × (output_of (output_of s a) b ≡ s)
  -- "once, even if two rules name it"
  pub once : (p q : ℕ → Bool) (s o : List ℕ) → swap_at q s (swap_at p s o) ≡ swap_at (λ w. p w || q w) s o
  -- ======== 3: "Take a sound bench and any accepted turns, with no opening, closing or loading between them, and memory and code touched by
  -- nobody else." That is what `after` says: each turn begins with the world that the one before it left. Refused turns may be among them.

  pub turns_stay_sound : (store : List ℕ) (ts : List Turn) (w : World) → Sound store w → Sound store (after store ts w)
  -- "read-only shared words"
  pub shared_kept : (store : List ℕ) (ts : List Turn) (w : World) → Sound store w → shared_of (after store ts w) ≡ shared_of w
  pub in_turn : (store : List ℕ) (ts : List Turn) (w : World) → map (λ (a : By Answer). a.who) (answers_of store ts w) ≡ map (λ (t : Turn). t.who) ts
  -- "The end is the same as when each session takes its own turns alone, one session after another": session 0's, then session 1's, up to
  -- session n - 1 (16 sessions, or more numbers if some are asked for, which are refused); and so are the answers
  pub one_after_another : (store : List ℕ) (n : ℕ) (ts : List Turn) (w : World) → Sound store w → Below n ts → after store ts w ≡ after store (one_by_one n ts) w
  pub one_after_another_answers :
      (store : List ℕ) (n : ℕ) (ts : List Turn) (w : World) → Sound store w → Below n ts
      → (i : ℕ) → mine i (answers_of store ts w) ≡ mine i (answers_of store (one_by_one n ts) w)
  -- in any order: two lists with the same turns of each session, in each session's order
  pub in_any_order :
      (store : List ℕ) (ts us : List Turn) (w : World) → Sound store w → ((i : ℕ) → mine i ts ≡ mine i us) → after store ts w ≡ after store us w
  pub same_answers :
      (store : List ℕ) (ts us : List Turn) (w : World) → Sound store w → ((i : ℕ) → mine i ts ≡ mine i us)
      → (i : ℕ) → mine i (answers_of store ts w) ≡ mine i (answers_of store us w)
  -- "each session's words, registers, kind and step counts are those of the documented machine run on its own region, its own code and the
  -- read-only shared words"; request 7, "in demand 3 the shared words are the words of that window"
  pub on_its_own : (store : List ℕ) (ts : List Turn) (w : World) → Sound store w → (i : ℕ) → (session_at w i).used ≡ true → OnItsOwn store ts w i
  -- "Demand 3 counts it among the registers": it is among those of `on_its_own`. So, of a session that was opened on a sound bench, after any turns of
  -- any sessions, it is the least SP that its own steps reached
  pub lowest_since :
      (store : List ℕ) (w : World) (slot len : ℕ) (v : Window) (i : ℕ) (ts : List Turn) → Sound store w → (window_open_of store slot len v w).answer ≡ Done i
      → LowestSince store ts (window_open_of store slot len v w).world i
  pub not_open :
      (store : List ℕ) (ts : List Turn) (w : World) → Sound store w → (i : ℕ) → (session_at w i).used ≡ false
      → mine i (answers_of store ts w) ≡ map (λ (k : ℕ). Refused 12 0) (mine i ts)
  -- sessions that are alike, and take the same turns, have the same answers and are alike at the end, whatever the others hold and do
  pub two_runs :
      (store store' : List ℕ) (ts us : List Turn) (w w' : World) (i j : ℕ) → Sound store w → Sound store' w' → mine i ts ≡ mine j us
      → Alike store w i store' w' j → mine i (answers_of store ts w) ≡ mine j (answers_of store' us w')
  pub two_ends :
      (store store' : List ℕ) (ts us : List Turn) (w w' : World) (i j : ℕ) → Sound store w → Sound store' w' → mine i ts ≡ mine j us
      → Alike store w i store' w' j → Alike store (after store ts w) i store' (after store' us w') j
  -- request 7, "Changing any other farm's records changes no answer of a session on that window, so long as the archive is accepted and the farm's range
  -- begins at the same place with the same words": two sound benches with the same records of a farm, wherever these begin, and anything in all other
  -- records, in S and in every other session; sessions on the farm's range that stand alike have the same answers to the same turns, and end alike
  pub other_farms :
      (farm : ℕ) (store store' : List ℕ) (ts us : List Turn) (w w' : World) (i j : ℕ) → Sound store w → Sound store' w' → mine i ts ≡ mine j us
      → OfFarm farm store w i store' w' j → NoOtherFarm farm store store' ts us w w' i j
  -- and so do sessions that were opened for the farm on both sides, with the same segment and L, if both openings were done: their numbers may differ
  pub other_farms_opened :
      (farm : ℕ) (store store' : List ℕ) (ts us : List Turn) (w w' : World) (slot slot' len i j : ℕ) → Sound store w → Sound store' w'
      → code_of store (slot_at w.bench.slots slot) ≡ code_of store' (slot_at w'.bench.slots slot')
      → records_of (shared_of w) farm ≡ records_of (shared_of w') farm
      → (farm_open_of store slot len farm w).answer ≡ Done i → (farm_open_of store' slot' len farm w').answer ≡ Done j → mine i ts ≡ mine j us
      → NoOtherFarm farm store store' ts us (farm_open_of store slot len farm w).world (farm_open_of store' slot' len farm w').world i j
