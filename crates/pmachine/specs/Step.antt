-- One step: which check fails first, and what happens where none does. Document 01's "Addresses, stack and activation records",
-- "The instructions carried" and "Faults". Above: Run; below: Decoding, and the header numbers and routines of `segment`.
use Rattle.std.specs.Prelude.{ℕ, zero, suc, ◌+◌, ◌-◌, ◌%◌, min, List, [], ◌∷◌, Bool, false, ◌&&◌, ◌||◌, not, cond, length, get_or, ltb, leb, eqb}
use Rattle.basis.specs.Bools.{inside}
use Rattle.basis.specs.Integer.{leq_of}
use Rattle.segment.specs.Head.{words, word, count, linked, datasize, start, pool}
use Rattle.pmachine.specs.State.{Registers}
use Rattle.pmachine.specs.Meaning.{Whose, globals, up, Meaning, constant, pool_offset, constants, load, address, store, index, indirect, unary, binary, division, duplicate, swap, nothing, subrange, jump, jump_if, case_jump, call, return}
use Rattle.pmachine.specs.Pool.{in_pool, constants_of, on_top, in_table, arm_offset}
use Rattle.pmachine.specs.Decoding.{Instruction, Decoded, instruction, faulty, decode}

-- A fault; the return that finishes; or the registers after the step, and the words that it writes, from a place upward.
pub data Outcome : Type 0 where
  fault : ℕ → Outcome
  finish : Outcome
  goes : Registers → ℕ → List ℕ → Outcome

-- "G is DATASIZE of its routine 1"; SP never lies below 6+G
abbrev pub floor : List ℕ → ℕ
floor s = 6 + datasize s 1

-- a record pointer lies in 1..L-5
abbrev pub pointer : List ℕ → ℕ → Bool
pointer w m = leb 1 m && leb (m + 5) (length w)

-- "Following 0 static links stays; for DB above 0 it takes one link and then DB-1 more; a link outside 1..L-5 faults with 9."
pub data Link : Type 0 where
  reaches : ℕ → Link
  broken : Link

unfoldable pub follow : List ℕ → ℕ → ℕ → Link
follow w m zero = reaches m
follow w m (suc d) = cond (pointer w (get_or w m 0)) (follow w (get_or w m 0) d) broken

-- "Globals are the record at 1"
unfoldable pub reached : List ℕ → ℕ → Whose → Link
reached w m globals = reaches 1
reached w m (up d) = follow w m d

-- its fault, 0 where there is none, and the record
abbrev pub link_fault : Link → ℕ
link_fault (reaches m) = 0
link_fault broken = 9

abbrev pub is_broken : Link → Bool
is_broken link = eqb (link_fault link) 9

abbrev pub record_of : Link → ℕ
record_of (reaches m) = m
record_of broken = 0

-- "0 is NIL. 1..L-1 is a private word of its region; 32,768+i is shared word i, for i below S, and can only be read."
abbrev pub private : List ℕ → ℕ → Bool
private w a = inside 1 (length w) a

abbrev pub shared_word : List ℕ → ℕ → Bool
shared_word shared a = inside 32768 (32768 + length shared) a

unfoldable pub word_at : List ℕ → List ℕ → ℕ → ℕ
word_at w shared a = cond (ltb a 32768) (get_or w a 0) (get_or shared (a - 32768) 0)

-- "An indexed address is the plain sum; a sum above 65,535 faults, and so does a base of NIL at any index."
abbrev pub readable : List ℕ → List ℕ → ℕ → ℕ → Bool
readable w shared base i = not (eqb base 0) && leb (base + i) 65535 && (private w (base + i) || shared_word shared (base + i))

-- "Jumps count from the byte after the instruction", by a distance in two's complement. A target below 0 counts as 0, which faults too.
unfoldable pub target : ℕ → ℕ → ℕ
target next d = cond (ltb d 32768) (next + d) (next + d - 65536)

-- XJP, of an index in its table: "then jump W3 words from the current location", where W3 is the index's word of the table. Document 01 decides jumps, so
-- it counts bytes, from the byte after the instruction: unit and origin are here and nowhere else.
unfoldable pub case_target : List ℕ → ℕ → ℕ → ℕ → ℕ
case_target s b next i = target next (word s (pool s + arm_offset s b i))

-- 8: "routine number outside 1..n"; request 1: of a routine that is not linked, "Calling it gives fault 8."
abbrev pub callable : List ℕ → ℕ → Bool
callable s k = inside 1 (count s + 1) k && linked s k

-- "SP-5-DATASIZE". Where that lies below 0 it counts as 0, which is below 6+G too.
abbrev pub new_record : List ℕ → ℕ → ℕ → ℕ
new_record s sp k = sp - (5 + datasize s k)

-- "A mark is five words by value, in the order of 000: MSSTAT, MSDYN, MSIPC, MSENDV, MSPROC, at M to M+4."
unfoldable pub mark_at : List ℕ → ℕ → List ℕ
mark_at w m = get_or w m 0 ∷ get_or w (m + 1) 0 ∷ get_or w (m + 2) 0 ∷ get_or w (m + 3) 0 ∷ get_or w (m + 4) 0 ∷ []

-- "MSDYN must be in 1..L-5, MSPROC in 1..n, MSENDV 1, MSIPC in 22..2W, and the new SP in 6+G..L"
unfoldable pub resumes : List ℕ → List ℕ → List ℕ → ℕ → Bool
resumes s w mark sp =
    pointer w (get_or mark 1 0)
    && (inside 1 (count s + 1) (get_or mark 4 0)
    && (eqb (get_or mark 3 0) 1
    && (inside 22 (length s + 1) (get_or mark 2 0)
    && inside (floor s) (length w + 1) sp)))

-- the same record and routine
abbrev pub moved : Registers → ℕ → ℕ → Registers
moved r sp next = record { sp = sp; m = r.m; counter = next; routine = r.routine; lowest = r.lowest }

-- Request 3, "the lowest stack pointer reached since opening": SP after the step lowers it, here and nowhere else. "A step that faults doesn't move it":
-- a fault and the return that finishes leave every register.
abbrev pub lowered : Registers → Registers
lowered q = record { sp = q.sp; m = q.m; counter = q.counter; routine = q.routine; lowest = min q.lowest q.sp }

abbrev pub lowering : Outcome → Outcome
lowering (goes q at ws) = goes (lowered q) at ws
lowering finish = finish
lowering (fault n) = fault n

-- A check: the fault it gives, and whether it fails.
infix 68 ◌when◌
pub data Ground : Type 0 where
  ◌when◌ : ℕ → Bool → Ground

unfoldable pub ground_for : ℕ → List Ground → Bool
ground_for n [] = false
ground_for n (k when b ∷ checks) = cond (eqb n k) b (ground_for n checks)

-- the fault of the first number whose check fails, or else what happens
unfoldable pub first_fault : List ℕ → List Ground → Outcome → Outcome
first_fault [] checks done = done
first_fault (n ∷ order) checks done = cond (ground_for n checks) (fault n) (first_fault order checks done)

-- "This is also the order of checks"; 1 and 2 are the decoder's, which comes before.
abbrev pub order : List ℕ
order = 3 ∷ 9 ∷ 8 ∷ 5 ∷ 6 ∷ 7 ∷ 10 ∷ 4 ∷ []

abbrev pub below : ℕ → Outcome → Bool
below low (goes q at ws) = ltb q.sp low
below low finish = false
below low (fault n) = false

-- Of a segment's bytes, the shared words, the session's words and its registers.
module _ (s shared w : List ℕ) (r : Registers) where
  -- "Read from SP upward it is a list, top first."
  abbrev stack : ℕ → ℕ
  stack k = get_or w (r.sp + k) 0

  abbrev link : Whose → Link
  link p = reached w r.m p

  -- "Offset x of a record is word M+4+x."
  abbrev offset : Whose → ℕ → ℕ
  offset p x = record_of (link p) + 4 + x

  abbrev mark : List ℕ
  mark = mark_at w r.m

  -- what each meaning is judged for, besides the words on the stack and the room for those it gives
  unfoldable pub asks : ℕ → Meaning → List Ground
  asks next (constant v) = []
  asks next (pool_offset b) = 6 when (eqb (pool s) 0 || leb (words s) (pool s + b)) ∷ []
  asks next (constants mode b n) = 6 when not (in_pool s b n) ∷ []
  asks next (load p x) = 9 when is_broken (link p) ∷ 6 when not (private w (offset p x)) ∷ []
  asks next (address p x) = 9 when is_broken (link p) ∷ 6 when not (private w (offset p x)) ∷ []
  asks next (store p x) = 9 when is_broken (link p) ∷ 6 when not (private w (offset p x)) ∷ []
  asks next (index i) = 6 when not (readable w shared (stack 0) i) ∷ []
  asks next indirect = 6 when not (private w (stack 1)) ∷ []
  asks next (unary f) = []
  asks next (binary f) = []
  asks next (division f) = 5 when eqb (stack 0) 0 ∷ []
  asks next duplicate = []
  asks next swap = []
  asks next nothing = []
  asks next subrange = 10 when not (eqb (leq_of (stack 1) (stack 2)) 1 && eqb (leq_of (stack 2) (stack 0)) 1) ∷ []
  asks next (jump d) = 7 when not (inside 22 (length s) (target next d)) ∷ []
  asks next (jump_if b d) = 7 when (eqb (stack 0 % 2) b && not (inside 22 (length s) (target next d))) ∷ []
  asks next (case_jump b) =
      6 when not (in_pool s b 2 && (not (in_table s b (stack 0)) || in_pool s (arm_offset s b (stack 0)) 1))
      ∷ 7 when (in_table s b (stack 0) && not (inside 22 (length s) (case_target s b next (stack 0))))
      ∷ []
  asks next (call p k) = 9 when is_broken (link p) ∷ 8 when not (callable s k) ∷ []
  asks next (return b) = 9 when not (eqb r.m 1 || resumes s w mark (r.m + 5 + b)) ∷ []

  -- What happens. `sp` and `next` are SP after the words taken and given, and the byte after the instruction.
  unfoldable pub effect : ℕ → ℕ → Meaning → Outcome
  effect sp next (constant v) = goes (moved r sp next) sp (v ∷ [])
  effect sp next (pool_offset b) = goes (moved r sp next) sp ((pool s + b) ∷ [])
  effect sp next (constants mode b n) = goes (moved r (sp - n) next) (sp - n) (on_top (constants_of s mode b n))
  effect sp next (load p x) = goes (moved r sp next) sp (get_or w (offset p x) 0 ∷ [])
  effect sp next (address p x) = goes (moved r sp next) sp (offset p x ∷ [])
  effect sp next (store p x) = goes (moved r sp next) (offset p x) (stack 0 ∷ [])
  effect sp next (index i) = goes (moved r sp next) sp (word_at w shared (stack 0 + i) ∷ [])
  effect sp next indirect = goes (moved r sp next) (stack 1) (stack 0 ∷ [])
  effect sp next (unary f) = goes (moved r sp next) sp (f (stack 0) ∷ [])
  effect sp next (binary f) = goes (moved r sp next) sp (f (stack 1) (stack 0) ∷ [])
  effect sp next (division f) = goes (moved r sp next) sp (f (stack 1) (stack 0) ∷ [])
  effect sp next duplicate = goes (moved r sp next) sp (stack 0 ∷ [])
  effect sp next swap = goes (moved r sp next) sp (stack 1 ∷ stack 0 ∷ [])
  effect sp next nothing = goes (moved r sp next) sp []
  effect sp next subrange = goes (moved r sp next) sp []
  effect sp next (jump d) = goes (moved r sp (target next d)) sp []
  effect sp next (jump_if b d) = goes (moved r sp (cond (eqb (stack 0 % 2) b) (target next d) next)) sp []
  effect sp next (case_jump b) = goes (moved r sp (cond (in_table s b (stack 0)) (case_target s b next (stack 0)) next)) sp []
  effect sp next (call p k) =
      goes (record { sp = new_record s sp k; m = new_record s sp k; counter = start s k; routine = k; lowest = r.lowest })
      (new_record s sp k)
      (record_of (link p) ∷ r.m ∷ next ∷ 1 ∷ r.routine ∷ [])
  effect sp next (return b) =
      cond (eqb r.m 1) finish
      (goes (record { sp = r.m + 5 + b; m = get_or mark 1 0; counter = get_or mark 2 0; routine = get_or mark 4 0; lowest = r.lowest }) sp [])

  abbrev pub done : Instruction → Outcome
  done i = effect (r.sp + i.taken - i.given) i.next i.does

  -- 3, "too few words on the stack"; 4, "SP after the step would lie below 6+G"; and what the meaning asks: the first that fails, in order. If none
  -- does, it happens, and SP after it lowers the lowest.
  unfoldable pub outcome : Instruction → Outcome
  outcome i =
      first_fault order
      (3 when ltb (length w) (r.sp + i.taken) ∷ 4 when below (floor s) (done i) ∷ asks i.next i.does) (lowering (done i))

  unfoldable pub judged_by : Decoded → Outcome
  judged_by (instruction i) = outcome i
  judged_by (faulty n) = fault n

  unfoldable pub judge : Outcome
  judge = judged_by (decode s r.counter)
