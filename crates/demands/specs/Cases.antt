-- Laws that a wrong row of appendix B or a wrong clause of Step would break, also where the code is wrong in the same way: each is over whole steps from the
-- bytes at the counter, in the manual's words. `cases` and `walks` of proofs/Cases and `calls` of proofs/Calls prove them. Above: nothing; below: Run, Sound.
use Rattle.std.specs.Prelude.{ℕ, ◌+◌, ◌-◌, ◌*◌, ◌%◌, ◌≤◌, ◌<◌, min, ◌≡◌, ◌↔◌, List, [], ◌∷◌, ◌++◌, false, ◌&&◌, cond, length, get_or, set, take, drop, ℤ, pos, ◌+ℤ◌}
use Rattle.std.specs.Int.Signed.{le_z}
use Rattle.basis.specs.Bools.{inside}
use Rattle.basis.specs.Integer.{integer_of}
use Rattle.segment.specs.Head.{count, linked, datasize}
use Rattle.pmachine.specs.State.{Registers, ready, faulted, State}
use Rattle.pmachine.specs.Meaning.{Whose, globals, up}
use Rattle.pmachine.specs.Step.{floor, pointer, Link, reaches, broken, is_broken, follow, reached, mark_at, moved}
use Rattle.pmachine.specs.Run.{step, run}
use Rattle.pmachine.specs.Sound.{Ranged}

-- a session that is ready
abbrev pub at_work : List ℕ → Registers → State
at_work w r = record { words = w; registers = r; kind = ready }

-- the registers, if SP has been down to this since
abbrev pub down_to : ℕ → Registers → Registers
down_to low q = record { sp = q.sp; m = q.m; counter = q.counter; routine = q.routine; lowest = min q.lowest low }

-- the same with fault n: "Only the session's kind changes."
abbrev pub stopped : List ℕ → Registers → ℕ → State
stopped w r n = record { words = w; registers = r; kind = faulted n r.counter }

-- j, in 22..2W-1, is the byte that a distance leads to: "Jumps count from the byte after the instruction"
pub record Leads (s : List ℕ) (next : ℕ) (distance : ℤ) (j : ℕ) : Type 0 where
  pub sum : pos j ≡ pos next +ℤ distance
  pub low : 22 ≤ j
  pub high : j < length s

-- "Following 0 static links stays; for DB above 0 it takes one link and then DB-1 more; a link outside 1..L-5" breaks the walk
abbrev pub onward : List ℕ → ℕ → Link → Link
onward w d (reaches m) = follow w m d
onward w d broken = broken

pub record Walks (w : List ℕ) (m : ℕ) : Type 0 where
  pub none : follow w m 0 ≡ reaches m
  pub one : follow w m 1 ≡ cond (pointer w (get_or w m 0)) (reaches (get_or w m 0)) broken
  pub both : (a b : ℕ) → follow w m (a + b) ≡ onward w b (follow w m a)
  pub arrives : (d x : ℕ) → 1 ≤ m → m + 5 ≤ length w → follow w m d ≡ reaches x → (1 ≤ x) × (x + 5 ≤ length w)

-- of a segment's bytes, the shared words, the session's words and its registers
module _ (s shared w : List ℕ) (r : Registers) where
  -- These bytes stand at the counter, SP is not below 6+G, and n words are on the stack.
  pub record At (bytes : List ℕ) (n : ℕ) : Type 0 where
    pub code : 22 ≤ r.counter
    pub are : take (length bytes) (drop r.counter s) ≡ bytes
    pub low : floor s ≤ r.sp
    pub some : r.sp + n ≤ length w

  -- TOS-k
  abbrev tos : ℕ → ℕ
  tos k = get_or w (r.sp + k) 0

  -- k steps lead to these words, this SP and this counter, and SP is down to `low` after one of them and after none lower; M and the routine stay
  abbrev After : ℕ → List ℕ → ℕ → ℕ → ℕ → Type 0
  After k v sp next low = run s shared k (at_work w r) ≡ at_work v (down_to low (moved r sp next))

  pub record Cases : Type 0 where
    -- "Store TOS into word with offset B", "Fetch the word with offset B .. and push it": TOS is on the stack again, and in the record
    pub STL-LDL : (x : ℕ) → At (164 ∷ x ∷ 135 ∷ x ∷ []) 1 → x ≤ 127 → r.m + 4 + x < length w
        → After 2 (set w (r.m + 4 + x) (tos 0)) r.sp (r.counter + 4) r.sp
    pub SRO-LDO : (x : ℕ) → At (165 ∷ x ∷ 133 ∷ x ∷ []) 1 → x ≤ 127 → 5 + x < length w → After 2 (set w (5 + x) (tos 0)) r.sp (r.counter + 4) r.sp
    -- "Store TOS into the word pointed to by TOS-1"; that address pushed again by LDCI, "replace it with word 0 of the record"
    pub STO-SIND0 : (lo hi : ℕ) → At (196 ∷ 129 ∷ lo ∷ hi ∷ 120 ∷ []) 2 → tos 1 ≡ lo + 256 * hi → 1 ≤ tos 1 → tos 1 < length w
        → length w ≤ 32768 → (tos 1 ≡ r.sp + 1 → ⊥) → After 3 (set (set w (tos 1) (tos 0)) (r.sp + 1) (tos 0)) (r.sp + 1) (r.counter + 5) (r.sp + 1)
    -- "Jump by offset SB"; FJP "if TOS is false", TJP "if TOS is true": bit 0 alone decides, and a target that is not taken is not looked at
    pub UJP : (d j : ℕ) → At (138 ∷ d ∷ []) 0 → Leads s (r.counter + 2) (integer_of 8 d) j → After 1 w r.sp j r.sp
    pub FJP-jumps : (d j : ℕ) → At (212 ∷ d ∷ []) 1 → tos 0 % 2 ≡ 0 → Leads s (r.counter + 2) (integer_of 8 d) j → After 1 w (r.sp + 1) j (r.sp + 1)
    pub TJP-jumps : (d j : ℕ) → At (241 ∷ d ∷ []) 1 → tos 0 % 2 ≡ 1 → Leads s (r.counter + 2) (integer_of 8 d) j → After 1 w (r.sp + 1) j (r.sp + 1)
    pub FJP-passes : (d : ℕ) → At (212 ∷ d ∷ []) 1 → tos 0 % 2 ≡ 1 → After 1 w (r.sp + 1) (r.counter + 2) (r.sp + 1)
    pub TJP-passes : (d : ℕ) → At (241 ∷ d ∷ []) 1 → tos 0 % 2 ≡ 0 → After 1 w (r.sp + 1) (r.counter + 2) (r.sp + 1)
    -- "Ensure that TOS-1 <= TOS-2 <= TOS, leaving TOS-2", as signed integers; else fault 10, and nothing else changes
    pub CHK : At (203 ∷ []) 3 → step s shared (at_work w r)
        ≡ cond (le_z (integer_of 16 (tos 1)) (integer_of 16 (tos 2)) && le_z (integer_of 16 (tos 2)) (integer_of 16 (tos 0)))
        (at_work w (down_to (r.sp + 2) (moved r (r.sp + 2) (r.counter + 1)))) (record { words = w; registers = r; kind = faulted 10 r.counter })
    -- "Duplicate one word", "comparison TOS-1 = TOS": 1 is pushed. "Swap TOS with TOS-1"; twice it is nothing but two steps
    pub DUP1-EQUI : At (226 ∷ 176 ∷ []) 1 → floor s < r.sp → After 2 (set (set w (r.sp - 1) (tos 0)) r.sp 1) r.sp (r.counter + 2) (r.sp - 1)
    pub SWAP : At (189 ∷ []) 2 → After 1 (set (set w r.sp (tos 1)) (r.sp + 1) (tos 0)) r.sp (r.counter + 1) r.sp
    pub SWAP-SWAP : At (189 ∷ 189 ∷ []) 2 → After 2 w r.sp (r.counter + 2) r.sp

-- A call, and the return by which the callee drops its mark, its DATASIZE words and p parameters: M, routine and counter are the caller's again, the
-- counter at the byte after the call, and SP is p words up. The callee may have changed every word but its mark, whose MSSTAT is the parent's M.
abbrev pub CallReturns : List ℕ → Whose → Type 0
CallReturns bytes parent =
    (s shared w u v : List ℕ) (r q a : Registers) (k p : ℕ) → Ranged s (length w) r
    → At s shared w r (bytes ++ (k ∷ [])) 0 → step s shared (at_work w r) ≡ at_work u q
    → At s shared v a (150 ∷ (datasize s k + p) ∷ []) 0 → datasize s k + p ≤ 127 → r.sp + p ≤ length w
    → a.m ≡ q.m → length v ≡ length w → mark_at v q.m ≡ mark_at u q.m
    → (reached w r.m parent ≡ reaches (get_or u q.m 0))
    × (step s shared (at_work v a)
    ≡ at_work v (down_to (r.sp + p) (record { sp = r.sp + p; m = r.m; counter = r.counter + length bytes + 1; routine = r.routine; lowest = a.lowest })))

-- "8 routine number outside 1..n"; request 1, of a routine that is declared and not linked: "Calling it gives fault 8." So exactly, whatever the stack
-- holds, unless a link is broken: 9 comes before 8.
abbrev pub CallFaults : List ℕ → Whose → Type 0
CallFaults bytes parent =
    (s shared w : List ℕ) (r : Registers) (k : ℕ) → At s shared w r (bytes ++ (k ∷ [])) 0
    → (step s shared (at_work w r) ≡ stopped w r 8) ↔ ((is_broken (reached w r.m parent) ≡ false) × ((inside 1 (count s + 1) k && linked s k) ≡ false))

-- both, of the call with these bytes before the routine's number
pub record Call (bytes : List ℕ) (parent : Whose) : Type 0 where
  pub comes_back : CallReturns bytes parent
  pub faults_with_eight : CallFaults bytes parent

pub record Calls : Type 0 where
  pub CPL : Call (144 ∷ []) (up 0)
  pub CPG : Call (145 ∷ []) globals
  pub CPI : (d : ℕ) → d ≤ 127 → Call (146 ∷ d ∷ []) (up d)
  pub SCPI1 : Call (239 ∷ []) (up 1)
  pub SCPI2 : Call (240 ∷ []) (up 2)
