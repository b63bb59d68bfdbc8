-- LDC and XJP, from first byte and operands to what is judged, what the stack then holds, and what is read: request 2's sentences as statements. Each
-- is proved by the law of its name in proofs/Pushed. Above: Demands; below: Pool, Run.
use Rattle.std.specs.Prelude.{ℕ, suc, ◌+◌, ◌-◌, ◌≤◌, ◌<◌, ◌≡◌, List, [], ◌∷◌, ◌++◌, Bool, true, ◌&&◌, not, cond, length, get_or, take, drop, leb, ltb}
use Rattle.std.specs.Int.Signed.{le_z}
use Rattle.basis.specs.Bools.{inside}
use Rattle.basis.specs.Integer.{integer_of}
use Rattle.operand.specs.Bytes.{byte_at, word_by}
use Rattle.operand.specs.Operand.{UB, B}
use Rattle.segment.specs.Head.{words, least, pool, real_pool}
use Rattle.pmachine.specs.State.{Registers, State}
use Rattle.pmachine.specs.Decoding.{all, operands}
use Rattle.pmachine.specs.Pool.{in_pool, swaps, constants_of, on_top, lowest, highest, in_table, arm_offset}
use Rattle.pmachine.specs.Step.{Outcome, fault, goes, moved, lowered, floor, case_target, judge}
use Rattle.pmachine.specs.Run.{is_ready, step}
use Rattle.pmachine.specs.Sound.{Loaded}

-- at the counter stands LDC with these operands, and the byte after it; and XJP
pub record IsLdc (s : List ℕ) (at mode b n next : ℕ) : Type 0 where
  pub inside_code : inside 22 (length s) at ≡ true
  pub first : byte_at s at ≡ 131
  pub rest : operands (UB ∷ B ∷ UB ∷ []) s (at + 1) ≡ all (mode ∷ b ∷ n ∷ []) next

pub record IsXjp (s : List ℕ) (at b next : ℕ) : Type 0 where
  pub inside_code : inside 22 (length s) at ≡ true
  pub first : byte_at s at ≡ 214
  pub rest : operands (B ∷ []) s (at + 1) ≡ all (b ∷ []) next

-- What LDC comes to: 6 exactly if its words cannot be read, 4 exactly if they can and the stack has no room for them.
abbrev pub ldc_comes : List ℕ → Registers → ℕ → ℕ → ℕ → ℕ → Outcome
ldc_comes s r mode b n next =
    cond (in_pool s b n)
    (cond (leb (floor s + n) r.sp) (goes (lowered (moved r (r.sp - n) next)) (r.sp - n) (on_top (constants_of s mode b n))) (fault 4))
    (fault 6)

abbrev pub LdcJudged : Type 0
LdcJudged =
    (s shared w : List ℕ) (r : Registers) (mode b n next : ℕ) → r.sp ≤ length w → IsLdc s r.counter mode b n next
    → judge s shared w r ≡ ldc_comes s r mode b n next

-- What XJP comes to, with the index i: 6 exactly if W1 and W2 cannot be read, or the word of an index in range; "a case target outside 22..2W-1 gives
-- fault 7"; an index out of range goes on.
abbrev pub xjp_comes : List ℕ → Registers → ℕ → ℕ → ℕ → Outcome
xjp_comes s r b next i =
    cond (in_pool s b 2)
    (cond (in_table s b i)
    (cond (in_pool s (arm_offset s b i) 1)
    (cond (inside 22 (length s) (case_target s b next i)) (goes (lowered (moved r (r.sp + 1) (case_target s b next i))) (r.sp + 1) []) (fault 7))
    (fault 6))
    (goes (lowered (moved r (r.sp + 1) next)) (r.sp + 1) []))
    (fault 6)

-- "in the range W1 through W2", as integers
abbrev pub InRange : Type 0
InRange =
    (s : List ℕ) (b i : ℕ)
    → in_table s b i ≡ (le_z (integer_of 16 (lowest s b)) (integer_of 16 i) && le_z (integer_of 16 i) (integer_of 16 (highest s b)))

-- and before all, 3 exactly if there is no index
abbrev pub XjpJudged : Type 0
XjpJudged =
    (s shared w : List ℕ) (r : Registers) (b next : ℕ) → floor s ≤ r.sp → IsXjp s r.counter b next
    → judge s shared w r ≡ cond (ltb (length w) (r.sp + 1)) (fault 3) (xjp_comes s r b next (get_or w r.sp 0))

-- "Show once, over the count of words, what the stack then holds." Of LDC with any count n, from any state, that does not fault: read from SP upward the
-- stack is the n words, in the order that `on_top` fixes, and then the old stack; every word below is as it was; only SP, by n, and the counter moved,
-- and the lowest SP with SP.
pub record Holds (s : List ℕ) (mode b n next : ℕ) (t u : State) : Type 0 where
  pub stack : drop u.registers.sp u.words ≡ on_top (constants_of s mode b n) ++ drop t.registers.sp t.words
  pub below : take u.registers.sp u.words ≡ take u.registers.sp t.words
  pub count : u.registers.sp + n ≡ t.registers.sp
  pub registers : u.registers ≡ lowered (moved t.registers (t.registers.sp - n) next)

abbrev pub StackHolds : Type 0
StackHolds =
    (s shared : List ℕ) (t : State) (mode b n next : ℕ) → t.registers.sp ≤ length t.words → IsLdc s t.registers.counter mode b n next
    → is_ready t.kind ≡ true → is_ready (step s shared t).kind ≡ true → Holds s mode b n next t (step s shared t)

-- the same order, word by word: the word pushed last is on top, and the one at offset b lies deepest
abbrev pub StackOrder : Type 0
StackOrder =
    (s : List ℕ) (mode b n i : ℕ) → i < n → get_or (on_top (constants_of s mode b n)) i 0 ≡ word_by (not (swaps s mode)) s (pool s + b + (n - suc i))

-- Every word that can be read lies in the pool and below the real pool, which starts at W at the latest.
abbrev pub PoolWords : Type 0
PoolWords =
    (s : List ℕ) → Loaded s → (b n i : ℕ) → in_pool s b n ≡ true → i < n
    → (1 ≤ pool s) × (pool s + b + i < real_pool s) × (real_pool s ≤ words s)

-- And no other is read: two segments with the same header numbers and 6+G, with the same instruction at the counter, that agree in the words from the
-- pool's start up to the real pool's, are judged alike.
pub record SamePool (s t : List ℕ) : Type 0 where
  pub long : length t ≡ length s
  pub sex : least t ≡ least s
  pub pools : pool t ≡ pool s
  pub reals : real_pool t ≡ real_pool s
  pub floors : floor t ≡ floor s
  pub agree : (sex : Bool) (x : ℕ) → pool s ≤ x → x < real_pool s → word_by sex t x ≡ word_by sex s x

abbrev pub LdcReads : Type 0
LdcReads =
    (s t shared w : List ℕ) (r : Registers) (mode b n next : ℕ) → r.sp ≤ length w → SamePool s t
    → IsLdc s r.counter mode b n next → IsLdc t r.counter mode b n next → judge t shared w r ≡ judge s shared w r

abbrev pub XjpReads : Type 0
XjpReads =
    (s t shared w : List ℕ) (r : Registers) (b next : ℕ) → floor s ≤ r.sp → SamePool s t
    → IsXjp s r.counter b next → IsXjp t r.counter b next → judge t shared w r ≡ judge s shared w r
