-- LDC and XJP: the laws of specs/Pushed. Above: Demands, and the proofs of the code's step; below: Pool, Frame, Runs.
use Prim.Native.Nat.{ℕ, zero, suc, ◌+◌, ◌-◌, ◌≤◌, ◌<◌}
use native.Mathlib.Omega.{arith}
use mathlib.Core.Path.{◌≡◌, refl, sym, ap, ◌∙◌}
use mathlib.Core.List.{List, [], ◌∷◌, ◌++◌, append_assoc}
use mathlib.Core.Bool.{Bool, true, false, ◌&&◌, ◌||◌, not, cond, false≢true}
use lib.ListN.{length, get_or, take, drop, set}
use lib.Seq.{sets, sets-eq, take_at, drop_at, length-take-le}
use lib.Dec.{leb, ltb, eqb}
use borrow.Author.Tests.{leb-true, leb-false, le-ltb, lt-ltb}
use lib.Signed.{le_z}
use Rattle.basis.specs.Bools.{inside}
use Rattle.basis.specs.Integer.{integer_of, truth, ordered, leq_of}
use Rattle.operand.specs.Bytes.{word_by}
use Rattle.segment.specs.Head.{least, word, pool, real_pool}
use Rattle.pmachine.specs.State.{Registers, State}
use Rattle.pmachine.specs.Meaning.{constants, case_jump}
use Rattle.pmachine.specs.Opcode.{opcode, row_in, appendix_b}
use Rattle.pmachine.specs.Decoding.{Instruction, instruction, lawful, all_lawful, decoded_with, row_decoded, decode}
use Rattle.pmachine.specs.Pool.{in_pool, swaps, words_from, constants_of, on_top, lowest, highest, in_table, arm_offset}
use Rattle.pmachine.specs.Step.{Outcome, fault, goes, moved, lowered, floor, case_target, ground_for, first_fault, asks, effect, outcome, judged_by, judge}
use Rattle.pmachine.specs.Run.{is_ready, written, settled, step}
use Rattle.pmachine.specs.Pushed.{IsLdc, IsXjp, ldc_comes, LdcJudged, xjp_comes, InRange, XjpJudged, Holds, StackHolds, StackOrder, PoolWords, SamePool, LdcReads, XjpReads}
use Rattle.pmachine.proofs.Pool.{top_one, length_constants, in_pool_lem, some_pool}
use Rattle.pmachine.proofs.Runs.{step_ready}

-- ---- from first byte and operands to the instruction

abbrev pub ldc : ℕ → ℕ → ℕ → ℕ → Instruction
ldc mode b n next = record { does = constants mode b n; taken = 0; given = 0; next = next }

abbrev pub xjp : ℕ → ℕ → Instruction
xjp b next = record { does = case_jump b; taken = 1; given = 0; next = next }

ldc_decoded : (s : List ℕ) (at mode b n next : ℕ) → IsLdc s at mode b n next → decode s at ≡ instruction (ldc mode b n next)
unfolding decode row_decoded decoded_with opcode row_in appendix_b all_lawful lawful
ldc_decoded s at mode b n next i = rw (i.inside_code, i.first, i.rest)

xjp_decoded : (s : List ℕ) (at b next : ℕ) → IsXjp s at b next → decode s at ≡ instruction (xjp b next)
unfolding decode row_decoded decoded_with opcode row_in appendix_b all_lawful lawful
xjp_decoded s at b next i = rw (i.inside_code, i.first, i.rest)

-- ---- what is judged

module _ (s shared w : List ℕ) (r : Registers) where
  -- LDC: the words, and then the room
  pub ldc_outcome : (mode b n next : ℕ) → r.sp ≤ length w
      → outcome s shared w r (ldc mode b n next) ≡ ldc_comes s r mode b n next
  unfolding outcome asks effect ground_for first_fault
  ldc_outcome mode b n next h = go _ refl _ refl
    where
      fits : ltb (length w) (r.sp + 0) ≡ false
      fits = le-ltb (length w) (r.sp + 0) (omega arith)

      same : r.sp + 0 - 0 ≡ r.sp
      same = omega arith

      go : (x : Bool) → in_pool s b n ≡ x → (y : Bool) → leb (floor s + n) r.sp ≡ y
          → outcome s shared w r (ldc mode b n next) ≡ ldc_comes s r mode b n next
      go false e y f = rw (fits, e)
      go true e true f = let a = leb-true (floor s + n) r.sp f in rw (fits, e, f, same, le-ltb (r.sp - n) (floor s) (omega arith))
      go true e false f = let a = leb-false (floor s + n) r.sp f in rw (fits, e, f, same, lt-ltb (r.sp - n) (floor s) (omega arith))

  -- XJP: the index, W1 and W2, the word of an index in range, and its target
  pub xjp_outcome : (b next : ℕ) → floor s ≤ r.sp
      → outcome s shared w r (xjp b next) ≡ cond (ltb (length w) (r.sp + 1)) (fault 3) (xjp_comes s r b next (get_or w r.sp 0))
  unfolding outcome asks effect ground_for first_fault
  xjp_outcome b next h =
      let plus0 : r.sp + 0 ≡ r.sp = omega arith in
      let less0 : r.sp + 1 - 0 ≡ r.sp + 1 = omega arith in
      let dry = le-ltb (r.sp + 1) (floor s) (omega arith) in
      rw (plus0, less0, dry)
      (by_tests (ltb (length w) (r.sp + 1)) (in_pool s b 2) (in_table s b (get_or w r.sp 0)) (in_pool s (arm_offset s b (get_or w r.sp 0)) 1)
      (inside 22 (length s) (case_target s b next (get_or w r.sp 0))) _ _)
    where
      by_tests : (few two case arm code : Bool) (a c : ℕ)
          → cond few (fault 3)
          (cond (not (two && (not case || arm))) (fault 6)
          (cond (case && not code) (fault 7) (goes (lowered (moved r (r.sp + 1) (cond case a c))) (r.sp + 1) [])))
          ≡ cond few (fault 3)
          (cond two
          (cond case (cond arm (cond code (goes (lowered (moved r (r.sp + 1) a)) (r.sp + 1) []) (fault 7)) (fault 6)) (goes (lowered (moved r (r.sp + 1) c)) (r.sp + 1) []))
          (fault 6))
      by_tests true two case arm code a c = refl
      by_tests false false case arm code a c = refl
      by_tests false true false arm code a c = refl
      by_tests false true true false code a c = refl
      by_tests false true true true false a c = refl
      by_tests false true true true true a c = refl

-- 1 is pushed exactly if the words are in order
one_if : (x : Bool) → eqb (cond x 1 0) 1 ≡ x
one_if true = refl
one_if false = refl

pub in_range_lem : InRange
unfolding in_table leq_of truth ordered
in_range_lem s b i = rw (one_if (le_z (integer_of 16 (lowest s b)) (integer_of 16 i)), one_if (le_z (integer_of 16 i) (integer_of 16 (highest s b)))) refl

pub ldc_judged : LdcJudged
unfolding judge judged_by
ldc_judged s shared w r mode b n next h i = rw (ldc_decoded s r.counter mode b n next i) (ldc_outcome s shared w r mode b n next h)

pub xjp_judged : XjpJudged
unfolding judge judged_by
xjp_judged s shared w r b next h i = rw (xjp_decoded s r.counter b next i) (xjp_outcome s shared w r b next h)

-- ---- what the stack then holds

written_sets : (ws w : List ℕ) (at : ℕ) → written w at ws ≡ sets w at ws
unfolding written
written_sets [] w at = refl
written_sets (v ∷ vs) w at = let e : at + 1 ≡ suc at = omega arith in rw e (written_sets vs (set w at v) (suc at))

written_split : (ws w : List ℕ) (at : ℕ) → at + length ws ≤ length w → written w at ws ≡ take at w ++ (ws ++ drop (at + length ws) w)
written_split ws w at h = written_sets ws w at ∙ sets-eq ws w at h ∙ append_assoc (take at w) ws (drop (at + length ws) w)

module _ (s : List ℕ) (mode b n next : ℕ) (w : List ℕ) (r : Registers) where
  abbrev after : Registers
  after = lowered (moved r (r.sp - n) next)

  abbrev block : List ℕ
  block = on_top (constants_of s mode b n)

  pushed : (t u : State) → t.words ≡ w → t.registers ≡ r → r.sp ≤ length w → floor s + n ≤ r.sp
      → u.words ≡ written w (r.sp - n) block → u.registers ≡ after → Holds s mode b n next t u
  pushed t u tw tr high room uw ur =
      let long = length_constants s mode b n in
      let e : r.sp - n + n ≡ r.sp = omega arith in
      let whole : written w (r.sp - n) block ≡ take (r.sp - n) w ++ (block ++ drop r.sp w) =
      written_split block w (r.sp - n) (omega (arith, long)) ∙ rw (long, e) in
      let front = length-take-le (r.sp - n) w (omega arith) in
      rw (tw, tr, uw, ur, whole)
      (record {
        stack = drop_at (take (r.sp - n) w) (block ++ drop r.sp w) (r.sp - n) front;
        below = take_at (take (r.sp - n) w) (block ++ drop r.sp w) (r.sp - n) front;
        count = e;
        registers = refl;
      })

pub stack_holds : StackHolds
unfolding settled is_ready
stack_holds s shared t mode b n next high i rdy still =
    let judged = ldc_judged s shared t.words t.registers mode b n next high i in
    let stepped : step s shared t ≡ settled s t.words t.registers (ldc_comes s t.registers mode b n next) =
    step_ready s shared t rdy ∙ ap (settled s t.words t.registers) judged in
    go stepped _ refl _ refl
  where
    went : Outcome
    went = goes (lowered (moved t.registers (t.registers.sp - n) next)) (t.registers.sp - n) (on_top (constants_of s mode b n))

    go : step s shared t ≡ settled s t.words t.registers (ldc_comes s t.registers mode b n next) → (x : Bool) → in_pool s b n ≡ x
        → (y : Bool) → leb (floor s + n) t.registers.sp ≡ y → Holds s mode b n next t (step s shared t)
    go stepped false e y f = absurd (false≢true (rw (stepped, e) at still))
    go stepped true e false f = absurd (false≢true (rw (stepped, e, f) at still))
    go stepped true e true f =
        let u : step s shared t ≡ settled s t.words t.registers went = rw (e, f) at stepped in
        pushed s mode b n next t.words t.registers t (step s shared t) refl refl high (leb-true (floor s + n) t.registers.sp f) (ap (λ (z : State). z.words) u)
        (ap (λ (z : State). z.registers) u)

order_of : (sex : Bool) (s : List ℕ) (from n i : ℕ) → i < n → get_or (on_top (words_from sex s from n)) i 0 ≡ word_by sex s (from + (n - suc i))
order_of sex s from zero i h = absurd (omega arith)
order_of sex s from (suc n) zero h = let e : suc n - 1 ≡ n = omega arith in rw (top_one sex s from n, e)
order_of sex s from (suc n) (suc i) h =
    let e : suc n - suc (suc i) ≡ n - suc i = omega arith in
    rw (top_one sex s from n, e) (order_of sex s from n i (omega arith))

pub stack_order : StackOrder
unfolding constants_of
stack_order s mode b n i h = order_of (not (swaps s mode)) s (pool s + b) n i h

-- ---- what is read

pub pool_words : PoolWords
pool_words s ld b n i e h =
    let some : 1 ≤ n = omega arith in
    let high = leb-true (pool s + b + n) (real_pool s) (sym (in_pool_lem s b n some) ∙ e) in
    (some_pool s b n e, omega arith, ld.reals_high)

no_words : (sex : Bool) (s : List ℕ) (from : ℕ) → words_from sex s from zero ≡ []
unfolding words_from
no_words sex s from = refl

module _ (s t : List ℕ) (same : SamePool s t) where
  same_in : (b n : ℕ) → in_pool t b n ≡ in_pool s b n
  unfolding in_pool
  same_in b n = rw (same.pools, same.reals)

  -- the words agree as far as they can be read
  same_from : (sex : Bool) (from n : ℕ) → pool s ≤ from → from + n ≤ real_pool s → words_from sex t from n ≡ words_from sex s from n
  unfolding words_from
  same_from sex from zero l h = refl
  same_from sex from (suc n) l h =
      let one = same.agree sex from l (omega arith) in
      let more = same_from sex (from + 1) n (omega arith) (omega arith) in
      rw (one, more)

  same_word : (x : ℕ) → pool s ≤ x → x < real_pool s → word t x ≡ word s x
  unfolding word
  same_word x l h = rw same.sex (same.agree (least s) x l h)

  same_swaps : (mode : ℕ) → swaps t mode ≡ swaps s mode
  unfolding swaps
  same_swaps mode = rw same.sex refl

  same_constants : (mode b n : ℕ) → in_pool s b n ≡ true → constants_of t mode b n ≡ constants_of s mode b n
  unfolding constants_of
  same_constants mode b zero e = no_words (not (swaps t mode)) t (pool t + b) ∙ sym (no_words (not (swaps s mode)) s (pool s + b))
  same_constants mode b (suc n) e =
      let high = leb-true (pool s + b + suc n) (real_pool s) (sym (in_pool_lem s b (suc n) (omega arith)) ∙ e) in
      rw (same.pools, same_swaps mode) (same_from _ (pool s + b) (suc n) (omega arith) high)

  same_came : (r : Registers) (mode b n next : ℕ) → ldc_comes t r mode b n next ≡ ldc_comes s r mode b n next
  same_came r mode b n next = go (in_pool s b n) refl
    where
      go : (x : Bool) → in_pool s b n ≡ x → ldc_comes t r mode b n next ≡ ldc_comes s r mode b n next
      go true e = rw (same_in b n, e, same.floors, same_constants mode b n e)
      go false e = rw (same_in b n, e)

  -- the table of a case: W1 and W2, and the word of an index
  module _ (b i : ℕ) (two : in_pool s b 2 ≡ true) where
    high : pool s + b + 2 ≤ real_pool s
    high = leb-true (pool s + b + 2) (real_pool s) (sym (in_pool_lem s b 2 (omega arith)) ∙ two)

    low_same : word t (pool t + b) ≡ word s (pool s + b)
    low_same = rw same.pools (same_word (pool s + b) (omega arith) (omega (arith, high)))

    same_table : in_table t b i ≡ in_table s b i
    unfolding in_table
    same_table = rw (low_same) (rw (same.pools, same_word (pool s + b + 1) (omega arith) (omega (arith, high))))

    same_offset : arm_offset t b i ≡ arm_offset s b i
    unfolding arm_offset
    same_offset = rw (low_same)

    same_target : (next : ℕ) → in_pool s (arm_offset s b i) 1 ≡ true → case_target t b next i ≡ case_target s b next i
    unfolding case_target
    same_target next e =
        let arm = leb-true (pool s + arm_offset s b i + 1) (real_pool s) (sym (in_pool_lem s (arm_offset s b i) 1 (omega arith)) ∙ e) in
        rw (same_offset, same.pools, same_word (pool s + arm_offset s b i) (omega arith) (omega (arith, arm)))

pub ldc_reads : LdcReads
ldc_reads s t shared w r mode b n next h same i j =
    ldc_judged t shared w r mode b n next h j ∙ same_came s t same r mode b n next ∙ sym (ldc_judged s shared w r mode b n next h i)

pub xjp_reads : XjpReads
xjp_reads s t shared w r b next h same i j =
    xjp_judged t shared w r b next (rw same.floors h) j ∙ go (in_pool s b 2) refl (in_pool s (arm_offset s b (get_or w r.sp 0)) 1) refl
    ∙ sym (xjp_judged s shared w r b next h i)
  where
    go : (x : Bool) → in_pool s b 2 ≡ x → (y : Bool) → in_pool s (arm_offset s b (get_or w r.sp 0)) 1 ≡ y
        → cond (ltb (length w) (r.sp + 1)) (fault 3) (xjp_comes t r b next (get_or w r.sp 0))
        ≡ cond (ltb (length w) (r.sp + 1)) (fault 3) (xjp_comes s r b next (get_or w r.sp 0))
    go false e y f = rw (same_in s t same b 2, e)
    go true e false f =
        rw (
          same_in s t same b 2,
          e,
          same_table s t same b (get_or w r.sp 0) e,
          same_offset s t same b (get_or w r.sp 0) e,
          same_in s t same (arm_offset s b (get_or w r.sp 0)) 1,
          f,
        )
    go true e true f =
        rw (
          same_in s t same b 2,
          e,
          same_table s t same b (get_or w r.sp 0) e,
          same_offset s t same b (get_or w r.sp 0) e,
          same_in s t same (arm_offset s b (get_or w r.sp 0)) 1,
          f,
          same_target s t same b (get_or w r.sp 0) e next f,
          same.long,
        )
