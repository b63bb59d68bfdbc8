-- What one step may come to, from registers in range: a fault in 1..10, the finish, or registers in range and writes inside the region; and fault 1
-- only if the fetching came to the segment's end.
-- One clause a meaning. Above: Keeps, and the proofs of the code's step; below: Step, Sound, Decoded.
use Prim.Native.Nat.{ℕ, ◌+◌, ◌-◌, ◌%◌, ◌<◌, ◌≤◌, min}
use native.Mathlib.Omega.{arith}
use mathlib.Core.Path.{◌≡◌, refl, subst}
use mathlib.Core.List.{List, [], ◌∷◌}
use mathlib.Core.Bool.{Bool, true, false, ◌&&◌, ◌||◌, not, cond}
use lib.Dec.{leb, ltb, eqb}
use lib.ListN.{length, get_or}
use borrow.Author.Tests.{not-false, leb-true, ltb-false, eqb-true}
use Rattle.basis.specs.Bools.{inside}
use Rattle.basis.proofs.Bools.{inside_true, both_true, cond_holds}
use Rattle.segment.specs.Head.{count, linked, start}
use Rattle.pmachine.specs.State.{Registers}
use Rattle.pmachine.specs.Meaning.{Meaning, constant, pool_offset, constants, load, address, store, index, indirect, unary}
use Rattle.pmachine.specs.Meaning.{binary, division, duplicate, swap, nothing, subrange, jump, jump_if, case_jump, call, return}
use Rattle.pmachine.specs.Decoding.{Instruction, Decoded, instruction, faulty, decode, fetches_to}
use Rattle.pmachine.specs.Pool.{constants_of, on_top, in_table}
use Rattle.pmachine.specs.Step.{Outcome, fault, finish, goes, floor, pointer, private, target, case_target, callable, new_record, mark_at, resumes}
use Rattle.pmachine.specs.Step.{moved, lowered, lowering, Ground, ◌when◌, ground_for, first_fault, order, below, asks, effect, outcome, judged_by, judge}
use Rattle.pmachine.specs.Sound.{Ranged, Loaded}
use Rattle.pmachine.proofs.Rows.{pushes}
use Rattle.pmachine.proofs.Pool.{length_constants}
use Rattle.pmachine.proofs.Decoded.{Proper, ProperBy, decode_proper, CutAt, reaches}

-- ---- the order of checks

-- none of the checks fails
pub record Clear (checks : List Ground) : Type 0 where
  pub three : ground_for 3 checks ≡ false
  pub nine : ground_for 9 checks ≡ false
  pub eight : ground_for 8 checks ≡ false
  pub five : ground_for 5 checks ≡ false
  pub six : ground_for 6 checks ≡ false
  pub seven : ground_for 7 checks ≡ false
  pub ten : ground_for 10 checks ≡ false
  pub four : ground_for 4 checks ≡ false

-- what holds of each fault in 3..10, and of what happens where no check fails, holds of the first that fails
pub first_holds : (P : Outcome → Type 0) (checks : List Ground) (done : Outcome) → ((n : ℕ) → 3 ≤ n → n ≤ 10 → P (fault n)) → (Clear checks → P done)
    → P (first_fault order checks done)
unfolding first_fault
first_holds P cs done bad f =
    cond_holds P (ground_for 3 cs) (λ _. bad 3 (omega arith) (omega arith)) (λ e3.
    cond_holds P (ground_for 9 cs) (λ _. bad 9 (omega arith) (omega arith)) (λ e9.
    cond_holds P (ground_for 8 cs) (λ _. bad 8 (omega arith) (omega arith)) (λ e8.
    cond_holds P (ground_for 5 cs) (λ _. bad 5 (omega arith) (omega arith)) (λ e5.
    cond_holds P (ground_for 6 cs) (λ _. bad 6 (omega arith) (omega arith)) (λ e6.
    cond_holds P (ground_for 7 cs) (λ _. bad 7 (omega arith) (omega arith)) (λ e7.
    cond_holds P (ground_for 10 cs) (λ _. bad 10 (omega arith) (omega arith)) (λ e10.
    cond_holds P (ground_for 4 cs) (λ _. bad 4 (omega arith) (omega arith)) (λ e4.
    f (record { three = e3; nine = e9; eight = e8; five = e5; six = e6; seven = e7; ten = e10; four = e4 })))))))))

-- ---- what a step may come to

pub record Goes (s : List ℕ) (l : ℕ) (q : Registers) (at : ℕ) (ws : List ℕ) : Type 0 where
  pub registers : Ranged s l q
  pub fits : at + length ws ≤ l
  pub above : 0 < length ws → 1 ≤ at

-- of a step whose fetching comes to a byte
abbrev pub Good : List ℕ → ℕ → ℕ → Outcome → Type 0
Good s l byte (fault n) = (1 ≤ n) × (n ≤ 10) × (n ≡ 1 → byte ≡ length s)
Good s l byte finish = Unit {0}
Good s l byte (goes q at ws) = Goes s l q at ws

-- what the checks of a mark say
pub record Resumed (s w mark : List ℕ) (sp : ℕ) : Type 0 where
  pub m_low : 1 ≤ get_or mark 1 0
  pub m_high : get_or mark 1 0 + 5 ≤ length w
  pub routine_low : 1 ≤ get_or mark 4 0
  pub routine_high : get_or mark 4 0 ≤ count s
  pub one : get_or mark 3 0 ≡ 1
  pub counter_low : 22 ≤ get_or mark 2 0
  pub counter_high : get_or mark 2 0 ≤ length s
  pub sp_low : floor s ≤ sp
  pub sp_high : sp ≤ length w

pub resumed : (s w mark : List ℕ) (sp : ℕ) → resumes s w mark sp ≡ true → Resumed s w mark sp
unfolding resumes
resumed s w mark sp h =
    let a = both_true (pointer w (get_or mark 1 0)) _ h in
    let m = both_true (leb 1 (get_or mark 1 0)) (leb (get_or mark 1 0 + 5) (length w)) a.0 in
    let b = both_true (inside 1 (count s + 1) (get_or mark 4 0)) _ a.1 in
    let p = inside_true 1 (count s + 1) (get_or mark 4 0) b.0 in
    let c = both_true (eqb (get_or mark 3 0) 1) _ b.1 in
    let d = both_true (inside 22 (length s + 1) (get_or mark 2 0)) _ c.1 in
    let i = inside_true 22 (length s + 1) (get_or mark 2 0) d.0 in
    let k = inside_true (floor s) (length w + 1) sp d.1 in
    record {
      m_low = leb-true _ _ m.0;
      m_high = leb-true _ _ m.1;
      routine_low = p.0;
      routine_high = omega (arith, p.1);
      one = eqb-true _ _ c.0;
      counter_low = i.0;
      counter_high = omega (arith, i.1);
      sp_low = k.0;
      sp_high = omega (arith, k.1);
    }

module _ (s shared w : List ℕ) (r : Registers) (ld : Loaded s) (rg : Ranged s (length w) r) where
  -- the same record and routine, another stack pointer and counter
  stay : (sp n : ℕ) → ltb sp (floor s) ≡ false → sp ≤ length w → 22 ≤ n → n ≤ length s → Ranged s (length w) (lowered (moved r sp n))
  stay sp n e h a b =
      let low = ltb-false sp (floor s) e in
      let deep : floor s ≤ min r.lowest sp = omega (arith, rg.lowest_low) in
      let most : min r.lowest sp ≤ sp = omega arith in
      search

  -- of SP after the words taken and given, g of them given
  module _ (sp g : ℕ) (k : sp + g ≤ length w) where
    -- words written on the stack
    on_stack : (n : ℕ) (ws : List ℕ) → length ws ≤ g → 22 ≤ n → n ≤ length s → ltb sp (floor s) ≡ false → Goes s (length w) (lowered (moved r sp n)) sp ws
    on_stack n ws p a b e =
        let low = ltb-false sp (floor s) e in
        record { registers = stay sp n e (omega arith) a b; fits = omega arith; above = λ _. omega arith }

    -- j words written on the stack, below those given
    block : (n j : ℕ) (ws : List ℕ) → length ws ≡ j → 22 ≤ n → n ≤ length s → ltb (sp - j) (floor s) ≡ false → Goes s (length w) (lowered (moved r (sp - j) n)) (sp - j) ws
    block n j ws long a b e =
        let low = ltb-false (sp - j) (floor s) e in
        record { registers = stay (sp - j) n e (omega arith) a b; fits = omega (arith, long); above = λ _. omega arith }

    -- a word written at a private address
    at_place : (n at v : ℕ) → not (private w at) ≡ false → 22 ≤ n → n ≤ length s → ltb sp (floor s) ≡ false → Goes s (length w) (lowered (moved r sp n)) at (v ∷ [])
    at_place n at v o a b e =
        let i = inside_true 1 (length w) at (not-false (private w at) o) in
        record { registers = stay sp n e (omega arith) a b; fits = omega (arith, i.1); above = λ _. i.0 }

    jumped : (t : ℕ) → not (inside 22 (length s) t) ≡ false → ltb sp (floor s) ≡ false → Goes s (length w) (lowered (moved r sp t)) sp []
    jumped t o e =
        let i = inside_true 22 (length s) t (not-false (inside 22 (length s) t) o) in
        on_stack t [] (omega arith) i.0 (omega (arith, i.1)) e

    branched : (n t : ℕ) (x : Bool) → (x && not (inside 22 (length s) t)) ≡ false → 22 ≤ n → n ≤ length s → ltb sp (floor s) ≡ false
        → Goes s (length w) (lowered (moved r sp (cond x t n))) sp []
    branched n t true o a b e = jumped t o e
    branched n t false o a b e = on_stack n [] (omega arith) a b e

    called : (j : ℕ) (ws : List ℕ) → length ws ≡ 5 → not (callable s j) ≡ false → ltb (new_record s sp j) (floor s) ≡ false
        → Goes s (length w) (lowered (record { sp = new_record s sp j; m = new_record s sp j; counter = start s j; routine = j; lowest = r.lowest })) (new_record s sp j) ws
    unfolding start
    called j ws five o e =
        let low = ltb-false (new_record s sp j) (floor s) e in
        let b = both_true (inside 1 (count s + 1) j) (linked s j) (not-false (callable s j) o) in
        let i = inside_true 1 (count s + 1) j b.0 in
        let known : j ≤ count s = omega (arith, i.1) in
        let f = ld.routines j i.0 known b.1 in
        record {
          registers =
              record {
                low = rg.low;
                sp_low = low;
                sp_high = omega arith;
                m_low = omega arith;
                m_high = omega arith;
                counter_low = rw b.1 (omega (arith, f.entry_low));
                counter_high = rw b.1 (omega (arith, f.entry_high, ld.even));
                routine_low = i.0;
                routine_high = known;
                lowest_low = omega (arith, rg.lowest_low);
                lowest_high = omega arith;
              };
          fits = omega arith;
          above = λ _. omega arith;
        }

    returned : (v : ℕ) (x : Bool) → not (x || resumes s w (mark_at w r.m) (r.m + 5 + v)) ≡ false
        → Good s (length w) (fetches_to s r.counter)
        (lowering
        (cond x finish
        (goes (record { sp = r.m + 5 + v; m = get_or (mark_at w r.m) 1 0; counter = get_or (mark_at w r.m) 2 0; routine = get_or (mark_at w r.m) 4 0; lowest = r.lowest }) sp [])))
    returned v true o = tt
    returned v false o =
        let z = resumed s w (mark_at w r.m) (r.m + 5 + v) (not-false _ o) in
        let deep : floor s ≤ min r.lowest (r.m + 5 + v) = omega (arith, rg.lowest_low, z.sp_low) in
        let most : min r.lowest (r.m + 5 + v) ≤ r.m + 5 + v = omega arith in
        record { registers = search; fits = omega arith; above = λ (h : 0 < 0). absurd (omega arith) }

    effect_good : (x : Bool) (n : ℕ) (m : Meaning) → pushes m ≤ g → 22 ≤ n → n ≤ length s
        → Clear (3 when x ∷ 4 when below (floor s) (effect s shared w r sp n m) ∷ asks s shared w r n m)
        → Good s (length w) (fetches_to s r.counter) (lowering (effect s shared w r sp n m))
    unfolding effect asks ground_for pushes
    effect_good x n (constant v) p a b c = on_stack n (v ∷ []) p a b c.four
    effect_good x n (pool_offset v) p a b c = on_stack n (_ ∷ []) p a b c.four
    effect_good x n (constants mode v j) p a b c = block n j (on_top (constants_of s mode v j)) (length_constants s mode v j) a b c.four
    effect_good x n (load u o) p a b c = on_stack n (_ ∷ []) p a b c.four
    effect_good x n (address u o) p a b c = on_stack n (_ ∷ []) p a b c.four
    effect_good x n (store u o) p a b c = at_place n _ _ c.six a b c.four
    effect_good x n (index i) p a b c = on_stack n (_ ∷ []) p a b c.four
    effect_good x n indirect p a b c = at_place n _ _ c.six a b c.four
    effect_good x n (unary f) p a b c = on_stack n (_ ∷ []) p a b c.four
    effect_good x n (binary f) p a b c = on_stack n (_ ∷ []) p a b c.four
    effect_good x n (division f) p a b c = on_stack n (_ ∷ []) p a b c.four
    effect_good x n duplicate p a b c = on_stack n (_ ∷ []) p a b c.four
    effect_good x n swap p a b c = on_stack n (_ ∷ _ ∷ []) p a b c.four
    effect_good x n nothing p a b c = on_stack n [] p a b c.four
    effect_good x n subrange p a b c = on_stack n [] p a b c.four
    effect_good x n (jump d) p a b c = jumped (target n d) c.seven c.four
    effect_good x n (jump_if want d) p a b c = branched n (target n d) (eqb (get_or w (r.sp + 0) 0 % 2) want) c.seven a b c.four
    effect_good x n (case_jump v) p a b c = branched n (case_target s v n (get_or w (r.sp + 0) 0)) (in_table s v (get_or w (r.sp + 0) 0)) c.seven a b c.four
    effect_good x n (call u j) p a b c = called j _ refl c.eight c.four
    effect_good x n (return v) p a b c = returned v (eqb r.m 1) c.nine

  outcome_good : (i : Instruction) → Proper s r.counter i → Good s (length w) (fetches_to s r.counter) (outcome s shared w r i)
  unfolding outcome ground_for
  outcome_good i d =
      first_holds (Good s (length w) _) _ _ (λ n a b. (omega (arith, a), b, λ one. absurd (omega (arith, a, one)))) (λ c.
      let h = ltb-false (length w) (r.sp + i.taken) c.three in
      effect_good (r.sp + i.taken - i.given) i.given (omega (arith, d.few_given, rg.m_high)) _ i.next i.does d.room
      (omega (arith, d.first, d.after)) d.end c)

  by_good : (x : Decoded) → ProperBy s r.counter x → CutAt s (fetches_to s r.counter) x
      → Good s (length w) (fetches_to s r.counter) (judged_by s shared w r x)
  unfolding judged_by
  by_good (instruction i) d c = outcome_good i d
  by_good (faulty n) d c = (d.0, omega (arith, d.1), c)

  pub judge_good : Good s (length w) (fetches_to s r.counter) (judge s shared w r)
  unfolding judge
  judge_good =
      by_good (decode s r.counter) (decode_proper s r.counter) (reaches s r.counter rg.counter_low rg.counter_high).cut_at

  -- the same, of an outcome in hand
  pub judge_goes : {q : Registers} {at : ℕ} {ws : List ℕ} → judge s shared w r ≡ goes q at ws → Goes s (length w) q at ws
  judge_goes e = subst (Good s (length w) _) e judge_good
