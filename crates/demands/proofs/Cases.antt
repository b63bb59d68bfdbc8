-- The case laws of specs/Cases, but for calls: the bytes at the counter are decoded, no check fails, and the effect is what the law says.
-- Above: Demands; below: specs/Cases, Steps, Links.
use Prim.Native.Nat.{ℕ, zero, suc, ◌+◌, ◌-◌, ◌*◌, ◌%◌, ◌≤◌, ◌<◌, min}
use native.Mathlib.Omega.{arith}
use native.Mathlib.Nat.{zero-add, suc-add}
use native.Mathlib.Decide.{ℕ_discrete, dec_lt}
use mathlib.Core.Path.{◌≡◌, refl, sym, ap, ap₂, ◌∙◌, subst}
use mathlib.Core.List.{List, [], ◌∷◌}
use mathlib.Core.Bool.{Bool, true, false, ◌&&◌, not, cond}
use lib.Dec.{eqb}
use lib.ListN.{length, get_or, set, length-set}
use lib.Seq.{get_or-set_same, get_or-set_other, set-get_or, set-set, set_comm}
use borrow.Author.Tests.{lt-ltb, le-ltb, le-leb, eq-eqb, ne_eqb}
use lib.IntN.{pos, nat_abs, sub_ℕ, ◌+ℤ◌, pos-ne-negsuc}
use Rattle.basis.specs.Integer.{integer_of, truth, ordered, eq_of, leq_of}
use Rattle.basis.proofs.Bools.{inside_holds}
use Rattle.operand.specs.Operand.{SB, B, signed}
use Rattle.pmachine.specs.State.{Registers, faulted}
use Rattle.pmachine.specs.Meaning.{Whose, globals, up, load, store, jump_if}
use Rattle.pmachine.specs.Opcode.{carried, one, opcode, row_in, appendix_b}
use Rattle.pmachine.specs.Step.{pointer, target, Link, reaches, broken, follow, reached, moved, lowered, word_at, ground_for, first_fault, asks, effect}
use Rattle.pmachine.specs.Run.{is_ready, written, place_of, step, run}
use Rattle.demands.specs.Cases.{at_work, down_to, Leads, At, Cases, onward, Walks}
use Rattle.pmachine.proofs.Links.{Arrives, follow_arrives}
use Rattle.pmachine.proofs.Frame.{step_fault}
use Rattle.demands.proofs.Steps.{coded, no_operand, one-SB, one-B, one-W, decoded, judged_at, goes_on, more, last}

-- ---- words read where one was written, and elsewhere

pub read_same : (w : List ℕ) (i j v : ℕ) → i < length w → j ≡ i → get_or (set w i v) j 0 ≡ v
read_same w i j v h e = rw e (get_or-set_same w i v 0 h)

pub read_other : (w : List ℕ) (i j v : ℕ) {k : ℕ} → (k ≡ i → ⊥) → j ≡ k → get_or (set w i v) j 0 ≡ get_or w k 0
read_other w i j v {k} h e = rw e (get_or-set_other w i k v 0 h)

set_same : (l : List ℕ) (i v : ℕ) → get_or l i 0 ≡ v → set l i v ≡ l
set_same l i v e = ap (set l i) (sym e) ∙ set-get_or l i 0

-- TOS
zeroth : (w : List ℕ) (i : ℕ) → get_or w i 0 ≡ get_or w (i + 0) 0
zeroth w i = let z : i + 0 ≡ i = omega arith in rw z

-- a word written at a is at i too, if it was there before
stays : (w : List ℕ) (a i v : ℕ) → a < length w → get_or w i 0 ≡ v → get_or (set w a v) i 0 ≡ v
stays w a i v h e = go (ℕ_discrete i a)
  where
    go : Dec (i ≡ a) → get_or (set w a v) i 0 ≡ v
    go (yes k) = read_same w a i v h k
    go (no k) = read_other w a i v k refl ∙ e

-- ---- jumps: the byte that a signed byte leads to

difference : (j a b : ℕ) → pos j ≡ sub_ℕ a b → j + b ≡ a
difference j a b e = go (dec_lt a b)
  where
    go : Dec (a < b) → j + b ≡ a
    go (yes l) = absurd (pos-ne-negsuc j (b - suc a) (rw (lt-ltb a b l) at e))
    go (no l) = let le : b ≤ a = omega arith in omega (arith, ap nat_abs (rw (le-ltb a b le) at e))

leads : (n d j : ℕ) → pos j ≡ pos n +ℤ integer_of 8 d → target n (signed d) ≡ j
unfolding target signed integer_of
leads n d j e = go (dec_lt d 128) (dec_lt d 256)
  where
    go : Dec (d < 128) → Dec (d < 256) → target n (signed d) ≡ j
    go (yes h) _ = rw (lt-ltb d 128 h, lt-ltb d 32768 (omega arith)) (sym (ap nat_abs (rw (lt-ltb d 128 h) at e)))
    go (no h) (yes k) =
        let le : 128 ≤ d = omega arith in
        let is : j + suc (256 - suc d) ≡ n = difference j n (suc (256 - suc d)) (rw (le-ltb d 128 le, lt-ltb d 256 k) at e) in
        rw (le-ltb d 128 le, le-ltb (d + 65280) 32768 (omega arith)) (omega arith)
    go (no h) (no k) =
        let le : 128 ≤ d = omega arith in
        let more : 256 ≤ d = omega arith in
        let is : j ≡ n + (d - 256) = ap nat_abs (rw (le-ltb d 128 le, le-ltb d 256 more) at e) in
        rw (le-ltb d 128 le, le-ltb (d + 65280) 32768 (omega arith)) (omega arith)

truth_one : (x : Bool) → eqb (truth x) 1 ≡ x
unfolding truth
truth_one true = refl
truth_one false = refl

module _ (s shared w : List ℕ) (r : Registers) where
  -- ---- a store and a load

  store_load : (p : Whose) (base st ld x : ℕ) → ((v : List ℕ) → reached v r.m p ≡ reaches base)
      → opcode st ≡ carried (B ∷ []) 1 0 (λ v. store p (one v)) → opcode ld ≡ carried (B ∷ []) 0 1 (λ v. load p (one v))
      → At s shared w r (st ∷ x ∷ ld ∷ x ∷ []) 1 → x ≤ 127 → base + 4 + x < length w
      → run s shared 2 (at_work w r) ≡ at_work (set w (base + 4 + x) (get_or w (r.sp + 0) 0)) (down_to r.sp (moved r r.sp (r.counter + 4)))
  unfolding effect asks written
  store_load p base st ld x reach es el at few fits =
      let c = r.counter in
      let h = coded s st (x ∷ ld ∷ x ∷ []) c at.code at.are in
      let place = base + 4 + x in
      let v = get_or w (r.sp + 0) 0 in
      let w₁ = set w place v in
      let size : length w₁ ≡ length w = length-set w place v in
      let low : min (min r.lowest (r.sp + 1)) r.sp ≡ min r.lowest r.sp = omega arith in
      more _ _ _
      (rw (reach w) at
      (goes_on s shared w r (r.sp + 1) (c + 2) (decoded h.0 es (one-B h.1.0 (omega arith) few) refl) (omega arith) at.some
      (rw (reach w), (rw (reach w, inside_holds 1 (length w) place (omega arith) fits), tt)) refl (omega (arith, at.low))))
      1
      (last _ _ _
      (rw (reach w₁) at
      (goes_on s shared w₁ (lowered (moved r (r.sp + 1) (c + 2))) r.sp (c + 4) (decoded h.1.1.0 el (one-B h.1.1.1.0 (omega arith) few) (omega arith))
      (omega arith) (omega (arith, at.some)) (rw (reach w₁), (rw (reach w₁, inside_holds 1 (length w₁) place (omega arith) (omega arith)), tt))
      refl at.low))
      ∙ rw (low, get_or-set_same w place v 0 fits, set_same w₁ r.sp v (stays w place r.sp v fits (zeroth w r.sp))))

  -- ---- a jump on bit 0

  module _ (b bit d : ℕ) (e : opcode b ≡ carried (SB ∷ []) 1 0 (λ v. jump_if bit (one v))) (at : At s shared w r (b ∷ d ∷ []) 1) where
    bit_jumps : (j : ℕ) → get_or w (r.sp + 0) 0 % 2 ≡ bit → Leads s (r.counter + 2) (integer_of 8 d) j
        → run s shared 1 (at_work w r) ≡ at_work w (down_to (r.sp + 1) (moved r (r.sp + 1) j))
    unfolding effect asks written
    bit_jumps j is l =
        let h = coded s b (d ∷ []) r.counter at.code at.are in
        let goal = leads (r.counter + 2) d j l.sum in
        let yes = eq-eqb (get_or w (r.sp + 0) 0 % 2) bit is in
        last _ _ _
        (rw (yes, goal) at
        (goes_on s shared w r (r.sp + 1) (r.counter + 2) (decoded h.0 e (one-SB h.1.0 (omega arith)) refl) (omega arith) at.some
        (rw (yes, goal, inside_holds 22 (length s) j l.low l.high), tt) refl (omega (arith, at.low))))

    bit_passes : (get_or w (r.sp + 0) 0 % 2 ≡ bit → ⊥) → run s shared 1 (at_work w r) ≡ at_work w (down_to (r.sp + 1) (moved r (r.sp + 1) (r.counter + 2)))
    unfolding effect asks written
    bit_passes is =
        let h = coded s b (d ∷ []) r.counter at.code at.are in
        let no = ne_eqb (get_or w (r.sp + 0) 0 % 2) bit is in
        last _ _ _
        (rw no at
        (goes_on s shared w r (r.sp + 1) (r.counter + 2) (decoded h.0 e (one-SB h.1.0 (omega arith)) refl) (omega arith) at.some
        (rw no, tt) refl (omega (arith, at.low))))

  -- ---- the subrange check, TOS-1 <= TOS-2 <= TOS

  abbrev tos : ℕ → ℕ
  tos k = get_or w (r.sp + k) 0

  abbrev between : Bool
  between = ordered 16 (tos 1) (tos 2) && ordered 16 (tos 2) (tos 0)

  asked_between : (eqb (leq_of (tos 1) (tos 2)) 1 && eqb (leq_of (tos 2) (tos 0)) 1) ≡ between
  unfolding leq_of
  asked_between = ap₂ ◌&&◌ (truth_one (ordered 16 _ _)) (truth_one (ordered 16 _ _))

  chk : (x : Bool) → between ≡ x → At s shared w r (203 ∷ []) 3 → step s shared (at_work w r)
      ≡ cond x (at_work w (down_to (r.sp + 2) (moved r (r.sp + 2) (r.counter + 1)))) (record { words = w; registers = r; kind = faulted 10 r.counter })
  unfolding opcode row_in appendix_b effect asks written first_fault ground_for is_ready place_of
  chk true f at =
      goes_on _ _ _ _ (r.sp + 2) (r.counter + 1) (decoded (coded s 203 [] r.counter at.code at.are).0 refl no_operand refl)
      (omega arith) at.some (ap not (asked_between ∙ f), tt) refl (omega (arith, at.low))
  chk false f at =
      step_fault s shared (at_work w r) refl
      (judged_at s shared w r {n = r.counter + 1} {sp = r.sp + 2} (decoded (coded s 203 [] r.counter at.code at.are).0 refl no_operand refl) (omega arith)
      ∙ rw (le-ltb (length w) (r.sp + 3) at.some, ap not (asked_between ∙ f)))

-- ---- the walk of links

onward_cond : (w : List ℕ) (b x : ℕ) (ok : Bool) (l : Link) → onward w b (cond ok l broken) ≡ cond ok (onward w b l) broken
onward_cond w b x true l = refl
onward_cond w b x false l = refl

follow_add : (w : List ℕ) (m a b : ℕ) → follow w m (a + b) ≡ onward w b (follow w m a)
unfolding follow
follow_add w m zero b = rw (zero-add b)
follow_add w m (suc a) b =
    rw (suc-add a b, follow_add w (get_or w m 0) a b) (sym (onward_cond w b m (pointer w (get_or w m 0)) (follow w (get_or w m 0) a)))

pub walks : (w : List ℕ) (m : ℕ) → Walks w m
unfolding follow
walks w m =
    record {
      none = refl;
      one = refl;
      both = follow_add w m;
      arrives = λ d x low high e. subst (Arrives w) e (follow_arrives w d m low high);
    }

-- ---- the laws, each with its rows of appendix B

pub cases : (s shared w : List ℕ) (r : Registers) → Cases s shared w r
unfolding opcode row_in appendix_b follow reached ordered effect asks written word_at eq_of truth
cases s shared w r =
    let c = r.counter in
    let i = r.sp in
    let a = get_or w (i + 1) 0 in
    let v = get_or w (i + 0) 0 in
    record {
      STL-LDL = λ x at. store_load s shared w r (up 0) r.m 164 135 x (λ v. refl) refl refl at;
      SRO-LDO = λ x at. store_load s shared w r globals 1 165 133 x (λ v. refl) refl refl at;
      STO-SIND0 = λ lo hi at same low high small apart.
          let h = coded s 196 (129 ∷ lo ∷ hi ∷ 120 ∷ []) c at.code at.are in
          let k = lo + 256 * hi in
          let w₁ = set w a v in
          let w₂ = set w₁ (i + 1) k in
          let size₁ : length w₁ ≡ length w = length-set w a v in
          let size₂ : length w₂ ≡ length w = length-set w₁ (i + 1) k ∙ size₁ in
          let some : i + 2 ≤ length w = at.some in
          let deep : min (min (min r.lowest (i + 2)) (i + 1)) (i + 1) ≡ min r.lowest (i + 1) = omega arith in
          let pushed : get_or w₂ (i + 1 + 0) 0 ≡ a = read_same w₁ (i + 1) (i + 1 + 0) k (omega arith) (omega arith) ∙ sym same in
          let found : get_or w₂ (a + 0) 0 ≡ v = read_other w₁ (i + 1) (a + 0) k apart (omega arith) ∙ get_or-set_same w a v 0 high in
          more _ _ _
          (goes_on _ _ _ _ (i + 2) (c + 1) (decoded h.0 refl no_operand refl) (omega arith) some
          (rw (inside_holds 1 (length w) a low high), tt) refl (omega (arith, at.low)))
          2
          (more _ _ _
          (goes_on _ _ _ _ (i + 1) (c + 4) (decoded h.1.0 refl (one-W h.1.1.0 (omega arith) h.1.1.1.0 (omega arith)) (omega arith))
          (omega arith) (omega arith) tt refl (omega (arith, at.low)))
          1
          (last _ _ _
          (goes_on _ _ _ _ (i + 1) (c + 5) (decoded h.1.1.1.1.0 refl no_operand (omega arith)) (omega arith) (omega arith)
          (rw (pushed, ne_eqb a 0 (λ e. omega arith), le-leb (a + 0) 65535 (omega arith), inside_holds 1 (length w₂) (a + 0) (omega arith) (omega arith)), tt)
          refl (omega (arith, at.low)))
          ∙ rw (deep, pushed, lt-ltb (a + 0) 32768 (omega arith), found, set-set w₁ (i + 1) k v)));
      UJP = λ d j at l.
          let h = coded s 138 (d ∷ []) c at.code at.are in
          let goal = leads (c + 2) d j l.sum in
          last _ _ _
          (rw goal at
          (goes_on s shared w r i (c + 2) (decoded h.0 refl (one-SB h.1.0 (omega arith)) refl) (omega arith) (omega (arith, at.some))
          (rw (goal, inside_holds 22 (length s) j l.low l.high), tt) refl at.low));
      FJP-jumps = λ d j at. bit_jumps s shared w r 212 0 d refl at j;
      TJP-jumps = λ d j at. bit_jumps s shared w r 241 1 d refl at j;
      FJP-passes = λ d at odd. bit_passes s shared w r 212 0 d refl at (λ even. omega arith);
      TJP-passes = λ d at even. bit_passes s shared w r 241 1 d refl at (λ odd. omega arith);
      CHK = chk s shared w r _ refl;
      DUP1-EQUI = λ at room.
          let h = coded s 226 (176 ∷ []) c at.code at.are in
          let some : i + 1 ≤ length w = at.some in
          let w₁ = set w (i - 1) v in
          let size : length w₁ ≡ length w = length-set w (i - 1) v in
          let deep : min (min r.lowest (i - 1)) i ≡ min r.lowest (i - 1) = omega arith in
          let below_top : get_or w₁ (i - 1 + 1) 0 ≡ v = read_other w (i - 1) (i - 1 + 1) v {k = i} (λ e. omega arith) (omega arith) ∙ zeroth w i in
          let on-top : get_or w₁ (i - 1 + 0) 0 ≡ v = read_same w (i - 1) (i - 1 + 0) v (omega arith) (omega arith) in
          more _ _ _ (goes_on _ _ _ _ (i - 1) (c + 1) (decoded h.0 refl no_operand refl) (omega arith) some tt refl (omega arith)) 1
          (last _ _ _
          (goes_on _ _ _ _ i (c + 2) (decoded h.1.0 refl no_operand (omega arith)) (omega arith) (omega arith) tt refl (omega arith))
          ∙ rw (deep, below_top, on-top, eq-eqb v v refl));
      SWAP = λ at.
          last _ _ _
          (goes_on _ _ _ _ i (c + 1) (decoded (coded s 189 [] c at.code at.are).0 refl no_operand refl) (omega arith) at.some tt refl at.low);
      SWAP-SWAP = λ at.
          let h = coded s 189 (189 ∷ []) c at.code at.are in
          let some : i + 2 ≤ length w = at.some in
          let w₀ = set w i a in
          let w₁ = set w₀ (i + 1) v in
          let size : length w₀ ≡ length w = length-set w i a in
          let size₁ : length w₁ ≡ length w = length-set w₀ (i + 1) v ∙ size in
          let apart : i ≡ i + 1 → ⊥ = λ e. omega arith in
          let top : get_or w₁ (i + 0) 0 ≡ a = read_other w₀ (i + 1) (i + 0) v apart (omega arith) ∙ get_or-set_same w i a 0 (omega arith) in
          let next : get_or w₁ (i + 1) 0 ≡ v = get_or-set_same w₀ (i + 1) v 0 (omega arith) in
          let deep : min (min r.lowest i) i ≡ min r.lowest i = omega arith in
          more _ _ _ (goes_on _ _ _ _ i (c + 1) (decoded h.0 refl no_operand refl) (omega arith) some tt refl at.low) 1
          (last _ _ _
          (goes_on _ _ _ _ i (c + 2) (decoded h.1.0 refl no_operand (omega arith)) (omega arith) (omega arith) tt refl at.low)
          ∙ rw (deep, next, top, ← (set_comm w₀ i (i + 1) v v apart), set-set w i a v, set_same w i v (zeroth w i), set-set w (i + 1) v a, set_same w (i + 1) a refl));
    }
