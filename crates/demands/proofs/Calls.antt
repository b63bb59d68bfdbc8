-- A call and its return give back the caller's registers, and when a call is fault 8: `calls` of specs/Cases. The mark that the call wrote is the mark
-- that the return reads.
-- Above: Demands; below: specs/Cases, Steps, Judged's order of checks, Frame.
use Prim.Native.Nat.{ℕ, ◌+◌, ◌-◌, ◌≤◌, ◌<◌}
use native.Mathlib.Omega.{arith}
use mathlib.Core.Path.{◌≡◌, refl, sym, ap, ◌∙◌}
use mathlib.Core.List.{List, [], ◌∷◌, ◌++◌}
use mathlib.Core.Logic.{◌↔◌}
use mathlib.Core.Bool.{Bool, true, false, not, cond, false≢true}
use lib.ListN.{length, get_or}
use lib.Dec.{ltb}
use borrow.Author.Tests.{le-leb, le-ltb, ne_eqb, ltb-false}
use Rattle.basis.proofs.Bools.{inside_holds}
use Rattle.segment.specs.Head.{count, datasize}
use Rattle.operand.specs.Operand.{UB, DB}
use Rattle.pmachine.specs.State.{Registers, Kind, ready, finished, faulted, State}
use Rattle.pmachine.specs.Meaning.{Whose, globals, up, call, return}
use Rattle.pmachine.specs.Opcode.{carried, one, two, opcode, row_in, appendix_b}
use Rattle.pmachine.specs.Decoding.{instruction, decode}
use Rattle.pmachine.specs.Step.{Outcome, fault, goes, first_fault, floor, callable, new_record, mark_at, resumes, Link, reaches, broken, is_broken, record_of, reached, ground_for, asks, effect}
use Rattle.pmachine.specs.Sound.{Ranged}
use Rattle.pmachine.specs.Run.{is_ready, written, place_of, settled, step}
use Rattle.demands.specs.Cases.{at_work, down_to, stopped, At, CallReturns, CallFaults, Call, Calls}
use Rattle.pmachine.proofs.Judged.{first_holds}
use Rattle.pmachine.proofs.Runs.{step_ready}
use Rattle.pmachine.proofs.Frame.{written_at}
use Rattle.demands.proofs.Steps.{coded, inst, one-UB, one-B, then-UB, decoded, checks_at, judged_at, goes_on}

-- what a call has left that goes on: words u, registers q
record Called (s w u : List ℕ) (r q : Registers) (p : Whose) (k n : ℕ) : Type 0 where
  linked : is_broken (reached w r.m p) ≡ false
  low : floor s ≤ new_record s r.sp k
  words : u ≡ written w (new_record s r.sp k) (record_of (reached w r.m p) ∷ r.m ∷ n ∷ 1 ∷ r.routine ∷ [])
  record_is : q.m ≡ new_record s r.sp k

called : (s shared w u : List ℕ) (r q : Registers) (p : Whose) (k n : ℕ) → decode s r.counter ≡ instruction (inst (call p k) 0 0 n)
    → step s shared (at_work w r) ≡ at_work u q → Called s w u r q p k n
unfolding effect asks ground_for settled is_ready
called s shared w u r q p k n d e =
    let z : r.sp + 0 - 0 ≡ r.sp = omega arith in
    first_holds (λ (o : Outcome). settled s w r o ≡ at_work u q → Called s w u r q p k n) (checks_at s shared w r (call p k) 0 n r.sp) _
    (λ f _ _ bad.
    let kinds : faulted f (place_of s f r.counter) ≡ ready = ap (λ (t : State). t.kind) bad in
    let never : ◌≡◌ {A = ℕ} 0 1 = cc in
    absurd (omega arith))
    (λ c good. record {
      linked = c.nine;
      low = ltb-false (new_record s r.sp k) (floor s) c.four;
      words = sym (ap (λ (t : State). t.words) good);
      record_is = sym (ap (λ (t : State). t.registers.m) good);
    })
    (ap (settled s w r) (sym (judged_at s shared w r d z)) ∙ sym (step_ready s shared (at_work w r) refl) ∙ e)

-- the mark that a call writes is the mark at its record
mark_written : (w : List ℕ) (m a b c d e : ℕ) → m + 5 ≤ length w → mark_at (written w m (a ∷ b ∷ c ∷ d ∷ e ∷ [])) m ≡ a ∷ b ∷ c ∷ d ∷ e ∷ []
unfolding mark_at
mark_written w m a b c d e fits =
    let ws : List ℕ = a ∷ b ∷ c ∷ d ∷ e ∷ [] in
    let z : m + 0 ≡ m = omega arith in
    let at : (i : ℕ) → i < 5 → get_or (written w m ws) (m + i) 0 ≡ get_or ws i 0 = λ i h. written_at ws w m i fits h in
    rw (rw z at (at 0 (omega arith)), at 1 (omega arith), at 2 (omega arith), at 3 (omega arith), at 4 (omega arith))

-- a mark that passes the checks of a return
resumes_by : (s v : List ℕ) (static m n routine sp : ℕ) → 1 ≤ m → m + 5 ≤ length v → 1 ≤ routine → routine ≤ count s → 22 ≤ n → n ≤ length s
    → floor s ≤ sp → sp ≤ length v → resumes s v (static ∷ m ∷ n ∷ 1 ∷ routine ∷ []) sp ≡ true
unfolding resumes
resumes_by s v static m n routine sp a b c d e f g h =
    rw (
      le-leb 1 m a,
      le-leb (m + 5) (length v) b,
      inside_holds 1 (count s + 1) routine c (omega arith),
      inside_holds 22 (length s + 1) n e (omega arith),
      inside_holds (floor s) (length v + 1) sp g (omega arith),
    )

module _ (s shared w u v : List ℕ) (r q a : Registers) (p : Whose) (k n b : ℕ) (rg : Ranged s (length w) r) (h : Called s w u r q p k n) where
  abbrev marked : List ℕ
  marked = record_of (reached w r.m p) ∷ r.m ∷ n ∷ 1 ∷ r.routine ∷ []

  mark_is : mark_at u q.m ≡ marked
  mark_is =
      let low = h.low in
      let high = rg.sp_high in
      rw (h.words, h.record_is) (mark_written w (new_record s r.sp k) _ r.m n 1 r.routine (omega arith))

  parent_is : reached w r.m p ≡ reaches (get_or u q.m 0)
  unfolding mark_at
  parent_is = whole (reached w r.m p) h.linked ∙ ap (λ (l : List ℕ). reaches (get_or l 0 0)) (sym mark_is)
    where
      whole : (l : Link) → is_broken l ≡ false → l ≡ reaches (record_of l)
      whole (reaches m) e = refl
      whole broken e = absurd (false≢true (sym e))

  returns : (after : ℕ) → decode s a.counter ≡ instruction (inst (return (datasize s k + b)) 0 0 after) → length v ≡ length w → mark_at v q.m ≡ mark_at u q.m
      → a.m ≡ q.m → a.sp ≤ length v → r.sp + b ≤ length w → 22 ≤ n → n ≤ length s
      → step s shared (at_work v a) ≡ at_work v (down_to (r.sp + b) (record { sp = r.sp + b; m = r.m; counter = n; routine = r.routine; lowest = a.lowest }))
  unfolding effect asks written
  returns after d size kept same-m on_stack room from to =
      let low = h.low in
      let high = rg.sp_high in
      let m-is : a.m ≡ new_record s r.sp k = same-m ∙ h.record_is in
      let mark : mark_at v a.m ≡ marked = ap (mark_at v) same-m ∙ kept ∙ mark_is in
      let sp-is : a.m + 5 + (datasize s k + b) ≡ r.sp + b = omega arith in
      let not-one = ne_eqb a.m 1 (λ e. omega arith) in
      let ok = resumes_by s v (record_of (reached w r.m p)) r.m n r.routine (r.sp + b) rg.m_low (omega (arith, rg.m_high)) rg.routine_low rg.routine_high
      from to (omega arith) (omega arith) in
      goes_on s shared v a a.sp after d (omega arith) (omega arith) (rw (not-one, mark, sp-is, ok), tt)
      {q = record { sp = r.sp + b; m = r.m; counter = n; routine = r.routine; lowest = a.lowest }}
      {at = a.sp} {ws = []} (rw (not-one, mark, sp-is)) (omega arith)

-- the instruction of a call, from its bytes, and the byte after it
abbrev Reading : List ℕ → Whose → Type 0
Reading bytes p =
    (s shared w : List ℕ) (r : Registers) (k : ℕ) → At s shared w r (bytes ++ (k ∷ [])) 0
    → (decode s r.counter ≡ instruction (inst (call p k) 0 0 (r.counter + length bytes + 1))) × (r.counter + length bytes + 1 ≤ length s)

call_returns : (bytes : List ℕ) (p : Whose) → Reading bytes p → CallReturns bytes p
unfolding opcode row_in appendix_b
call_returns bytes p reading s shared w u v r q a k b rg at gone back few room same-m size kept =
    let n = r.counter + length bytes + 1 in
    let i = reading s shared w r k at in
    let h = called s shared w u r q p k n i.0 gone in
    let j = coded s 150 ((datasize s k + b) ∷ []) a.counter back.code back.are in (
      parent_is s shared w u v r q a p k n b rg h,
      returns s shared w u v r q a p k n b rg h (a.counter + 2) (decoded j.0 refl (one-B j.1.0 (omega arith) few) refl) size kept same-m
          (omega (arith, back.some)) room (omega (arith, at.code)) i.1,
    )

-- a call's checks in their order, 9, 8 and 4: which of them is 8's
call_faults : (bytes : List ℕ) (p : Whose) → Reading bytes p → CallFaults bytes p
unfolding is_ready place_of settled asks effect ground_for first_fault
call_faults bytes p reading s shared w r k at =
    let z : r.sp + 0 - 0 ≡ r.sp = omega arith in
    let judged = step_ready s shared (at_work w r) refl ∙ ap (settled s w r) (judged_at s shared w r (reading s shared w r k at).0 z) in
    rw (judged, le-ltb (length w) (r.sp + 0) at.some) (go (is_broken (reached w r.m p)) (callable s k) (ltb (new_record s r.sp k) (floor s)) _ _ _)
  where
    number : Kind → ℕ
    number ready = 0
    number finished = 0
    number (faulted n place) = n

    other : {t : State} {n : ℕ} → number t.kind ≡ n → (n ≡ 8 → ⊥) → t ≡ stopped w r 8 → ⊥
    other e differs h = differs (sym e ∙ ap (λ (x : State). number x.kind) h)

    go : (b c d : Bool) (q : Registers) (i : ℕ) (ws : List ℕ)
        → (settled s w r (cond b (fault 9) (cond (not c) (fault 8) (cond d (fault 4) (goes q i ws)))) ≡ stopped w r 8) ↔ ((b ≡ false) × (c ≡ false))
    go true c d q i ws = (λ h. absurd (other refl (λ e. omega (arith, e)) h), λ h. absurd (false≢true (sym h.0)))
    go false false d q i ws = (λ h. (refl, refl), λ h. refl)
    go false true true q i ws = (λ h. absurd (other refl (λ e. omega (arith, e)) h), λ h. absurd (false≢true (sym h.1)))
    go false true false q i ws = (λ h. absurd (other refl (λ e. omega (arith, e)) h), λ h. absurd (false≢true (sym h.1)))

both : (bytes : List ℕ) (p : Whose) → Reading bytes p → Call bytes p
both bytes p reading = record { comes_back = call_returns bytes p reading; faults_with_eight = call_faults bytes p reading }

one_operand : (first : ℕ) (p : Whose) → opcode first ≡ carried (UB ∷ []) 0 0 (λ v. call p (one v)) → Call (first ∷ []) p
one_operand first p e =
    both (first ∷ []) p
    (λ s shared w r k at.
    let h = coded s first (k ∷ []) r.counter at.code at.are in
    (decoded h.0 e (one-UB h.1.0 (omega arith)) refl, omega (arith, h.1.0)))

two_operands : (first d : ℕ) → opcode first ≡ carried (DB ∷ UB ∷ []) 0 0 (λ v. call (up (one v)) (two v)) → d ≤ 127 → Call (first ∷ d ∷ []) (up d)
two_operands first d e few =
    both (first ∷ d ∷ []) (up d)
    (λ s shared w r k at.
    let h = coded s first (d ∷ k ∷ []) r.counter at.code at.are in
    (decoded h.0 e (then-UB h.1.0 (omega arith) few h.1.1.0 (omega arith)) refl, omega (arith, h.1.1.0)))

-- ---- the law, with its rows of appendix B

pub calls : Calls
unfolding opcode row_in appendix_b
calls =
    record {
      CPL = one_operand 144 (up 0) refl;
      CPG = one_operand 145 globals refl;
      CPI = λ d. two_operands 146 d refl;
      SCPI1 = one_operand 239 (up 1) refl;
      SCPI2 = one_operand 240 (up 2) refl;
    }
