-- The lowest stack pointer reached: the laws of specs/Lowest. Above: Demands; below: Ranges, Judged, Frame, Runs.
use Prim.Native.Nat.{ℕ, zero, suc, ◌+◌, ◌-◌, ◌≤◌, min}
use native.Mathlib.Omega.{arith, min_cases}
use mathlib.Core.Path.{◌≡◌, refl, sym, ap, ◌∙◌}
use mathlib.Core.List.{List}
use mathlib.Core.Logic.{◌⊎◌, ⊎_elim, inl, inr}
use mathlib.Core.Bool.{true, false, false≢true}
use lib.Dec.{eqb}
use Rattle.basis.proofs.Bools.{cond_holds}
use Rattle.pmachine.specs.State.{Registers, State}
use Rattle.pmachine.specs.Meaning.{Meaning, constant, pool_offset, constants, load, address, store, index, indirect, unary}
use Rattle.pmachine.specs.Meaning.{binary, division, duplicate, swap, nothing, subrange, jump, jump_if, case_jump, call, return}
use Rattle.pmachine.specs.Decoding.{Decoded, instruction, faulty, decode}
use Rattle.pmachine.specs.Step.{Outcome, fault, finish, goes, lowering, effect, outcome, judged_by, judge}
use Rattle.pmachine.specs.Run.{is_ready, settled, step, run}
use Rattle.pmachine.specs.Sound.{Ranged, starting, opened}
use Rattle.pmachine.specs.Lowest.{StepLowest, Reached, RunLowest, Deepest, FreshLowest, OpeningLowest, with_lowest, SoundLowest}
use Rattle.pmachine.proofs.Ranges.{ranged, kind_ranged, in_range_lem}
use Rattle.pmachine.proofs.Rows.{either_way}
use Rattle.pmachine.proofs.Judged.{first_holds}
use Rattle.pmachine.proofs.Runs.{step_ready, step_stopped, run_none, run_suc, run_add}
use Rattle.pmachine.proofs.Frame.{step_kept}

-- ---- one step

module _ (s shared w : List ℕ) (r : Registers) where
  -- SP after the step lowers what there was
  abbrev Low : Outcome → Type 0
  Low (fault n) = Unit {0}
  Low finish = Unit {0}
  Low (goes q at ws) = q.lowest ≡ min r.lowest q.sp

  effect_low : (sp next : ℕ) (m : Meaning) → Low (lowering (effect s shared w r sp next m))
  unfolding effect
  effect_low sp next (constant v) = refl
  effect_low sp next (pool_offset b) = refl
  effect_low sp next (constants mode b n) = refl
  effect_low sp next (load p x) = refl
  effect_low sp next (address p x) = refl
  effect_low sp next (store p x) = refl
  effect_low sp next (index i) = refl
  effect_low sp next indirect = refl
  effect_low sp next (unary f) = refl
  effect_low sp next (binary f) = refl
  effect_low sp next (division f) = refl
  effect_low sp next duplicate = refl
  effect_low sp next swap = refl
  effect_low sp next nothing = refl
  effect_low sp next subrange = refl
  effect_low sp next (jump d) = refl
  effect_low sp next (jump_if b d) = refl
  effect_low sp next (case_jump b) = refl
  effect_low sp next (call p k) = refl
  effect_low sp next (return b) = cond_holds (λ (o : Outcome). Low (lowering o)) (eqb r.m 1) (λ _. tt) (λ _. refl)

  by_low : (x : Decoded) → Low (judged_by s shared w r x)
  unfolding judged_by outcome
  by_low (instruction i) = first_holds Low _ _ (λ n _ _. tt) (λ _. effect_low _ _ i.does)
  by_low (faulty n) = tt

  judge_low : Low (judge s shared w r)
  unfolding judge
  judge_low = by_low (decode s r.counter)

settled_low : (s shared w : List ℕ) (r : Registers) (o : Outcome) → Low s shared w r o → is_ready (settled s w r o).kind ≡ true
    → (settled s w r o).registers.lowest ≡ min r.lowest (settled s w r o).registers.sp
unfolding settled is_ready
settled_low s shared w r (fault n) h e = absurd (false≢true e)
settled_low s shared w r finish h e = absurd (false≢true e)
settled_low s shared w r (goes q at ws) h e = h

pub step_lowest : StepLowest
step_lowest s shared t e =
    let is = step_ready s shared t e in
    let low = settled_low s shared t.words t.registers (judge s shared t.words t.registers) (judge_low s shared t.words t.registers) in
    (λ go. rw is (low (rw is at go)), λ stop. ap (λ (r : Registers). r.lowest) (step_kept s shared t e stop).1)

-- ---- a run

module _ (s shared : List ℕ) where
  -- of a step from any state: it went on, or the registers are as they were
  step_went : (t : State) → is_ready (step s shared t).kind ≡ true
      → (step s shared t).registers.lowest ≡ min t.registers.lowest (step s shared t).registers.sp
  step_went t h =
      either_way (is_ready t.kind) (λ e. (step_lowest s shared t e).0 h) (λ e. absurd (false≢true (sym e ∙ (rw (step_stopped s shared t e) at h))))

  step_stays : (t : State) → is_ready (step s shared t).kind ≡ false → (step s shared t).registers ≡ t.registers
  step_stays t h =
      either_way (is_ready t.kind) (λ e. (step_kept s shared t e h).1) (λ e. ap (λ (u : State). u.registers) (step_stopped s shared t e))

  step_falls : (t : State) → (step s shared t).registers.lowest ≤ t.registers.lowest
  step_falls t =
      either_way (is_ready (step s shared t).kind) (λ e. omega (arith, step_went t e)) (λ e. rw (step_stays t e) (omega arith))

  -- below SP it stays below SP
  step_under : (t : State) → t.registers.lowest ≤ t.registers.sp → (step s shared t).registers.lowest ≤ (step s shared t).registers.sp
  step_under t h =
      either_way (is_ready (step s shared t).kind) (λ e. omega (arith, step_went t e)) (λ e. rw (step_stays t e) h)

  run_last : (k : ℕ) (t : State) → run s shared (suc k) t ≡ step s shared (run s shared k t)
  run_last k t =
      let e : suc k ≡ k + 1 = omega arith in
      rw (e, run_add s shared k 1 t, run_suc s shared 0 (run s shared k t), run_none s shared (step s shared (run s shared k t)))

  run_falls : (k : ℕ) (t : State) → (run s shared k t).registers.lowest ≤ t.registers.lowest
  run_falls zero t = rw (run_none s shared t) (omega arith)
  run_falls (suc k) t = rw (run_last k t) (omega (arith, step_falls (run s shared k t), run_falls k t))

  -- and after more steps it is no higher
  run_more : (j k : ℕ) (t : State) → j ≤ k → (run s shared k t).registers.lowest ≤ (run s shared j t).registers.lowest
  run_more j k t h =
      let e : k ≡ j + (k - j) = omega arith in
      rw (e, run_add s shared j (k - j) t) (run_falls (k - j) (run s shared j t))

  run_under : (k : ℕ) (t : State) → t.registers.lowest ≤ t.registers.sp → (run s shared k t).registers.lowest ≤ (run s shared k t).registers.sp
  run_under zero t h = rw (run_none s shared t) h
  run_under (suc k) t h = rw (run_last k t) (step_under (run s shared k t) (run_under k t h))

  -- after a step that went on it is no higher than SP
  run_went : (j : ℕ) (t : State) → 1 ≤ j → is_ready (run s shared j t).kind ≡ true → (run s shared j t).registers.lowest ≤ (run s shared j t).registers.sp
  run_went zero t l h = absurd (omega arith)
  run_went (suc j) t l h = rw (run_last j t) (omega (arith, step_went (run s shared j t) (rw (run_last j t) at h)))

  later : (k : ℕ) (t : State) (x : ℕ) → Reached s shared k t x → Reached s shared (suc k) t x
  later k t x h = record { steps = h.steps; some = h.some; most = omega (arith, h.most); went = h.went; there = h.there }

  -- a step that leaves it
  as_before : (k : ℕ) (t : State) → ((run s shared k t).registers.lowest ≡ t.registers.lowest) ⊎ Reached s shared k t (run s shared k t).registers.lowest
      → (run s shared (suc k) t).registers.lowest ≡ (run s shared k t).registers.lowest
      → ((run s shared (suc k) t).registers.lowest ≡ t.registers.lowest) ⊎ Reached s shared (suc k) t (run s shared (suc k) t).registers.lowest
  as_before k t h e = ⊎_elim (λ p. inl (e ∙ p)) (λ q. inr (rw e (later k t _ q))) h

  -- it is one of them
  one_of : (k : ℕ) (t : State)
      → ((run s shared k t).registers.lowest ≡ t.registers.lowest) ⊎ Reached s shared k t (run s shared k t).registers.lowest
  one_of zero t = inl (ap (λ (u : State). u.registers.lowest) (run_none s shared t))
  one_of (suc k) t =
      either_way (is_ready (run s shared (suc k) t).kind)
      (λ h.
      let is = step_went (run s shared k t) (rw (run_last k t) at h) in
      min_cases (run s shared k t).registers.lowest (step s shared (run s shared k t)).registers.sp _
      (λ _ e. as_before k t (one_of k t) (ap (λ (u : State). u.registers.lowest) (run_last k t) ∙ is ∙ e))
      (λ _ e. inr (record { steps = suc k; some = omega arith; most = omega arith; went = h; there = rw (run_last k t) (sym (is ∙ e)) })))
      (λ h. as_before k t (one_of k t) (rw (run_last k t) (ap (λ (r : Registers). r.lowest) (step_stays (run s shared k t) (rw (run_last k t) at h)))))

pub run_lowest : RunLowest
run_lowest s shared k t =
    record {
      before = run_falls s shared k t;
      each = λ x h. rw (← h.there) (omega (arith, run_more s shared h.steps k t h.most, run_went s shared h.steps t h.some h.went));
      one = one_of s shared k t;
    }

pub fresh_lowest : FreshLowest
fresh_lowest s shared k t is =
    ⊎_elim
    (λ e. from 0 (omega arith) (ap (λ (u : State). u.registers.sp) (run_none s shared t) ∙ sym is ∙ sym e))
    (λ h. from h.steps h.most h.there) (one_of s shared k t)
  where
    from : (j : ℕ) → j ≤ k → (run s shared j t).registers.sp ≡ (run s shared k t).registers.lowest → Deepest s shared k t
    from j h e =
        record {
          each = λ i m. omega (arith, run_more s shared i k t m, run_under s shared i t (omega arith));
          steps = j;
          most = h;
          there = e;
        }

pub opening_lowest : OpeningLowest
unfolding opened starting
opening_lowest s shared l k = fresh_lowest s shared k (opened s l) refl

-- ---- the range

pub sound_lowest : SoundLowest
sound_lowest s l r k x h =
    let g = ranged s l r k h in (
      λ e. let z = ranged s l (with_lowest r x) k e in (z.lowest_low, z.lowest_high),
      λ b.
          let deep = b.0 in
          let most = b.1 in
          let all : Ranged s l (with_lowest r x) = search in
          in_range_lem s l (with_lowest r x) k all (kind_ranged s l r k h),
    )
