-- Where a step faults: the laws of specs/Places. Above: Demands, and whoever asks where the bytes ran out; below: Decoded, Judged, Keeps.
use Prim.Native.Nat.{ℕ, zero, suc}
use native.Mathlib.Omega.{arith}
use native.Mathlib.Decide.{dec_le}
use mathlib.Core.Path.{◌≡◌, refl, sym, ap, ap₂, ◌∙◌, subst}
use mathlib.Core.Logic.{◌↔◌}
use mathlib.Core.List.{List}
use mathlib.Core.Bool.{true, false≢true}
use lib.Dec.{eqb}
use lib.ListN.{length}
use borrow.Author.Tests.{ne_eqb}
use Rattle.basis.proofs.Bools.{cond_holds}
use Rattle.segment.specs.Head.{words}
use Rattle.pmachine.specs.State.{Registers, Kind, ready, finished, faulted, State}
use Rattle.pmachine.specs.Meaning.{Meaning, constant, pool_offset, constants, load, address, store, index, indirect, unary}
use Rattle.pmachine.specs.Meaning.{binary, division, duplicate, swap, nothing, subrange, jump, jump_if, case_jump, call, return}
use Rattle.pmachine.specs.Decoding.{Decoded, instruction, faulty, decode, fetches_to}
use Rattle.pmachine.specs.Step.{Outcome, fault, finish, goes, effect, outcome, judged_by, judge, lowering, done}
use Rattle.pmachine.specs.Run.{is_ready, place_of, settled, step, run}
use Rattle.pmachine.specs.Sound.{Loaded}
use Rattle.pmachine.specs.Places.{FaultPlace, FaultOne, FirstMissing, PlaceOutside, PlaceOthers, PlaceAtEnd}
use Rattle.pmachine.proofs.Rows.{decided}
use Rattle.pmachine.proofs.Decoded.{reaches, outside_stays, past_outside}
use Rattle.pmachine.proofs.Judged.{first_holds, Good, judge_good}
use Rattle.pmachine.proofs.Keeps.{Whole, whole, step_whole}
use Rattle.pmachine.proofs.Runs.{step_ready, run_none, run_suc}

-- ---- number and place

settled_place : (s w : List ℕ) (r : Registers) (n p : ℕ) (o : Outcome)
    → ((settled s w r o).kind ≡ faulted n p) ↔ ((o ≡ fault n) × (p ≡ place_of s n r.counter))
unfolding settled
settled_place s w r n p (fault m) = (
  λ h. let a : m ≡ n = cc in let b : place_of s m r.counter ≡ p = cc in (ap fault a, sym b ∙ ap (λ (k : ℕ). place_of s k r.counter) a),
  λ h. let o : fault m ≡ fault n = h.0 in let a : m ≡ n = cc in ap₂ faulted a (ap (λ (k : ℕ). place_of s k r.counter) a ∙ sym h.1),
)
settled_place s w r n p finish = (
  λ h. let z : ◌≡◌ {A = ℕ} 0 1 = cc in absurd (omega arith),
  λ h. let o : finish ≡ fault n = h.0 in let z : ◌≡◌ {A = ℕ} 0 1 = cc in absurd (omega arith),
)
settled_place s w r n p (goes q at ws) = (
  λ h. let z : ◌≡◌ {A = ℕ} 0 1 = cc in absurd (omega arith),
  λ h. let o : goes q at ws ≡ fault n = h.0 in let z : ◌≡◌ {A = ℕ} 0 1 = cc in absurd (omega arith),
)

pub fault_place : FaultPlace
fault_place s shared t n p e = rw (step_ready s shared t e) (settled_place s t.words t.registers n p (judge s shared t.words t.registers))

-- what happens where no check fails is no fault
abbrev Fine : Outcome → Type 0
Fine (fault n) = ⊥
Fine finish = Unit {0}
Fine (goes q at ws) = Unit {0}

lowering_fine : (o : Outcome) → Fine o → Fine (lowering o)
lowering_fine (fault n) h = h
lowering_fine finish h = tt
lowering_fine (goes q at ws) h = tt

module _ (s shared w : List ℕ) (r : Registers) where
  effect_fine : (sp next : ℕ) (m : Meaning) → Fine (effect s shared w r sp next m)
  unfolding effect
  effect_fine sp next (constant v) = tt
  effect_fine sp next (pool_offset b) = tt
  effect_fine sp next (constants mode b n) = tt
  effect_fine sp next (load p x) = tt
  effect_fine sp next (address p x) = tt
  effect_fine sp next (store p x) = tt
  effect_fine sp next (index i) = tt
  effect_fine sp next indirect = tt
  effect_fine sp next (unary f) = tt
  effect_fine sp next (binary f) = tt
  effect_fine sp next (division f) = tt
  effect_fine sp next duplicate = tt
  effect_fine sp next swap = tt
  effect_fine sp next nothing = tt
  effect_fine sp next subrange = tt
  effect_fine sp next (jump d) = tt
  effect_fine sp next (jump_if b d) = tt
  effect_fine sp next (case_jump b) = tt
  effect_fine sp next (call p k) = tt
  effect_fine sp next (return b) = cond_holds Fine (eqb r.m 1) (λ _. tt) (λ _. tt)

  by_one : (x : Decoded) → (judged_by s shared w r x ≡ fault 1) ↔ (x ≡ faulty 1)
  unfolding judged_by outcome
  by_one (instruction i) = (
    first_holds (λ (o : Outcome). o ≡ fault 1 → instruction i ≡ faulty 1) _ _
        (λ n low _ (e : fault n ≡ fault 1). let one : n ≡ 1 = cc in absurd (omega arith))
        (λ _ e. absurd (subst Fine e (lowering_fine (done s shared w r i) (effect_fine _ _ i.does)))),
    λ e. let z : ◌≡◌ {A = ℕ} 0 1 = cc in absurd (omega arith),
  )
  by_one (faulty n) = (λ (e : fault n ≡ fault 1). let one : n ≡ 1 = cc in ap faulty one, λ e. let one : n ≡ 1 = cc in ap fault one)

pub fault_one : FaultOne
unfolding judge
fault_one s shared w r = by_one s shared w r (decode s r.counter)

pub place_others : PlaceOthers
unfolding place_of
place_others s n at h = rw (ne_eqb n 1 h)

pub place_outside : PlaceOutside
unfolding place_of
place_outside s n at e = cond_holds (λ (p : ℕ). p ≡ at) (eqb n 1) (λ _. outside_stays s at e) (λ _. refl)

-- ---- the first byte that could not be fetched

pub first_missing : FirstMissing
unfolding place_of
first_missing s at low e =
    decided (dec_le at (length s))
    (λ h. let far = rw e at (reaches s at low h) in let end = far.cut_at refl in (far.from, omega (arith, end), λ i _ k. omega (arith, end, k)))
    (λ n. rw (outside_stays s at (past_outside s at (omega arith))) (omega arith, omega arith, λ i l k. absurd (omega arith)))

-- ---- in a session that soundness allows it is the segment's end

abbrev AtEnd : List ℕ → Kind → Type 0
AtEnd s ready = Unit {0}
AtEnd s finished = Unit {0}
AtEnd s (faulted n place) = n ≡ 1 → place ≡ length s

module _ (s shared : List ℕ) (l : ℕ) (ld : Loaded s) where
  settled_at_end : (w : List ℕ) (r : Registers) (o : Outcome) → Good s l (fetches_to s r.counter) o → AtEnd s (settled s w r o).kind
  unfolding settled place_of
  settled_at_end w r (fault n) g = λ one. rw one (g.2 one)
  settled_at_end w r finish g = tt
  settled_at_end w r (goes q at ws) g = tt

  step_at_end : (t : State) → Whole s l t → AtEnd s t.kind → AtEnd s (step s shared t).kind
  unfolding step
  step_at_end t h e =
      let w = t.words in
      let r = t.registers in
      let g = rw h.size at (judge_good s shared w r ld (rw h.size h.registers)) in
      cond_holds (λ (u : State). AtEnd s u.kind) (is_ready t.kind) (λ _. settled_at_end w r (judge s shared w r) g) (λ _. e)

  run_at_end : (k : ℕ) (t : State) → Whole s l t → AtEnd s t.kind → AtEnd s (run s shared k t).kind
  run_at_end zero t h e = rw (run_none s shared t) e
  run_at_end (suc k) t h e = rw (run_suc s shared k t) (run_at_end k (step s shared t) (step_whole s shared l ld t h) (step_at_end t h e))

ready_at_end : (s : List ℕ) (k : Kind) → is_ready k ≡ true → AtEnd s k
unfolding is_ready
ready_at_end s ready e = tt
ready_at_end s finished e = tt
ready_at_end s (faulted n place) e = absurd (false≢true e)

pub place_at_end : PlaceAtEnd
place_at_end s shared l ld k t size h e p q =
    let z = rw q at (run_at_end s shared l ld k t (whole s l t size h) (ready_at_end s t.kind e)) in
    z refl ∙ ld.even
