-- A step and a run keep what soundness says of a session on its segment, and the starting registers have it.
-- Above: session and bench; below: Judged, Ranges, Runs.
use Prim.Native.Nat.{ℕ, zero, suc, ◌≤◌}
use native.Mathlib.Omega.{arith}
use mathlib.Core.Path.{◌≡◌, ◌∙◌}
use mathlib.Core.List.{List}
use mathlib.Core.Bool.{true}
use lib.ListN.{length}
use lib.Dec.{eqb}
use Rattle.basis.proofs.Bools.{cond_holds}
use Rattle.segment.specs.Head.{start}
use Rattle.segment.proofs.Laws.{linked_some}
use Rattle.pmachine.specs.State.{Registers, State}
use Rattle.pmachine.specs.Step.{Outcome, fault, finish, goes, floor, judge}
use Rattle.pmachine.specs.Decoding.{fetches_to}
use Rattle.pmachine.specs.Run.{is_ready, place_of, settled, step, run}
use Rattle.pmachine.specs.Sound.{in_range, Ranged, starting, Loaded}
use Rattle.pmachine.specs.Kept.{StepKeeps, RunKeeps}
use Rattle.pmachine.proofs.Ranges.{KindRanged, ranged, kind_ranged, in_range_lem}
use Rattle.pmachine.proofs.Decoded.{reaches}
use Rattle.pmachine.proofs.Judged.{Good, judge_good}
use Rattle.pmachine.proofs.Runs.{written_length, run_none, run_suc}

-- a session on l words, in its ranges
pub record Whole (s : List ℕ) (l : ℕ) (t : State) : Type 0 where
  pub size : length t.words ≡ l
  pub registers : Ranged s l t.registers
  pub kind : KindRanged s t.kind

-- the place of a fault lies in the code or at its end
place_in : (s : List ℕ) (n at : ℕ) → 22 ≤ at → at ≤ length s → (22 ≤ place_of s n at) × (place_of s n at ≤ length s)
unfolding place_of
place_in s n at low high =
    let far = reaches s at low high in
    cond_holds (λ (p : ℕ). (22 ≤ p) × (p ≤ length s)) (eqb n 1) (λ _. (omega (arith, far.from), far.to)) (λ _. (low, high))

module _ (s shared : List ℕ) (l : ℕ) (ld : Loaded s) where
  settled_whole : (w : List ℕ) (r : Registers) (o : Outcome) → length w ≡ l → Ranged s l r → Good s l (fetches_to s r.counter) o
      → Whole s l (settled s w r o)
  unfolding settled
  settled_whole w r (fault n) e h g =
      let at = place_in s n r.counter h.counter_low h.counter_high in
      record { size = e; registers = h; kind = (g.0, g.1, at.0, at.1) }
  settled_whole w r finish e h g = record { size = e; registers = h; kind = tt }
  settled_whole w r (goes q at ws) e h g = record { size = written_length ws w at ∙ e; registers = g.registers; kind = tt }

  pub step_whole : (t : State) → Whole s l t → Whole s l (step s shared t)
  unfolding step
  step_whole t h =
      let w = t.words in
      let r = t.registers in
      let g = rw h.size at (judge_good s shared w r ld (rw h.size h.registers)) in
      cond_holds (Whole s l) (is_ready t.kind) (λ _. settled_whole w r (judge s shared w r) h.size h.registers g) (λ _. h)

  pub run_whole : (k : ℕ) (t : State) → Whole s l t → Whole s l (run s shared k t)
  run_whole zero t h = rw (run_none s shared t) h
  run_whole (suc k) t h = rw (run_suc s shared k t) (run_whole k (step s shared t) (step_whole t h))

-- the same, by the test
module _ (s : List ℕ) (l : ℕ) (t : State) where
  pub whole : length t.words ≡ l → in_range s l t.registers t.kind ≡ true → Whole s l t
  whole e h = record { size = e; registers = ranged s l t.registers t.kind h; kind = kind_ranged s l t.registers t.kind h }

  pub whole_in_range : Whole s l t → in_range s l t.registers t.kind ≡ true
  whole_in_range h = in_range_lem s l t.registers t.kind h.registers h.kind

pub step_keeps : StepKeeps
step_keeps s shared l ld t e h = whole_in_range s l (step s shared t) (step_whole s shared l ld t (whole s l t e h))

pub run_keeps : RunKeeps
run_keeps s shared l ld k t e h = whole_in_range s l (run s shared k t) (run_whole s shared l ld k t (whole s l t e h))

-- ---- the starting state

pub starting_ranged : (s : List ℕ) (l : ℕ) → Loaded s → floor s ≤ l → Ranged s l (starting s l)
unfolding starting start
starting_ranged s l ld h =
    let f = ld.first in
    let some = linked_some s 1 (omega (arith, f.entry_low)) in
    record {
      low = h;
      sp_low = h;
      sp_high = omega arith;
      m_low = omega arith;
      m_high = omega arith;
      counter_low = rw some (omega (arith, f.entry_low));
      counter_high = rw some (omega (arith, f.entry_high, ld.even));
      routine_low = omega arith;
      routine_high = ld.some;
      lowest_low = h;
      lowest_high = omega arith;
    }
