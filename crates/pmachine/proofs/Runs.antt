-- Runs and their counts: where they stop, how they add up, and that the number of words stays. Nothing is asked of segment or state.
-- Above: Keeps, session and bench; below: Run.
use Prim.Native.Nat.{ℕ, zero, suc, ◌+◌}
use native.Mathlib.Nat.{zero-add, suc-add}
use native.Mathlib.Omega.{arith}
use mathlib.Core.Path.{◌≡◌, refl, sym, ap, ◌∙◌}
use mathlib.Core.List.{List, [], ◌∷◌}
use mathlib.Core.Bool.{true, false, false≢true}
use lib.ListN.{length, set, length-set}
use Rattle.basis.proofs.Bools.{cond_holds}
use Rattle.pmachine.proofs.Rows.{either_way}
use Rattle.pmachine.specs.State.{Registers, State}
use Rattle.pmachine.specs.Step.{Outcome, fault, finish, goes, judge}
use Rattle.pmachine.specs.Run.{is_ready, written, settled, step, run, steps_done}
use Rattle.pmachine.specs.Kept.{RunAdd, CountAdd, CountMost, CountAll, CountLess, CountRun}

-- ---- the number of words

pub written_length : (ws w : List ℕ) (at : ℕ) → length (written w at ws) ≡ length w
unfolding written
written_length [] w at = refl
written_length (v ∷ vs) w at = written_length vs (set w at v) (at + 1) ∙ length-set w at v

settled_length : (s w : List ℕ) (r : Registers) (o : Outcome) → length (settled s w r o).words ≡ length w
unfolding settled
settled_length s w r (fault n) = refl
settled_length s w r finish = refl
settled_length s w r (goes q at ws) = written_length ws w at

module _ (s shared : List ℕ) where
  pub step_length : (t : State) → length (step s shared t).words ≡ length t.words
  unfolding step
  step_length t =
      cond_holds (λ (u : State). length u.words ≡ length t.words) (is_ready t.kind)
      (λ _. settled_length s t.words t.registers (judge s shared t.words t.registers)) (λ _. refl)

  -- ---- a session that is ready, and one that is not

  pub step_ready : (t : State) → is_ready t.kind ≡ true → step s shared t ≡ settled s t.words t.registers (judge s shared t.words t.registers)
  unfolding step
  step_ready t e = rw e

  pub step_stopped : (t : State) → is_ready t.kind ≡ false → step s shared t ≡ t
  unfolding step
  step_stopped t e = rw e

  pub run_none : (t : State) → run s shared 0 t ≡ t
  unfolding run
  run_none t = refl

  pub count_none : (t : State) → steps_done s shared 0 t ≡ 0
  unfolding steps_done
  count_none t = refl

  pub run_stopped : (k : ℕ) (t : State) → is_ready t.kind ≡ false → run s shared k t ≡ t
  unfolding run
  run_stopped zero t e = refl
  run_stopped (suc k) t e = rw e

  pub count_stopped : (k : ℕ) (t : State) → is_ready t.kind ≡ false → steps_done s shared k t ≡ 0
  unfolding steps_done
  count_stopped zero t e = refl
  count_stopped (suc k) t e = rw e

  pub count_ready : (k : ℕ) (t : State) → is_ready t.kind ≡ true → steps_done s shared (suc k) t ≡ suc (steps_done s shared k (step s shared t))
  unfolding steps_done
  count_ready k t e = rw e

  -- a run is its first step and the rest, whether or not the session is ready
  pub run_suc : (k : ℕ) (t : State) → run s shared (suc k) t ≡ run s shared k (step s shared t)
  unfolding run
  run_suc k t = either_way (is_ready t.kind) (λ e. rw e) (λ e. rw (e, step_stopped t e) (sym (run_stopped k t e)))

  pub run_length : (k : ℕ) (t : State) → length (run s shared k t).words ≡ length t.words
  run_length zero t = rw (run_none t)
  run_length (suc k) t = rw (run_suc k t) (run_length k (step s shared t) ∙ step_length t)

-- ---- two turns are one turn of both their steps, and their counts add up

pub run_add : RunAdd
run_add s shared zero b t = rw (zero-add, run_none s shared t)
run_add s shared (suc a) b t = rw (suc-add a b, run_suc s shared (a + b) t, run_suc s shared a t) (run_add s shared a b (step s shared t))

pub count_add : CountAdd
count_add s shared zero b t = rw (zero-add, count_none s shared t, run_none s shared t, zero-add)
count_add s shared (suc a) b t =
    either_way (is_ready t.kind)
    (λ e. rw (suc-add a b, count_ready s shared (a + b) t e, count_ready s shared a t e, run_suc s shared a t, count_add s shared a b (step s shared t)) (omega arith))
    (λ e. rw (count_stopped s shared (suc a + b) t e, count_stopped s shared (suc a) t e, run_stopped s shared (suc a) t e, count_stopped s shared b t e))

-- ---- the count against the steps asked for

pub count_most : CountMost
count_most s shared zero t = omega (arith, count_none s shared t)
count_most s shared (suc k) t =
    let h = count_most s shared k (step s shared t) in
    either_way (is_ready t.kind) (λ e. omega (arith, count_ready s shared k t e)) (λ e. omega (arith, count_stopped s shared (suc k) t e))

-- a session that is still ready did all of them
pub count_all : CountAll
count_all s shared zero t h = count_none s shared t
count_all s shared (suc k) t h =
    either_way (is_ready t.kind)
    (λ e. count_ready s shared k t e ∙ ap suc (count_all s shared k (step s shared t) (rw (run_suc s shared k t) at h)))
    (λ e. absurd (false≢true (sym e ∙ (rw (run_stopped s shared (suc k) t e) at h))))

-- and one that did fewer is not ready
pub count_less : CountLess
count_less s shared k t l = either_way (is_ready (run s shared k t).kind) (λ e. absurd (omega (arith, count_all s shared k t e))) (λ e. e)

-- the steps done are all that a turn does
pub count_run : CountRun
count_run s shared zero t = rw (count_none s shared t)
count_run s shared (suc k) t =
    either_way (is_ready t.kind)
    (λ e. rw (count_ready s shared k t e, run_suc s shared k t, run_suc s shared (steps_done s shared k (step s shared t)) t) (count_run s shared k (step s shared t)))
    (λ e. rw (count_stopped s shared (suc k) t e, run_none s shared t) (run_stopped s shared (suc k) t e))
