-- What a step leaves as it is: the words outside those written; and, where it faults or finishes, words and registers.
-- Above: the proofs of the code's step; below: Run, Runs.
use Prim.Native.Nat.{ℕ, zero, suc, ◌+◌, ◌<◌, ◌≤◌}
use native.Mathlib.Nat.{add-zero}
use native.Mathlib.Omega.{arith}
use mathlib.Core.Path.{◌≡◌, refl, sym, ap, ◌∙◌}
use mathlib.Core.List.{List, [], ◌∷◌, ◌++◌}
use mathlib.Core.Bool.{true, false, false≢true}
use lib.ListN.{length, get_or, set, length-set}
use lib.Seq.{get_or-set_same, get_or-set_other}
use Rattle.pmachine.specs.State.{Registers, ready, faulted, State}
use Rattle.pmachine.specs.Step.{Outcome, fault, finish, goes, judge}
use Rattle.pmachine.specs.Run.{is_ready, written, place_of, settled, step}
use Rattle.pmachine.specs.Kept.{StepKept}
use Rattle.pmachine.proofs.Runs.{step_ready}

-- ---- the words from a place upward

pub written_below : (ws w : List ℕ) (at i : ℕ) → i < at → get_or (written w at ws) i 0 ≡ get_or w i 0
unfolding written
written_below [] w at i h = refl
written_below (v ∷ vs) w at i h = written_below vs (set w at v) (at + 1) i (omega arith) ∙ get_or-set_other w at i v 0 (omega arith)

pub written_at : (ws w : List ℕ) (at k : ℕ) → at + length ws ≤ length w → k < length ws → get_or (written w at ws) (at + k) 0 ≡ get_or ws k 0
unfolding written
written_at [] w at k f h = absurd (omega arith)
written_at (v ∷ vs) w at zero f h =
    let e : at + 0 ≡ at = omega arith in
    rw e (written_below vs (set w at v) (at + 1) at (omega arith) ∙ get_or-set_same w at v 0 (omega arith))
written_at (v ∷ vs) w at (suc k) f h =
    let e : at + suc k ≡ at + 1 + k = omega arith in
    rw e (written_at vs (set w at v) (at + 1) k (omega (arith, length-set w at v)) (omega arith))

-- one word more is the one above them
pub written_snoc : (ws w : List ℕ) (at v : ℕ) → written w at (ws ++ (v ∷ [])) ≡ set (written w at ws) (at + length ws) v
unfolding written
written_snoc [] w at v = ap (λ (i : ℕ). set w i v) (sym (add-zero at))
written_snoc (x ∷ xs) w at v =
    let e : at + 1 + length xs ≡ at + suc (length xs) = omega arith in
    written_snoc xs (set w at x) (at + 1) v ∙ ap (λ (i : ℕ). set (written (set w at x) (at + 1) xs) i v) e

-- ---- one step

settled_kept : (s w : List ℕ) (r : Registers) (o : Outcome) → is_ready (settled s w r o).kind ≡ false → ((settled s w r o).words ≡ w) × ((settled s w r o).registers ≡ r)
unfolding settled is_ready
settled_kept s w r (fault n) e = (refl, refl)
settled_kept s w r finish e = (refl, refl)
settled_kept s w r (goes q at ws) e = absurd (false≢true (sym e))

module _ (s shared : List ℕ) (t : State) (e : is_ready t.kind ≡ true) where
  pub step_fault : {n : ℕ} → judge s shared t.words t.registers ≡ fault n
      → step s shared t ≡ record { words = t.words; registers = t.registers; kind = faulted n (place_of s n t.registers.counter) }
  unfolding settled
  step_fault h = step_ready s shared t e ∙ ap (settled s t.words t.registers) h

  pub step_goes : {q : Registers} {at : ℕ} {ws : List ℕ} → judge s shared t.words t.registers ≡ goes q at ws
      → step s shared t ≡ record { words = written t.words at ws; registers = q; kind = ready }
  unfolding settled
  step_goes h = step_ready s shared t e ∙ ap (settled s t.words t.registers) h

-- a step after which the session is not ready leaves words and registers
pub step_kept : StepKept
step_kept s shared t e h =
    rw (step_ready s shared t e)
    (settled_kept s t.words t.registers (judge s shared t.words t.registers) (rw (step_ready s shared t e) at h))
