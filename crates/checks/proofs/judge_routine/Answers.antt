-- `checks::judge_routine` meets its contract. Assumes nothing.
use mathlib.Core.Path.{ap, ◌∙◌}
use mathlib.Core.Bool.{◌&&◌, not}
use lib.Dec.{eqb}
use Rattle.basis.specs.Checks.{ruling}
use Rattle.segment.specs.declared.Routine.{Routine}
use Rattle.segment.specs.Judge.{ruling_of}
use Rattle.segment.proofs.Laws.{checks_by}
use Rattle.segment.proofs.Refusals.{exits, went_on, stopped}
use Rattle.checks.proofs.judge_routine.Goals as goal

pub returns-then-both : goal.returns-then-both
unfolding ruling
returns-then-both c =
    let a = c.args in
    let none = c.both.ensures ∙ ap (λ (r : Routine). eqb r.entry 0 && not (eqb a.k 1)) c.routine_of-r.ensures in
    rw (checks_by a.seg.now a.k none, c.if-both.true)

pub returns-in_err-checked : goal.returns-in_err-checked
unfolding ruling
returns-in_err-checked c =
    let a = c.args in
    let none = c.both.ensures ∙ ap (λ (r : Routine). eqb r.entry 0 && not (eqb a.k 1)) c.routine_of-r.ensures in
    let bad = stopped _ _ _ c.in_err-checked.ensures in
    let here = simp (c.both-2.ensures, c.routine_of-r.ensures) at bad in
    ap ruling_of (exits _ c.from_residual.ensures.1) ∙ c.in_err-checked.ensures
    ∙ rw (checks_by a.seg.now a.k none, c.if-both.false) (simp (bad, here))

pub returns-in_err-checked-2 : goal.returns-in_err-checked-2
unfolding ruling
returns-in_err-checked-2 c =
    let a = c.args in
    let none = c.both.ensures ∙ ap (λ (r : Routine). eqb r.entry 0 && not (eqb a.k 1)) c.routine_of-r.ensures in
    let entry = went_on _ _ _ c.in_ok-checked.ensures in
    let entry_here = simp (c.both-2.ensures, c.routine_of-r.ensures) at entry in
    let bad = stopped _ _ _ c.in_err-checked-2.ensures in
    let here = simp c.routine_of-r.ensures at bad in
    ap ruling_of (exits _ c.from_residual-in_err-checked-2.ensures.1) ∙ c.in_err-checked-2.ensures
    ∙ rw (checks_by a.seg.now a.k none, c.if-both.false) (simp (bad, entry_here, here))

pub returns : goal.returns
unfolding ruling
returns c =
    let a = c.args in
    let none = c.both.ensures ∙ ap (λ (r : Routine). eqb r.entry 0 && not (eqb a.k 1)) c.routine_of-r.ensures in
    let entry = simp (c.both-2.ensures, c.routine_of-r.ensures) at (went_on _ _ _ c.in_ok-checked.ensures) in
    let size = simp c.routine_of-r.ensures at (went_on _ _ _ c.in_ok-checked-2.ensures) in
    c.checked-3.ensures
    ∙ rw (checks_by a.seg.now a.k none, c.if-both.false) (simp (entry, size, c.within.ensures, c.routine_of-r.ensures))
