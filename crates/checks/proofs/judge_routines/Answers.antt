-- `checks::judge_routines` meets its contract. Assumes nothing.
use mathlib.Core.Path.{sym, ap, ◌∙◌}
use native.Mathlib.Omega.{arith}
use Rattle.segment.specs.declared.Segment.{Segment}
use Rattle.segment.proofs.Laws.{head_good, judge_stop, judge_step, judge_done}
use Rattle.checks.proofs.judge_routines.Goals as goal

pub routine_passes-requires : goal.routine_passes-requires
routine_passes-requires c =
    let w = ap (λ (h : Segment). h.words) c.head-h.ensures in
    let d = ap (λ (h : Segment). h.dict) c.head-h.ensures in
    let room = (head_good c.args.seg.now c.requires).room in
    (ap (λ (h : Segment). h.least) c.head-h.ensures, w, d, omega (arith, room, w, d, ap (λ (h : Segment). h.count) c.head-h.ensures))

pub returns-then-not-routine_passes : goal.returns-then-not-routine_passes
returns-then-not-routine_passes c =
    let n = ap (λ (h : Segment). h.count) c.head-h.ensures in
    c.judge_routine.ensures
    ∙ sym (c.loop-k.invariant.1 ∙ judge_stop _ _ _ (omega arith) (sym c.routine_passes.ensures ∙ c.if-not-routine_passes.true))

pub loop-k-preserved : goal.loop-k-preserved
loop-k-preserved c =
    let n = ap (λ (h : Segment). h.count) c.head-h.ensures in
    (omega arith, c.loop-k.invariant.1 ∙ judge_step _ _ _ (omega arith) (sym c.routine_passes.ensures ∙ c.if-not-routine_passes.false))

pub returns : goal.returns
returns c =
    let n = ap (λ (h : Segment). h.count) c.head-h.ensures in
    sym (c.loop-k.invariant.1 ∙ judge_done _ _ _ (omega arith))

pub returns-else-not-routine_passes : goal.returns-else-not-routine_passes
returns-else-not-routine_passes c =
    let n = ap (λ (h : Segment). h.count) c.head-h.ensures in
    sym (c.loop-k.invariant.1 ∙ judge_step _ _ _ (omega arith) (sym c.routine_passes.ensures ∙ c.if-not-routine_passes.false)
    ∙ judge_done _ _ _ (omega arith))
