-- `turning::judge_turn` meets its contract. Assumes nothing.
use mathlib.Core.Path.{sym, ap, ◌∙◌}
use Rattle.segment.specs.declared.Segment.{Segment}
use Rattle.segment.specs.Judge.{ruling_of}
use Rattle.segment.proofs.Refusals.{exits}
use Rattle.turning.proofs.Positions.{turn_as_judged, turn_nine, turn_ten, turn_accepts}
use Rattle.turning.proofs.judge_turn.Goals as goal

pub returns-in_err-judge : goal.returns-in_err-judge
returns-in_err-judge c =
    let a = c.args in
    ap ruling_of (exits _ c.from_residual.ensures.1) ∙ sym (turn_as_judged a.seg.now a.room _ _ (sym c.in_err-judge.ensures))

pub returns-then-h-ne0 : goal.returns-then-h-ne0
returns-then-h-ne0 c =
    let a = c.args in
    sym (turn_nine a.seg.now a.room (sym c.in_ok-judge.ensures) (λ e. c.if-h-ne0.true (ap (λ (h : Segment). h.pool) c.head-h.ensures ∙ e)))

pub returns-then-room-seg : goal.returns-then-room-seg
returns-then-room-seg c =
    let a = c.args in
    sym (turn_ten a.seg.now a.room (sym c.in_ok-judge.ensures) (sym (ap (λ (h : Segment). h.pool) c.head-h.ensures) ∙ c.if-h-ne0.false) c.if-room-seg.true)

pub returns : goal.returns
returns c =
    let a = c.args in
    sym (turn_accepts a.seg.now a.room (sym c.in_ok-judge.ensures) (sym (ap (λ (h : Segment). h.pool) c.head-h.ensures) ∙ c.if-h-ne0.false) c.if-room-seg.false)
