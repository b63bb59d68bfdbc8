-- `checks::judge` meets its contract. Assumes nothing.
use mathlib.Core.Path.{sym, ap, ◌∙◌}
use Rattle.basis.specs.Checks.{followed_by}
use Rattle.segment.specs.Judge.{ruling_of}
use Rattle.segment.proofs.Laws.{judged_is}
use Rattle.segment.proofs.Refusals.{exits}
use Rattle.checks.proofs.judge.Goals as goal

pub returns-in_err-judge_head : goal.returns-in_err-judge_head
unfolding followed_by
returns-in_err-judge_head c =
    ap ruling_of (exits _ c.from_residual.ensures.1) ∙ sym (judged_is c.args.seg.now ∙ simp (← c.in_err-judge_head.ensures))

pub returns : goal.returns
unfolding followed_by
returns c = c.judge_routines.ensures ∙ sym (judged_is c.args.seg.now ∙ simp (← c.in_ok-judge_head.ensures))
