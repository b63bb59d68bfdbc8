-- `checks::judge_head` meets its contract. Assumes nothing.
use mathlib.Core.Path.{ap, ◌∙◌}
use Rattle.basis.specs.Checks.{ruling}
use Rattle.segment.specs.Head.{word, pool_first}
use Rattle.segment.specs.Judge.{head_checks, ruling_of}
use Rattle.segment.proofs.Refusals.{exits, went_on, stopped}
use Rattle.checks.proofs.judge_head.Goals as goal

pub returns-in_err-checked : goal.returns-in_err-checked
unfolding ruling head_checks pool_first word
returns-in_err-checked c =
    ap ruling_of (exits _ c.from_residual.ensures.1) ∙ c.in_err-checked.ensures
    ∙ simp (← c.shape_ok.ensures, stopped _ _ _ c.in_err-checked.ensures)

pub returns-in_err-checked-2 : goal.returns-in_err-checked-2
unfolding ruling head_checks pool_first word
returns-in_err-checked-2 c =
    ap ruling_of (exits _ c.from_residual-in_err-checked-2.ensures.1) ∙ c.in_err-checked-2.ensures
    ∙ simp (← c.shape_ok.ensures, went_on _ _ _ c.in_ok-checked.ensures, ← c.sex_ok.ensures, stopped _ _ _ c.in_err-checked-2.ensures)

pub returns-in_err-checked-3 : goal.returns-in_err-checked-3
unfolding ruling head_checks pool_first word
returns-in_err-checked-3 c =
    let bad = stopped _ _ _ c.in_err-checked-3.ensures in
    let reloc = rw c.head-h.ensures at bad in
    ap ruling_of (exits _ c.from_residual-in_err-checked-3.ensures.1) ∙ c.in_err-checked-3.ensures
    ∙ simp (← c.shape_ok.ensures, went_on _ _ _ c.in_ok-checked.ensures, ← c.sex_ok.ensures, went_on _ _ _ c.in_ok-checked-2.ensures, reloc, bad)

pub returns-in_err-checked-4 : goal.returns-in_err-checked-4
unfolding ruling head_checks pool_first word
returns-in_err-checked-4 c =
    let reloc = rw c.head-h.ensures at (went_on _ _ _ c.in_ok-checked-3.ensures) in
    let pool = simp (c.head-h.ensures, c.word_at-first.ensures) at c.pool_ok.ensures in
    ap ruling_of (exits _ c.from_residual-in_err-checked-4.ensures.1) ∙ c.in_err-checked-4.ensures
    ∙ simp (← c.shape_ok.ensures, went_on _ _ _ c.in_ok-checked.ensures, ← c.sex_ok.ensures, went_on _ _ _ c.in_ok-checked-2.ensures, reloc, ← pool, stopped _ _ _ c.in_err-checked-4.ensures)

pub returns : goal.returns
unfolding ruling head_checks pool_first word
returns c =
    let reloc = rw c.head-h.ensures at (went_on _ _ _ c.in_ok-checked-3.ensures) in
    let pool = simp (c.head-h.ensures, c.word_at-first.ensures) at c.pool_ok.ensures in
    let dict = simp c.head-h.ensures at c.dict_ok.ensures in
    c.checked-5.ensures
    ∙ simp (← c.shape_ok.ensures, went_on _ _ _ c.in_ok-checked.ensures, ← c.sex_ok.ensures, went_on _ _ _ c.in_ok-checked-2.ensures, reloc, ← pool, went_on _ _ _ c.in_ok-checked-4.ensures, ← dict)
