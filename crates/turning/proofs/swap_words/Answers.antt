-- `turning::swap_words` meets its contract. Assumes nothing.
use mathlib.Core.Path.{◌≡◌, refl, ◌∙◌}
use native.Mathlib.Omega.{arith}
use Rattle.turning.proofs.Positions.{range_start, range_more}
use Rattle.turning.proofs.swap_words.Goals as goal

pub loop-w-init : goal.loop-w-init
loop-w-init c =
    let a = c.args in
    (omega arith, omega arith, refl, range_start a.seg.now a.out.now a.first)

pub loop-w-preserved : goal.loop-w-preserved
loop-w-preserved c =
    let a = c.args in
    let l = c.loop-w in
    let t = c.swap_word in
    (omega arith, omega arith, t.auto.out ∙ l.invariant.2, t.ensures ∙ range_more a.seg.now a.out.now a.first l.w (omega arith) l.invariant.3)

pub returns : goal.returns
returns c =
    let e : c.loop-w.w ≡ c.args.end = omega arith in
    rw e at c.loop-w.invariant.3
