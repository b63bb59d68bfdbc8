-- `ends::code_end` is its definition: one routine a turn, and all of them at the end. Assumes nothing.
use Rattle.std.proofs.Common.{◌≡◌, ℕ, ◌+◌, List, arith, add-one, ap, ◌∙◌}
use Rattle.segment.specs.declared.Segment.{Segment}
use Rattle.spans.specs.Ends.{nearer_of, end_by}
use Rattle.spans.proofs.ends.code_end.Goals as goal

more : (s : List ℕ) (start k r end : ℕ) → r ≡ nearer_of s start end (k + 1) → end ≡ end_by s start k → r ≡ end_by s start (k + 1)
unfolding end_by
more s start k r end h e = h ∙ rw (e, add-one k)

pub loop-k-preserved : goal.loop-k-preserved
loop-k-preserved c = more _ _ _ _ _ c.nearest_of-end.ensures c.loop-k.invariant

pub returns : goal.returns
returns c =
    let a = c.args in
    let l = c.loop-k in
    let e : l.k ≡ c.head-k-end.result.count = omega arith in
    l.invariant ∙ ap (end_by a.seg.now a.start) (e ∙ ap (λ (h : Segment). h.count) c.head-k-end.ensures)
