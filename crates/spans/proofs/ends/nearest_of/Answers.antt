-- `ends::nearest_of` is its definition. Assumes nothing.
use Rattle.std.proofs.Common.{◌≡◌, arith, sym, ap, ◌∙◌}
use Rattle.segment.specs.Head.{entry}
use Rattle.segment.specs.declared.Routine.{Routine}
use Rattle.segment.proofs.Laws.{linked_some, linked_none}
use Rattle.spans.specs.Ends.{nearer_of}
use Rattle.spans.proofs.ends.nearest_of.Goals as goal

pub returns-then-r-eq0 : goal.returns-then-r-eq0
unfolding nearer_of
returns-then-r-eq0 c =
    let a = c.args in
    let none = linked_none a.seg.now a.k (sym (ap (λ (r : Routine). r.entry) c.routine_of-r.ensures) ∙ c.if-r-eq0.true) in
    rw none (simp (c.nearest-a.ensures, c.head-h.ensures))

pub returns : goal.returns
unfolding nearer_of
returns c =
    let a = c.args in
    let is : c.routine_of-r.result.entry ≡ entry a.seg.now a.k = ap (λ (r : Routine). r.entry) c.routine_of-r.ensures in
    let some = linked_some a.seg.now a.k (omega (arith, is, c.if-r-eq0.false)) in
    rw some (simp (c.nearest.ensures, c.nearest-b.ensures, c.nearest-a.ensures, c.routine_of-r.ensures, c.head-h.ensures))
