-- `cause::flow::callable` meets its contract. Assumes nothing.
use native.Mathlib.Omega.{arith}
use mathlib.Core.Path.{◌≡◌, sym, ap, ◌∙◌}
use mathlib.Core.Bool.{false, true, ◌&&◌}
use borrow.Author.Tests.{not-false}
use lib.Dec.{leb}
use Rattle.segment.specs.Head.{entry}
use Rattle.segment.specs.declared.Routine.{Routine}
use Rattle.segment.proofs.Laws.{linked_some, linked_none}
use Rattle.cause.proofs.flow.callable.Goals as goal

pub returns-then-r-eq0 : goal.returns-then-r-eq0
returns-then-r-eq0 c =
    let a = c.args in
    let is : c.routine_of-r.result.entry ≡ entry a.seg.now a.k = ap (λ (r : Routine). r.entry) c.routine_of-r.ensures in
    let there : (leb 1 a.k && leb a.k a.n.count) ≡ true = not-false _ (sym c.is_outside.ensures ∙ c.if-is_outside.false) in
    rw (there, linked_none a.seg.now a.k (sym is ∙ c.if-r-eq0.true))

pub returns : goal.returns
returns c =
    let a = c.args in
    let is : c.routine_of-r.result.entry ≡ entry a.seg.now a.k = ap (λ (r : Routine). r.entry) c.routine_of-r.ensures in
    let there : (leb 1 a.k && leb a.k a.n.count) ≡ true = not-false _ (sym c.is_outside.ensures ∙ c.if-is_outside.false) in
    rw (there, linked_some a.seg.now a.k (omega (arith, is, c.if-r-eq0.false)))
