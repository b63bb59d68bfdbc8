-- `instruction::place::fetches_to` meets its contract: what stands at the byte tells how far a step fetches. Assumes nothing.
use mathlib.Core.Path.{ap, sym, ◌∙◌}
use borrow.Author.Rules.{rules}
use Rattle.instruction.specs.declared.Instruction.{Instruction}
use Rattle.instruction.proofs.Places.{below_code, carried_to, uncarried_to}
use Rattle.instruction.proofs.place.fetches_to.Goals as goal

pub returns-then-at-lt-FIRST : goal.returns-then-at-lt-FIRST
returns-then-at-lt-FIRST c = below_code _ _ c.if-at-lt-FIRST.true

pub returns-then-i : goal.returns-then-i
returns-then-i c =
    let i = c.read-i.ensures.stands in
    ap (λ (x : Instruction). x.next) i ∙ carried_to _ _ c.if-at-lt-FIRST.false (sym (ap (λ (x : Instruction). x.carried) i) ∙ c.if-i.true)

pub overflow_add-result : goal.overflow_add-result
overflow_add-result c =
    let i = c.read-i.ensures.stands in
    let there = (uncarried_to _ _ c.if-at-lt-FIRST.false (sym (ap (λ (x : Instruction). x.carried) i) ∙ c.if-i.false)).0 in
    search (rules, there)

pub returns : goal.returns
returns c =
    let i = c.read-i.ensures.stands in
    (uncarried_to _ _ c.if-at-lt-FIRST.false (sym (ap (λ (x : Instruction). x.carried) i) ∙ c.if-i.false)).1
