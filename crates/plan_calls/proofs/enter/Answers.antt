-- `plan_calls::enter` meets its contract: the routine's entry and size were read, and what was asked of them tells the answer. Assumes nothing.
use borrow.Author.Tests.{eq-eqb, ne_eqb}
use Rattle.plan.proofs.Links.{entered_told}
use Rattle.plan_calls.proofs.enter.Goals as goal

pub returns-then-fault-ne0 : goal.returns-then-fault-ne0
returns-then-fault-ne0 c =
    simp (
      entered_told c.args.seg.now c.args.facts c.requires.1 c.args.sp c.args.k _ _ c.if-k-lt1.false c.if-facts-k.false c.word_in-e.ensures c.word_in-size.ensures,
      ← c.entry_fault-fault.ensures,
      ne_eqb _ _ c.if-fault-ne0.true,
    )

pub returns : goal.returns
returns c =
    simp (
      entered_told c.args.seg.now c.args.facts c.requires.1 c.args.sp c.args.k _ _ c.if-k-lt1.false c.if-facts-k.false c.word_in-e.ensures c.word_in-size.ensures,
      ← c.entry_fault-fault.ensures,
      eq-eqb _ _ c.if-fault-ne0.false,
    )
