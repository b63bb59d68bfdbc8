-- `plan_pool::case_at` meets its contract, by the numbers that the code has of a segment. Assumes nothing.
use borrow.Author.Tests.{le-ltb, le-leb, lt-leb, eq-eqb, ne_eqb}
use Rattle.plan.proofs.Pools.{case_told, case_read}
use Rattle.plan_pool.proofs.case_at.Goals as goal

pub returns-then-leq-ne1 : goal.returns-then-leq-ne1
returns-then-leq-ne1 c =
    simp (
      case_told c.args.seg.now c.args.facts c.requires.1 c.args.i c.args.b,
      le-ltb _ _ c.if-facts-at.false,
      ← c.word_in-low.ensures,
      ← c.leq.ensures,
      ne_eqb _ _ c.if-leq-ne1.true,
    )

pub returns-then-leq-ne1-2 : goal.returns-then-leq-ne1-2
returns-then-leq-ne1-2 c =
    simp (
      case_told c.args.seg.now c.args.facts c.requires.1 c.args.i c.args.b,
      le-ltb _ _ c.if-facts-at.false,
      ← c.word_in-low.ensures,
      ← c.leq.ensures,
      eq-eqb _ _ c.if-leq-ne1.false,
      ← c.word_in-high.ensures,
      ← c.leq-2.ensures,
      ne_eqb _ _ c.if-leq-ne1-2.true,
    )

pub returns-then-facts-arm : goal.returns-then-facts-arm
returns-then-facts-arm c =
    let left = case_read c.args.seg.now c.args.facts c.requires.1 c.args.i c.args.b _ _ _ _ c.if-facts-at.false c.word_in-low.ensures
    c.word_in-high.ensures c.leq.ensures c.if-leq-ne1.false c.leq-2.ensures c.if-leq-ne1-2.false in
    simp (left, ← c.sub.ensures, le-leb _ _ c.if-facts-arm.true)

pub returns : goal.returns
returns c =
    let left = case_read c.args.seg.now c.args.facts c.requires.1 c.args.i c.args.b _ _ _ _ c.if-facts-at.false c.word_in-low.ensures
    c.word_in-high.ensures c.leq.ensures c.if-leq-ne1.false c.leq-2.ensures c.if-leq-ne1-2.false in
    simp (left, ← c.sub.ensures, lt-leb _ _ c.if-facts-arm.false, ← c.word_in.ensures)
