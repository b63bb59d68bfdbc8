-- `checks::routine_passes` meets its contract. Assumes nothing.
use mathlib.Core.Path.{sym, ◌∙◌}
use borrow.Author.Tests.{lt-ltb, le-ltb}
use Rattle.segment.proofs.Laws.{passes_by, passes_low}
use Rattle.checks.proofs.routine_passes.Goals as goal

pub returns-then-e-lt12 : goal.returns-then-e-lt12
returns-then-e-lt12 c =
    c.both.ensures
    ∙ sym (passes_low c.args.seg.now c.args.k c.requires.0 c.requires.1 c.requires.2 c.word_in-e.ensures c.if-e-lt12.true)

pub returns-then-w-e : goal.returns-then-w-e
returns-then-w-e c =
    sym (passes_by c.args.seg.now c.args.k c.requires.0 c.requires.1 c.requires.2 c.word_in-e.ensures c.if-e-lt12.false
    ∙ simp (le-ltb _ _ c.if-w-e.true))

pub returns-then-word_in-ge32768 : goal.returns-then-word_in-ge32768
returns-then-word_in-ge32768 c =
    sym (passes_by c.args.seg.now c.args.k c.requires.0 c.requires.1 c.requires.2 c.word_in-e.ensures c.if-e-lt12.false
    ∙ simp (lt-ltb _ _ c.if-w-e.false, ← c.word_in.ensures, le-ltb _ _ c.if-word_in-ge32768.true))

pub returns : goal.returns
returns c =
    sym (passes_by c.args.seg.now c.args.k c.requires.0 c.requires.1 c.requires.2 c.word_in-e.ensures c.if-e-lt12.false
    ∙ simp (
      lt-ltb _ _ c.if-w-e.false,
      ← c.word_in.ensures,
      lt-ltb _ _ c.if-word_in-ge32768.false,
      ← c.word_in-2.ensures,
      ← c.within.ensures,
    ))
