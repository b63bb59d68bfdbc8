-- `segment::routine_of` meets its contract: what is read of the dictionary is the entry, and of an entry of zero nothing more is read.
-- Assumes nothing.
use mathlib.Core.Path.{sym, ◌∙◌}
use borrow.Author.Tests.{ne_eqb}
use Rattle.segment.specs.Head.{word, dict, entry, linked, datasize, exitic, start}
use Rattle.segment.proofs.routine_of.Goals as goal

pub returns-then-entry-eq0 : goal.returns-then-entry-eq0
unfolding word dict entry linked datasize exitic start
returns-then-entry-eq0 c =
    let e = simp (c.word_at-dict.ensures, c.is_least-least.ensures) at c.word_at-entry.ensures in
    rw (sym e ∙ c.if-entry-eq0.true)

pub returns : goal.returns
unfolding word dict entry linked datasize exitic start
returns c =
    let e = simp (c.word_at-dict.ensures, c.is_least-least.ensures) at c.word_at-entry.ensures in
    rw (← e, ne_eqb _ _ c.if-entry-eq0.false)
    (simp (c.word_at-2.ensures, c.word_at.ensures, c.is_least-least.ensures))
