-- `archive::accept` meets its contract.
use mathlib.Core.Path.{sym, ◌∙◌}
use Rattle.archive.proofs.Laws.{shared_long, unsound, no_archive, an_archive}
use Rattle.archive.proofs.accept.Goals as goal

pub returns-then-not-is_sound : goal.returns-then-not-is_sound
returns-then-not-is_sound c = unsound _ _ (sym c.is_sound.ensures ∙ c.if-not-is_sound.true)

pub slice_bounds-is_accepted-end : goal.slice_bounds-is_accepted-end
slice_bounds-is_accepted-end c = sym (shared_long _ _ (sym c.is_sound.ensures ∙ c.if-not-is_sound.false))

pub returns-then-not-is_accepted : goal.returns-then-not-is_accepted
returns-then-not-is_accepted c =
    no_archive _ _ (sym c.is_sound.ensures ∙ c.if-not-is_sound.false) c.is_accepted.ensures c.if-not-is_accepted.true

pub returns : goal.returns
returns c =
    an_archive _ _ (sym c.is_sound.ensures ∙ c.if-not-is_sound.false) c.is_accepted.ensures c.if-not-is_accepted.false
