-- `entry::begun::guard` meets its contract.
use mathlib.Core.Path.{sym, ◌∙◌}
use Rattle.basis.specs.Checks.{ruling}
use Rattle.entry.proofs.begun.guard.Goals as goal

pub returns-then-not-is_sound : goal.returns-then-not-is_sound
unfolding ruling
returns-then-not-is_sound c = rw (sym c.is_sound.ensures ∙ c.if-not-is_sound.true)

pub returns-then-not-named : goal.returns-then-not-named
unfolding ruling
returns-then-not-named c = rw (sym c.is_sound.ensures ∙ c.if-not-is_sound.false, c.if-not-named.true)

pub returns : goal.returns
unfolding ruling
returns c = rw (sym c.is_sound.ensures ∙ c.if-not-is_sound.false, c.if-not-named.false)
