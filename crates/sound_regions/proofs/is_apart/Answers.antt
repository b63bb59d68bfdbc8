-- `sound_regions::is_apart` meets its contract.
use mathlib.Core.Path.{sym, ap, ◌∙◌}
use mathlib.Core.Bool.{not}
use Rattle.sound.proofs.Lists.{unused_from_all}
use Rattle.sound_regions.proofs.is_apart.Goals as goal

pub returns-then-not-se : goal.returns-then-not-se
returns-then-not-se c = ap not c.if-not-se.true ∙ sym (unused_from_all _ _ c.if-not-se.true)
