-- `sound_regions::is_placed` meets its contract.
use Rattle.basis.specs.Bools.{every}
use Rattle.sound.specs.Sound.{placed}
use Rattle.sound_regions.proofs.is_placed.Goals as goal

pub returns-then-not-se : goal.returns-then-not-se
unfolding placed every
returns-then-not-se c = rw c.if-not-se.true

pub returns : goal.returns
unfolding placed every
returns c =
    rw (
      c.if-not-se.false,
      c.both.ensures,
      c.at_most.ensures,
      c.both-region.ensures,
      c.ends_by.ensures,
      c.ends_by-window.ensures,
    )
