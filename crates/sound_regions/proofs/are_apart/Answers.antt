-- `sound_regions::are_apart` meets its contract.
use Rattle.sound.specs.Sound.{apart}
use Rattle.sound_regions.proofs.are_apart.Goals as goal

pub returns-then-not-a : goal.returns-then-not-a
unfolding apart
returns-then-not-a c = rw c.if-not-a.true

pub returns-then-not-b : goal.returns-then-not-b
unfolding apart
returns-then-not-b c = rw (c.if-not-a.false, c.if-not-b.true)

pub returns : goal.returns
unfolding apart
returns c = rw (c.if-not-a.false, c.if-not-b.false, c.either.ensures, c.ends_by.ensures, c.ends_by-2.ensures)
