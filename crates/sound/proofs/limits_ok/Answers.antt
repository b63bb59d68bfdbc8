-- `sound::limits_ok` meets its contract.
use Rattle.basis.specs.Bools.{every}
use Rattle.sound.specs.Sound.{limits_ok}
use Rattle.sound.proofs.limits_ok.Goals as goal

pub returns : goal.returns
unfolding limits_ok every
returns c = rw (c.both-2.ensures, c.both.ensures, c.at_most-3.ensures, c.at_most-2.ensures, c.at_most.ensures)
