-- `sound_test::slots::slot_ok` meets its contract.
use Rattle.basis.specs.Bools.{every}
use Rattle.sound.specs.Sound.{slot_ok}
use Rattle.sound_test.proofs.slots.slot_ok.Goals as goal

pub returns-then-not-sl : goal.returns-then-not-sl
unfolding slot_ok every
returns-then-not-sl c = rw c.if-not-sl.true

pub returns : goal.returns
unfolding slot_ok every
returns c =
    rw (c.if-not-sl.false, c.both.ensures, c.ends_by-inside.ensures, c.accepts.ensures, c.code_of.ensures)
