-- `sound_test::is_sound` meets its contract.
use Rattle.basis.specs.Bools.{every}
use Rattle.sound.specs.Sound.{sound_b}
use Rattle.sound_test.proofs.is_sound.Goals as goal

pub returns : goal.returns
unfolding sound_b every
returns c =
    rw (
      c.both-2.ensures,
      c.both.ensures,
      c.limits_ok.ensures,
      c.both-loaded.ensures,
      c.all_ok.ensures,
      c.both-placed.ensures,
      c.all_placed.ensures,
      c.both-apart.ensures,
      c.all_apart.ensures,
      c.all_ok-kept.ensures,
    )
