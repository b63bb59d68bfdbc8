-- `sound_test::sessions::session_fits` meets its contract.
use Rattle.basis.specs.Bools.{every}
use Rattle.sound_test.proofs.sessions.session_fits.Goals as goal

pub returns : goal.returns
unfolding every
returns c =
    rw (
      c.both-2.ensures,
      c.both.ensures,
      c.at_most-2.ensures,
      c.both-ranges.ensures,
      c.cpu_ok.ensures,
      c.at_most.ensures,
      c.code_of-code.ensures,
    )
