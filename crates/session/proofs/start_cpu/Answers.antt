-- `session::start_cpu` gives the registers of the starting state.
use Rattle.pmachine.specs.Sound.{starting}
use Rattle.session.specs.Session.{start_of}
use Rattle.session.proofs.start_cpu.Goals as goal

pub returns : goal.returns
unfolding start_of starting
returns c = rw (c.ready_at.ensures, c.routine_of-first.ensures)
