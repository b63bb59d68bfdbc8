-- `machine::turns::is_ready` meets its contract. Assumes nothing.
use borrow.Author.Rules.{rules}
use Rattle.pmachine.specs.Run.{is_ready}
use Rattle.machine.proofs.turns.is_ready.Goals as goal

pub returns-in-Ready : goal.returns-in-Ready
unfolding is_ready
returns-in-Ready c = search rules

pub returns-in-Finished : goal.returns-in-Finished
unfolding is_ready
returns-in-Finished c = search rules

pub returns-in-Faulted : goal.returns-in-Faulted
unfolding is_ready
returns-in-Faulted c = search rules
