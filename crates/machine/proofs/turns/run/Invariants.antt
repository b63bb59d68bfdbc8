-- `machine::turns::run` meets its contract: after each round the session has gone along as the definition's run. Assumes nothing.
use Rattle.plan.specs.Answer.{regs_of}
use Rattle.machine.proofs.Going.{Going}
use Rattle.machine.proofs.turns.run.Given as goal

abbrev pub invariant-loop-left : goal.invariant-loop-left
invariant-loop-left l = Going l.seg l.initial.mem l.at l.end l.s l.k (regs_of l.initial.now) l.mem (regs_of l.now) l.left

abbrev pub decreases-loop-left : goal.decreases-loop-left
decreases-loop-left l = l.left
