-- `machine::turns::run` meets its contract: after each round the session has gone along as the definition's run. Assumes nothing.
use mathlib.Core.Path.{ap, sym}
use native.Mathlib.Omega.{arith}
use Rattle.pmachine.specs.Run.{is_ready}
use Rattle.plan.specs.Answer.{regs_of}
use Rattle.steps.specs.declared.Stepped.{Stepped}
use Rattle.steps.specs.Memory.{went_to, came_to}
use Rattle.machine.proofs.Going.{going_start, going_steady, going_next, going_stop, going_end, now_size}
use Rattle.machine.proofs.turns.run.Goals as goal

pub loop-left-init : goal.loop-left-init
loop-left-init c = going_start c.requires c.args.k

pub step-requires : goal.step-requires
step-requires c = going_steady c.requires c.args.k c.loop-left.invariant

pub overflow_sub-left : goal.overflow_sub-left
overflow_sub-left c = omega (arith, c.loop-left-test.true)

pub loop-left-smaller : goal.loop-left-smaller
loop-left-smaller c = omega (arith, c.loop-left-test.true)

pub loop-left-preserved : goal.loop-left-preserved
loop-left-preserved c =
    going_next c.requires c.args.k c.loop-left.invariant c.loop-left-test.true c.step.ensures c.in-Went.is

pub shape_of-mem-in-Stuck : goal.shape_of-mem-in-Stuck
shape_of-mem-in-Stuck c =
    now_size c.requires c.args.k c.loop-left.invariant c.loop-left-test.true c.step.ensures

pub returns-in-Stuck : goal.returns-in-Stuck
unfolding is_ready
returns-in-Stuck c =
    let stuck = c.in-Stuck.is in
    let r = regs_of c.loop-left.now in
    going_stop c.requires c.args.k c.loop-left.invariant c.loop-left-test.true c.step.ensures
    (ap (went_to r) stuck) (sym (ap came_to stuck)) (ap (λ (z : Stepped). is_ready (came_to z)) stuck) c.after.ensures

pub shape_of-mem-in-Ended : goal.shape_of-mem-in-Ended
shape_of-mem-in-Ended c =
    now_size c.requires c.args.k c.loop-left.invariant c.loop-left-test.true c.step.ensures

pub returns-in-Ended : goal.returns-in-Ended
unfolding is_ready
returns-in-Ended c =
    let ended = c.in-Ended.is in
    let r = regs_of c.loop-left.now in
    going_stop c.requires c.args.k c.loop-left.invariant c.loop-left-test.true c.step.ensures
    (ap (went_to r) ended) (sym (ap came_to ended)) (ap (λ (z : Stepped). is_ready (came_to z)) ended) c.after-in-Ended.ensures

pub shape_of-mem : goal.shape_of-mem
shape_of-mem c = c.loop-left.invariant.size

pub returns : goal.returns
returns c =
    going_end c.requires c.args.k c.loop-left.invariant c.loop-left-test.false c.after-2.ensures
