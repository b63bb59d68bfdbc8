-- `steps::step` meets its contract: what is judged is what is written. Assumes nothing.
use mathlib.Core.Path.{refl, ap}
use native.Mathlib.Omega.{arith}
use Rattle.pmachine.specs.State.{faulted}
use Rattle.pmachine.specs.Run.{written, settled}
use Rattle.plan.specs.Answer.{outcome_of}
use Rattle.steps.proofs.Standing.{stands, room, dry, same, moving, entering}
use Rattle.steps.proofs.step.Goals as goal

-- ---- the room for what is written

pub put_word-requires : goal.put_word-requires
unfolding outcome_of
put_word-requires c =
    let fits = room c.requires c.judge_in.ensures c.in-Put.is refl in
    (c.requires.placed.order, (c.requires.placed.inside, omega (arith, fits)))

pub put_word-requires-in-Push : goal.put_word-requires-in-Push
unfolding outcome_of
put_word-requires-in-Push c =
    let fits = room c.requires c.judge_in.ensures c.in-Push.is refl in
    (c.requires.placed.order, (c.requires.placed.inside, omega (arith, fits)))

pub put_word-requires-in-One : goal.put_word-requires-in-One
unfolding outcome_of
put_word-requires-in-One c =
    let fits = room c.requires c.judge_in.ensures c.in-One.is refl in
    (c.requires.placed.order, (c.requires.placed.inside, omega (arith, fits)))

pub put_word-requires-in-Two : goal.put_word-requires-in-Two
unfolding outcome_of
put_word-requires-in-Two c =
    let fits = room c.requires c.judge_in.ensures c.in-Two.is refl in
    (c.requires.placed.order, (c.requires.placed.inside, omega (arith, fits)))

pub put_pair-requires : goal.put_pair-requires
unfolding outcome_of
put_pair-requires c =
    let fits = room c.requires c.judge_in.ensures c.in-Swap.is refl in
    (c.requires.placed.order, (c.requires.placed.inside, omega (arith, fits)))

pub put_mark-requires : goal.put_mark-requires
unfolding outcome_of
put_mark-requires c =
    let fits = room c.requires c.judge_in.ensures c.in-Call.is refl in
    (c.requires.placed.order, (c.requires.placed.inside, omega (arith, fits)))

-- words of the pool: as many as lie between the new stack pointer, which is not below 6+G, and the old one
pub put_block-requires : goal.put_block-requires
unfolding outcome_of
put_block-requires c =
    let steady = c.requires in
    let low = dry steady c.judge_in.ensures c.in-Block.is refl in
    (steady.placed.order, (steady.placed.inside, (omega (arith, low), (steady.ranged.sp_high, omega (arith, steady.ranged.sp_high, steady.placed.small)))))

pub overflow_sub-r : goal.overflow_sub-r
unfolding outcome_of
overflow_sub-r c = omega (arith, dry c.requires c.judge_in.ensures c.in-Block.is refl)

-- ---- what each answer leaves

pub returns-in-Move : goal.returns-in-Move
unfolding outcome_of settled written
returns-in-Move c =
    stands c.requires c.judge_in.ensures c.in-Move.is
    (record { registers = moving c.move_counter.ensures c.pop.ensures; kind = refl; memory = same c.requires })

pub returns-in-Put : goal.returns-in-Put
unfolding outcome_of settled
returns-in-Put c =
    stands c.requires c.judge_in.ensures c.in-Put.is
    (record { registers = moving c.move_counter-in-Put.ensures c.pop-in-Put.ensures; kind = refl; memory = c.put_word.ensures })

pub returns-in-Push : goal.returns-in-Push
unfolding outcome_of settled
returns-in-Push c =
    stands c.requires c.judge_in.ensures c.in-Push.is
    (record { registers = moving c.move_counter-in-Push.ensures c.push.ensures; kind = refl; memory = c.put_word-in-Push.ensures })

pub returns-in-One : goal.returns-in-One
unfolding outcome_of settled
returns-in-One c =
    stands c.requires c.judge_in.ensures c.in-One.is
    (record { registers = c.move_counter-in-One.ensures; kind = refl; memory = c.put_word-in-One.ensures })

pub returns-in-Two : goal.returns-in-Two
unfolding outcome_of settled
returns-in-Two c =
    stands c.requires c.judge_in.ensures c.in-Two.is
    (record { registers = moving c.move_counter-in-Two.ensures c.pop-in-Two.ensures; kind = refl; memory = c.put_word-in-Two.ensures })

pub returns-in-Swap : goal.returns-in-Swap
unfolding outcome_of settled
returns-in-Swap c =
    stands c.requires c.judge_in.ensures c.in-Swap.is
    (record { registers = c.move_counter-in-Swap.ensures; kind = refl; memory = c.put_pair.ensures })

pub returns-in-Call : goal.returns-in-Call
unfolding outcome_of settled
returns-in-Call c =
    let mem = rw c.mark-mark.ensures at c.put_mark.ensures in
    stands c.requires c.judge_in.ensures c.in-Call.is
    (record { registers = entering c.enter.ensures (moving c.move_counter-in-Call.ensures c.push-in-Call.ensures); kind = refl; memory = mem })

pub returns-in-Back : goal.returns-in-Back
unfolding outcome_of settled written
returns-in-Back c =
    stands c.requires c.judge_in.ensures c.in-Back.is
    (record { registers = entering c.enter-in-Back.ensures (moving c.move_counter-in-Back.ensures c.push-in-Back.ensures); kind = refl; memory = same c.requires })

pub returns-in-Block : goal.returns-in-Block
unfolding outcome_of settled
returns-in-Block c =
    stands c.requires c.judge_in.ensures c.in-Block.is
    (record { registers = moving c.move_counter-in-Block.ensures c.push-in-Block.ensures; kind = refl; memory = c.put_block.ensures })

pub returns-in-Bad : goal.returns-in-Bad
unfolding outcome_of settled
returns-in-Bad c =
    stands c.requires c.judge_in.ensures c.in-Bad.is
    (record { registers = refl; kind = ap (faulted c.in-Bad.n) c.place_of.ensures; memory = same c.requires })

pub returns-in-Finish : goal.returns-in-Finish
unfolding outcome_of settled
returns-in-Finish c =
    stands c.requires c.judge_in.ensures c.in-Finish.is
    (record { registers = refl; kind = refl; memory = same c.requires })
