-- `machine::turns::turn` meets its contract: a ready session runs, another stays. Assumes nothing.
use mathlib.Core.Path.{refl, sym, ◌∙◌}
use Rattle.plan.specs.Answer.{regs_of}
use Rattle.machine.specs.Memory.{kind_of}
use Rattle.machine.proofs.Going.{was_ready, not_ready}
use Rattle.machine.proofs.turns.turn.Goals as goal

pub run-requires : goal.run-requires
run-requires c =
    let p = c.requires in
    record { placed = p.placed; loaded = p.loaded; told = c.facts_of.ensures; ranged = p.ranged }

pub returns-then-is_ready : goal.returns-then-is_ready
returns-then-is_ready c =
    let a = c.args in
    was_ready a.seg.now a.mem.now a.at a.end a.s a.k (regs_of a.q.regs) (kind_of a.q.kind)
    (sym c.is_ready.ensures ∙ c.if-is_ready.true) c.run.ensures

pub returns : goal.returns
returns c =
    let a = c.args in
    let p = c.requires.placed in
    not_ready a.seg.now a.mem.now a.at a.end a.s a.k (regs_of a.q.regs) (kind_of a.q.kind) p.order p.inside
    (sym c.is_ready.ensures ∙ c.if-is_ready.false) _ refl refl refl
