-- `session::run` is the machine's turn, in the bench's words.
use Rattle.basis.specs.Part.{part, splice}
use Rattle.session.proofs.Laws.{asked, ran}
use Rattle.session.proofs.run.Goals as goal

pub turn-requires : goal.turn-requires
unfolding part
turn-requires c =
    let p = c.requires in
    let a = asked _ _ _ _ _ _ _ p.code_value p.cpu_value p.base_bound in
    record { placed = a.0; loaded = a.1.0; ranged = a.1.1 }

pub returns : goal.returns
unfolding part splice
returns c = let o = c.requires.base_bound in ran _ _ _ _ _ _ _ _ _ _ o.2 o.3 o.4 c.turn.ensures
