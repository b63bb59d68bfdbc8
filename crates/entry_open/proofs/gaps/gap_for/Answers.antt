-- `entry_open::gaps::gap_for` meets its contract: every gap starts from a on.
use mathlib.Core.Path.{sym, ◌∙◌}
use native.Mathlib.Omega.{arith}
use Rattle.sound.specs.Bench.{no_session}
use Rattle.entry_open.proofs.Lowest.{starts, full, found, past}
use Rattle.entry_open.proofs.gaps.gap_for.Goals as goal

pub loop-a-init : goal.loop-a-init
loop-a-init c = starts c.args.sessions c.args.s c.args.n c.args.len

pub returns-then-n-a : goal.returns-then-n-a
returns-then-n-a c = full _ _ _ _ _ c.loop-a.invariant (omega arith)

pub returns-in_default : goal.returns-in_default
returns-in_default c =
    let a = c.args in
    found a.sessions a.s a.n a.len c.loop-a.a c.loop-a.invariant (omega arith) (sym c.first_hit.ensures ∙ c.in_default.is)

pub overflow_add-a : goal.overflow_add-a
overflow_add-a c =
    let p = past _ _ _ _ _ c.loop-a.invariant _ (sym c.first_hit.ensures ∙ c.in-Some.is) no_session c.requires.1 in
    omega (arith, p.fits, c.requires.0)

pub loop-a-smaller : goal.loop-a-smaller
loop-a-smaller c =
    let p = past _ _ _ _ _ c.loop-a.invariant _ (sym c.first_hit.ensures ∙ c.in-Some.is) no_session c.requires.1 in
    omega (arith, p.further)

pub loop-a-preserved : goal.loop-a-preserved
loop-a-preserved c =
    (past _ _ _ _ _ c.loop-a.invariant _ (sym c.first_hit.ensures ∙ c.in-Some.is) no_session c.requires.1).from

pub returns : goal.returns
returns c = full _ _ _ _ _ c.loop-a.invariant (omega arith)
