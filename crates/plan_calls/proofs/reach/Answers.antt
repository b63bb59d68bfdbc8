-- `plan_calls::reach` meets its contract where two links are followed: one, and one more. Assumes nothing.
use native.Mathlib.Omega.{arith}
use mathlib.Core.Path.{sym, ◌∙◌}
use Rattle.plan.proofs.Links.{one_more}
use Rattle.plan_calls.proofs.reach.Goals as goal

pub returns-then-d-eq2 : goal.returns-then-d-eq2
returns-then-d-eq2 c =
    let a = c.args in
    rw c.if-d-eq2.true (c.link-then-d-eq2-2.ensures ∙ sym (one_more a.region.now a.m 2 _ (λ z. omega (arith, z)) (sym c.in_ok-link.ensures)))
