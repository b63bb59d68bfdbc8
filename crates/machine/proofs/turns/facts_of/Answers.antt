-- `machine::turns::facts_of` meets its contract: what is read is what the segment says. Assumes nothing.
use mathlib.Core.Path.{ap, ◌∙◌}
use Rattle.segment.specs.declared.Segment.{Segment}
use Rattle.plan.specs.Told.{sex_of}
use Rattle.machine.proofs.turns.facts_of.Goals as goal

pub returns : goal.returns
returns c =
    let h = c.head-head.ensures in
    record {
      sexes = c.sex_number.ensures ∙ ap (λ (x : Segment). sex_of x.least) h;
      dicts = ap (λ (x : Segment). x.dict) h;
      counts = ap (λ (x : Segment). x.count) h;
      pools = ap (λ (x : Segment). x.pool) h;
      reals = ap (λ (x : Segment). x.reals) h;
      floors = c.floor.ensures;
    }
