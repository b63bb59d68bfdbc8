-- `checks::sex_ok` meets its contract. Assumes nothing.
use Rattle.segment.specs.Head.{sex_bytes}
use Rattle.checks.proofs.sex_ok.Goals as goal

pub returns : goal.returns
unfolding sex_bytes
returns c =
    simp (
      c.either.ensures,
      c.both-2.ensures,
      c.both.ensures,
      c.byte_at-b.ensures,
      c.byte_at-a.ensures,
    )
