-- `session::cpu_ok` tests what `cpu_ok` lists, from the last test to the first.
use Rattle.basis.specs.Bools.{every}
use Rattle.pmachine.specs.Sound.{in_range}
use Rattle.session.specs.Session.{kind_ok, cpu_ok}
use Rattle.session.proofs.cpu_ok.Goals as goal

pub returns : goal.returns
unfolding cpu_ok kind_ok in_range every
returns c =
    simp (
      c.both-6.ensures,
      c.both-5.ensures,
      c.at_most-10.ensures,
      c.at_most-9.ensures,
      c.both-d.ensures,
      c.both-4.ensures,
      c.at_most-8.ensures,
      c.at_most-7.ensures,
      c.both-e.ensures,
      c.both-3.ensures,
      c.at_most-6.ensures,
      c.ends_by.ensures,
      c.both-f.ensures,
      c.both-2.ensures,
      c.at_most-5.ensures,
      c.at_most-4.ensures,
      c.both-g.ensures,
      c.both.ensures,
      c.at_most-3.ensures,
      c.at_most-2.ensures,
      c.both-h.ensures,
      c.kind_ok.ensures,
      c.at_most.ensures,
      c.head-head.ensures,
      c.floor-low.ensures,
    )
