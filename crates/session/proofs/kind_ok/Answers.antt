-- `session::kind_ok` tests what `kind_in_range` lists.
use mathlib.Core.Path.{◌≡◌, sym, ap}
use mathlib.Core.Logic.{⊎_elim}
use Rattle.machine.specs.declared.Kind.TheVariants.{Ready, Finished}
use Rattle.basis.specs.Bools.{every}
use Rattle.pmachine.specs.Sound.{kind_in_range}
use Rattle.session.specs.Session.{kind_ok}
use Rattle.session.proofs.kind_ok.Goals as goal

pub returns-in-Ready : goal.returns-in-Ready
unfolding kind_ok kind_in_range every
returns-in-Ready c =
    ⊎_elim (λ (e : c.args.k ≡ Ready). sym (ap (kind_ok c.args.code.now) e)) (λ (e : c.args.k ≡ Finished). sym (ap (kind_ok c.args.code.now) e)) c.in-Ready.is

pub returns-in-Faulted : goal.returns-in-Faulted
unfolding kind_ok kind_in_range every
returns-in-Faulted c =
    simp (
      c.both-in-Faulted-2.ensures,
      c.both-in-Faulted.ensures,
      c.both.ensures,
      c.at_most-in-Faulted-3.ensures,
      c.at_most-in-Faulted-2.ensures,
      c.at_most-in-Faulted.ensures,
      c.at_most.ensures,
    )
    (sym (ap (kind_ok c.args.code.now) c.in-Faulted.is))
