-- The number of a form says which form is fetched; DB is fetched as UB is.
use Rattle.std.proofs.Common.{rules}
use Rattle.operand.specs.Operand.{form_at, fetched}
use Rattle.reader.proofs.fetch_coded.Goals as goal

pub returns-then-digit-eq1 : goal.returns-then-digit-eq1
unfolding form_at
returns-then-digit-eq1 c = search rules

pub returns-then-digit-eq2 : goal.returns-then-digit-eq2
unfolding form_at
returns-then-digit-eq2 c = search rules

pub returns-then-digit-eq3 : goal.returns-then-digit-eq3
unfolding form_at fetched
returns-then-digit-eq3 c = search rules

pub returns-then-digit-eq4 : goal.returns-then-digit-eq4
unfolding form_at
returns-then-digit-eq4 c = search rules

pub returns : goal.returns
unfolding form_at
returns c = search rules
