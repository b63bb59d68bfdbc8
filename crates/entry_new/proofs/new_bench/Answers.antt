-- `entry_new::new_bench` meets its contract.
use mathlib.Core.Path.{sym, ◌∙◌}
use Rattle.entry.specs.Entries.{new_of}
use Rattle.entry_new.proofs.new_bench.Goals as goal

pub returns-then-limits_ok : goal.returns-then-limits_ok
unfolding new_of
returns-then-limits_ok c = rw (sym c.limits_ok.ensures ∙ c.if-limits_ok.true, c.empty.ensures)

pub returns : goal.returns
unfolding new_of
returns c = rw (sym c.limits_ok.ensures ∙ c.if-limits_ok.false, c.empty-2.ensures)
