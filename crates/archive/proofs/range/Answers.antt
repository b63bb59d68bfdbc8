-- `archive::range` meets its contract.
use mathlib.Core.Path.{sym, ap, ◌∙◌}
use Rattle.segment.specs.Judge.{ruling_of}
use Rattle.archive.specs.Archive.{At}
use Rattle.archive.proofs.Laws.{shared_long, both_hold, refuses_range, finds_range}
use Rattle.archive.proofs.range.Goals as goal

pub returns-in-Err : goal.returns-in-Err
returns-in-Err c = refuses_range _ _ _ _ _ (sym (ap ruling_of c.in-Err.is) ∙ c.accept.ensures)

pub slice_bounds-range_in-end : goal.slice_bounds-range_in-end
slice_bounds-range_in-end c = sym (shared_long _ _ (both_hold _ _ (sym c.accept.ensures ∙ ap ruling_of c.in-Ok.is)).0)

pub returns-in-Ok : goal.returns-in-Ok
returns-in-Ok c = ap At c.range_in.ensures ∙ finds_range _ _ _ (sym (ap ruling_of c.in-Ok.is) ∙ c.accept.ensures)
