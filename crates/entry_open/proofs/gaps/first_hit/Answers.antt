-- `entry_open::gaps::first_hit` meets its contract.
use mathlib.Core.Path.{◌∙◌}
use Rattle.std.proofs.Common.{rules, tests}
use Rattle.std.proofs.lemmas.Iterator.{YieldsList-from_slice}
use Rattle.std.proofs.lemmas.Iterator.Search.{position_from_yields_List}
use Rattle.entry.specs.Entries.{hits}
use Rattle.entry_open.proofs.Lowest.{first_is}
use Rattle.entry_open.proofs.gaps.first_hit.Goals as goal

pub returns : goal.returns
returns c =
    let l = c.args.sessions in
    let p = hits c.args.a c.args.len in
    position_from_yields_List p _ _ _ c.position.ensures.ran (YieldsList-from_slice l cc) (λ x b q k. search (rules, tests)) ∙ first_is p l
