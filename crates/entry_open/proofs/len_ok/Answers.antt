-- `entry_open::len_ok` meets its contract.
use Rattle.basis.specs.Bools.{every}
use Rattle.entry.specs.Entries.{len_ok}
use Rattle.entry_open.proofs.len_ok.Goals as goal

pub returns : goal.returns
unfolding len_ok every
returns c =
    rw (c.both-2.ensures, c.both.ensures, c.at_most.ensures, c.at_most-2.ensures, c.at_most-3.ensures, c.floor-low.ensures)
