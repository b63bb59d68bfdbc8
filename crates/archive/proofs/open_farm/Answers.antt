-- `archive::open_farm` meets its contract.
use mathlib.Core.Path.{ap}
use Rattle.archive.specs.Archive.{found_of}
use Rattle.archive.proofs.Laws.{opens_there, refuses_there}
use Rattle.archive.proofs.open_farm.Goals as goal

pub returns-in-Ok : goal.returns-in-Ok
returns-in-Ok c = opens_there _ _ _ _ _ _ c.range.ensures _ (ap found_of c.in-Ok.is) c.open_window.ensures

pub returns-in-Err : goal.returns-in-Err
returns-in-Err c = refuses_there _ _ _ _ _ _ c.range.ensures _ _ (ap found_of c.in-Err.is) (c.refuse.ensures _)
