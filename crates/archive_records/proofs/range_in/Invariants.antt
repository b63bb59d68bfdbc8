-- `archive_records::range_in` meets its contract: the loop has come to record r, and knows the farm's records before it.
use mathlib.Core.Path.{◌≡◌}
use Prim.Native.Nat.{◌≤◌}
use Rattle.archive_records.specs.Records.{how_many, first_of}
use Rattle.archive_records.proofs.range_in.Given as goal

abbrev pub invariant-loop-r : goal.invariant-loop-r
invariant-loop-r l = ((l.r ≤ l.n) × ((l.first ≤ l.r) × (l.count ≤ l.r))) × ((l.first ≡ first_of l.words l.farm l.r) × (l.count ≡ how_many l.words l.farm l.r))
