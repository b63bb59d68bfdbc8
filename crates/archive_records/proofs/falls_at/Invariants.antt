-- `archive_records::falls_at` meets its contract: the loop has come to record r, and no record before it falls.
use mathlib.Core.Path.{◌≡◌}
use mathlib.Core.Bool.{true}
use Prim.Native.Nat.{◌-◌, ◌≤◌}
use Rattle.archive_records.specs.Records.{never_falls}
use Rattle.archive_records.proofs.falls_at.Given as goal

abbrev pub invariant-loop-r : goal.invariant-loop-r
invariant-loop-r l = (1 ≤ l.r) × ((l.r - 1 ≤ l.n - 1) × (never_falls l.words (l.r - 1) ≡ true))
