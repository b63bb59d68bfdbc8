-- A request to a bench: one case for each entry that takes a bench, what it answers and leaves, and the checks that it is judged by, in their order.
-- So what holds of every entry is said once, and an entry that is added later adds a case. Above: demands. Below: bench's entries, archive's opening.
use Rattle.std.specs.Prelude.{List, ℕ}
use Rattle.basis.specs.Checks.{Check}
use Rattle.sound.specs.declared.Window.{Window}
use Rattle.sound.specs.Bench.{World}
use Rattle.entry.specs.Answer.{Result}
use Rattle.entry.specs.Entries.{load_checks, load_of, open_checks, open_of, window_checks, window_open_of, turn_checks, turn_of, close_checks, close_of}
use Rattle.archive.specs.Archive.{farm_checks, farm_open_of}

pub data Request : Type 0 where
  loading : ℕ → ℕ → ℕ → Request  -- slot, start, length
  opening : ℕ → ℕ → Request  -- slot, L
  opening_on : ℕ → ℕ → Window → Request  -- slot, L, window
  opening_for : ℕ → ℕ → ℕ → Request  -- slot, L, farm
  turning : ℕ → ℕ → Request  -- session, steps
  closing : ℕ → Request  -- session

abbrev pub asked : List ℕ → Request → World → Result
asked store (loading slot start len) w = load_of store slot start len w
asked store (opening slot len) w = open_of store slot len w
asked store (opening_on slot len v) w = window_open_of store slot len v w
asked store (opening_for slot len farm) w = farm_open_of store slot len farm w
asked store (turning i k) w = turn_of store i k w
asked store (closing i) w = close_of store i w

-- "Order: loading 11, 12, 17, then 1 to 8. [..] Opening 11, 12, 13, 14, 15. Turn and closing 11, 12, 16." Request 7: for a farm, 23 after 11
abbrev pub checks_for : List ℕ → Request → World → List Check
checks_for store (loading slot start len) w = load_checks store slot start len w
checks_for store (opening slot len) w = open_checks store slot len w
checks_for store (opening_on slot len v) w = window_checks store slot len v w
checks_for store (opening_for slot len farm) w = farm_checks store slot len farm w
checks_for store (turning i k) w = turn_checks store i k w
checks_for store (closing i) w = close_checks store i w
