-- Request 7, "a crate of its own above the runner": the entries of the archive, on every input. The archive is a bench's S shared words.
-- Above: the contracts of this crate, promises, demands. Below: entry's openings and answers; what an archive is, in archive_records.
use Rattle.std.specs.Prelude.{Result as Fallible, Ok, Err, List, [], ◌∷◌, ◌++◌, ℕ}
use Rattle.basis.specs.Checks.{Check, check, Ruling, passed, refused, ruling}
use Rattle.segment.specs.declared.refusal.Refusal.{Refusal}
use Rattle.segment.specs.Refusals.{number_of, place_of}
use Rattle.sound.specs.declared.Window.{Window}
use Rattle.sound.specs.Bench.{World, shared_of}
use Rattle.entry.specs.Answer.{Result, refusing}
use Rattle.entry.specs.Entries.{is_sound, window_checks, window_open_of}
use Rattle.archive_records.specs.Records.{accepted, range_of}

-- judging the archive: "accepted exactly if [..], else refusal 23, after 11"
abbrev pub archive_checks : List ℕ → World → List Check
archive_checks store w = check 11 0 (is_sound store w) ∷ check 23 0 (accepted (shared_of w)) ∷ []

-- "Given a farm, the crate finds its records as one range"
abbrev pub farm_range : ℕ → World → Window
farm_range farm w = range_of (shared_of w) farm

-- a range, or the refusal of the archive
pub data Found : Type 0 where
  At : Window → Found
  Refused : ℕ → ℕ → Found

-- the code's answer in the paper's numbers
abbrev pub found_of : Fallible Window Refusal → Found
found_of (Ok v) = At v
found_of (Err r) = Refused (number_of r) (place_of r)

abbrev pub found_by : Ruling → Window → Found
found_by passed v = At v
found_by (refused n p) v = Refused n p

unfoldable pub range_answer : List ℕ → ℕ → World → Found
range_answer store farm w = found_by (ruling (archive_checks store w)) (farm_range farm w)

-- "and opens a session that sees only that range": 11, 23, then the opening's 12, 13, 14, 15
abbrev pub farm_checks : List ℕ → ℕ → ℕ → ℕ → World → List Check
farm_checks store slot len farm w = archive_checks store w ++ window_checks store slot len (farm_range farm w) w

unfoldable pub farm_open_of : List ℕ → ℕ → ℕ → ℕ → World → Result
farm_open_of store slot len farm w = refusing (archive_checks store w) w (window_open_of store slot len (farm_range farm w) w)
