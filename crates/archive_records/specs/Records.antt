-- Request 7: "The shared words become an archive of records of four words each: farm, pond, day, concentration."
-- The definitions are on a list of words, which in a bench are its S shared words. What they mean in plain quantifiers is proved in proofs/.
-- Above: the contracts of this crate, the entries of archive, demands. Below: the two numbers of a window.
use Rattle.std.specs.Prelude.{List, [], ◌++◌, Bool, true, cond, ◌&&◌, ℕ, zero, suc, ◌+◌, ◌-◌, ◌*◌, ◌/◌, ◌%◌, leb, eqb, length, get_or, take, drop}
use Rattle.sound.specs.declared.Window.{Window}
use Rattle.sound.specs.Bench.{window_in}

-- the number of whole records, and the farm number of record r, which is its first word
abbrev pub records_in : List ℕ → ℕ
records_in a = length a / 4

abbrev pub farm_at : List ℕ → ℕ → ℕ
farm_at a r = get_or a (4 * r) 0

-- "farm numbers never fall from one record to the next": from record 0 up to record k
unfoldable pub never_falls : List ℕ → ℕ → Bool
never_falls a zero = true
never_falls a (suc k) = never_falls a k && leb (farm_at a k) (farm_at a (suc k))

-- "It is accepted exactly if S is a multiple of 4 and farm numbers never fall from one record to the next"
abbrev pub accepted : List ℕ → Bool
accepted a = eqb (length a % 4) 0 && never_falls a (records_in a - 1)

-- the first of the records 1 to k whose farm number is below that of the record before it, for the maintainer to look at; k + 1 if there is none
unfoldable pub first_fall : List ℕ → ℕ → ℕ
first_fall a zero = 1
first_fall a (suc k) = cond (never_falls a k) (cond (leb (farm_at a k) (farm_at a (suc k))) (k + 2) (k + 1)) (first_fall a k)

-- "Given a farm, the crate finds its records": of the records below n, how many are the farm's, and the first that is, 0 if there is none
unfoldable pub how_many : List ℕ → ℕ → ℕ → ℕ
how_many a farm zero = 0
how_many a farm (suc n) = cond (eqb (farm_at a n) farm) (how_many a farm n + 1) (how_many a farm n)

unfoldable pub first_of : List ℕ → ℕ → ℕ → ℕ
first_of a farm zero = 0
first_of a farm (suc n) = cond (eqb (farm_at a n) farm) (cond (eqb (how_many a farm n) 0) n (first_of a farm n)) (first_of a farm n)

-- "as one range, empty at word 0 if there are none": in words, four to a record
abbrev pub range_of : List ℕ → ℕ → Window
range_of a farm = record { first = 4 * first_of a farm (records_in a); len = 4 * how_many a farm (records_in a) }

-- the words in that range
abbrev pub records_of : List ℕ → ℕ → List ℕ
records_of a farm = window_in (range_of a farm) a

-- and, to hold them to: the farm's records below n, one after another, each with its four words
unfoldable pub own_records : List ℕ → ℕ → ℕ → List ℕ
own_records a farm zero = []
own_records a farm (suc n) = cond (eqb (farm_at a n) farm) (own_records a farm n ++ take 4 (drop (4 * n) a)) (own_records a farm n)
