-- "A refusal returns its number and a place (the routine number for 6 to 8, else 0)": those of each case of the code's refusals, in the order
-- of document 01's table, and 23 of request 7.
-- Above: what an answer says (Judge, and the answers of the bench and the archive). Below: nothing. Assumes nothing.
use Rattle.std.specs.Prelude.{ℕ}
use Rattle.segment.specs.declared.refusal.Refusal.{Refusal}
use Rattle.segment.specs.declared.refusal.Refusal.TheVariants.{Length, Sex, Relocation, Pool, Dictionary, Entry, Datasize, Exitic, HasPool, ShortOutput, Unsound, NotThere, RegionLength, NoRecord, NoGap, TooManySteps, Limits, NotArchive}

abbrev pub number_of : Refusal → ℕ
number_of Length = 1
number_of Sex = 2
number_of Relocation = 3
number_of Pool = 4
number_of Dictionary = 5
number_of (Entry k) = 6
number_of (Datasize k) = 7
number_of (Exitic k) = 8
number_of HasPool = 9
number_of ShortOutput = 10
number_of Unsound = 11
number_of NotThere = 12
number_of RegionLength = 13
number_of NoRecord = 14
number_of NoGap = 15
number_of TooManySteps = 16
number_of Limits = 17
number_of NotArchive = 23

abbrev pub place_of : Refusal → ℕ
place_of Length = 0
place_of Sex = 0
place_of Relocation = 0
place_of Pool = 0
place_of Dictionary = 0
place_of (Entry k) = k
place_of (Datasize k) = k
place_of (Exitic k) = k
place_of HasPool = 0
place_of ShortOutput = 0
place_of Unsound = 0
place_of NotThere = 0
place_of RegionLength = 0
place_of NoRecord = 0
place_of NoGap = 0
place_of TooManySteps = 0
place_of Limits = 0
place_of NotArchive = 0
