-- Where a step faults: request 8's sentences as statements. Each is proved by the law of its name in proofs/Places.
-- Above: Demands; below: Run, Sound, and how far a step fetches, in Decoding.
use Rattle.std.specs.Prelude.{ℕ, ◌*◌, ◌≤◌, ◌<◌, ◌≡◌, ◌↔◌, List, true, false, length}
use Rattle.basis.specs.Bools.{inside}
use Rattle.segment.specs.Head.{words}
use Rattle.pmachine.specs.State.{Registers, faulted, State}
use Rattle.pmachine.specs.Decoding.{faulty, decode}
use Rattle.pmachine.specs.Step.{fault, judge}
use Rattle.pmachine.specs.Run.{is_ready, place_of, step, run}
use Rattle.pmachine.specs.Sound.{in_range, Loaded}

-- a step faults with n at p exactly if n is the fault that is judged, and p is the place of n
abbrev pub FaultPlace : Type 0
FaultPlace =
    (s shared : List ℕ) (t : State) (n p : ℕ) → is_ready t.kind ≡ true
    → ((step s shared t).kind ≡ faulted n p) ↔ ((judge s shared t.words t.registers ≡ fault n) × (p ≡ place_of s n t.registers.counter))

-- 1 is the decoder's: "the first byte is judged for 1 and 2 before its operands are fetched", and no other check gives it
abbrev pub FaultOne : Type 0
FaultOne = (s shared w : List ℕ) (r : Registers) → (judge s shared w r ≡ fault 1) ↔ (decode s r.counter ≡ faulty 1)

-- "fault 1 carries that as its place": of an instruction that faults with 1 and begins in the segment or past it, the byte at the place is not there,
-- and every byte before it, from the instruction's first on, is
abbrev pub FirstMissing : Type 0
FirstMissing =
    (s : List ℕ) (at : ℕ) → 22 ≤ at → decode s at ≡ faulty 1
    → (at ≤ place_of s 1 at) × (length s ≤ place_of s 1 at) × ((i : ℕ) → at ≤ i → i < place_of s 1 at → i < length s)

-- "A first byte out of range gives the same place as before."
abbrev pub PlaceOutside : Type 0
PlaceOutside = (s : List ℕ) (n at : ℕ) → inside 22 (length s) at ≡ false → place_of s n at ≡ at

-- "All other faults keep theirs."
abbrev pub PlaceOthers : Type 0
PlaceOthers = (s : List ℕ) (n at : ℕ) → (n ≡ 1 → ⊥) → place_of s n at ≡ at

-- "Case (e) gains its place: 2W": a turn of a ready session that soundness allows never ends in fault 1 elsewhere
abbrev pub PlaceAtEnd : Type 0
PlaceAtEnd =
    (s shared : List ℕ) (l : ℕ) → Loaded s → (k : ℕ) (t : State) → length t.words ≡ l → in_range s l t.registers t.kind ≡ true
    → is_ready t.kind ≡ true → (p : ℕ) → (run s shared k t).kind ≡ faulted 1 p → p ≡ 2 * words s
