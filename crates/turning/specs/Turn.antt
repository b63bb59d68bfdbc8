-- Word positions, and turning a segment to the other byte sex: the answer, and what the output holds.
-- Above: what a segment and its turned one share (Twin). Below: the layout and the checks of a segment.
-- Assumes nothing.
use Rattle.std.specs.Prelude.{ℕ, zero, suc, ◌+◌, ◌-◌, ◌/◌, ◌%◌, List, [], ◌∷◌, ◌++◌, Bool, false, ◌&&◌, ◌||◌, cond, length, drop, leb, eqb}
use Rattle.basis.specs.Bools.{inside}
use Rattle.operand.specs.Bytes.{byte_at}
use Rattle.segment.specs.Head.{dict, count, entry, linked, pool}
use Rattle.basis.specs.Checks.{Check, check, Ruling, passed, refused, ruling}
use Rattle.segment.specs.Judge.{checks}

-- w is EXITIC's or DATASIZE's word of an entry e: "e-1 and e"
unfoldable pub frame : ℕ → ℕ → Bool
frame e w = eqb (w + 1) e || eqb w e

-- w is such a word of one of the routines 1 to k. Request 1: an entry of zero "has no word positions"
unfoldable pub framed : List ℕ → ℕ → ℕ → Bool
framed s zero w = false
framed s (suc k) w = framed s k w || (linked s (suc k) && frame (entry s (suc k)) w)

-- "Word positions are 0, 1, 6 to 10, D to D+n, and e-1 and e of every routine", if it is linked
unfoldable pub position : List ℕ → ℕ → Bool
position s w = ((inside 0 2 w || inside 6 11 w) || inside (dict s) (dict s + count s + 1) w) || framed s (count s) w

-- the other byte of the word that byte i is in
unfoldable pub other : ℕ → ℕ
other i = cond (eqb (i % 2) 0) (i + 1) (i - 1)

-- f i, f (i + 1), .., n of them
unfoldable pub list_of : (ℕ → ℕ) → ℕ → ℕ → List ℕ
list_of f i zero = []
list_of f i (suc n) = f i ∷ list_of f (suc i) n

-- byte i of `out` after each word of p is written to it from s, its two bytes swapped; and all of them
unfoldable pub swap_byte : (ℕ → Bool) → List ℕ → List ℕ → ℕ → ℕ
swap_byte p s out i = cond (p (i / 2)) (byte_at s (other i)) (byte_at out i)

unfoldable pub swap_at : (ℕ → Bool) → List ℕ → List ℕ → List ℕ
swap_at p s out = list_of (swap_byte p s out) 0 (length out)

-- "Turning a segment swaps the two bytes at each word position once, even if two rules name it, and copies every other byte."
unfoldable pub turned : List ℕ → List ℕ
turned s = swap_at (position s) s s

-- 9: "turning: pool pointer not 0"; 10: "turning: output shorter than the segment"
unfoldable pub turn_checks : List ℕ → ℕ → List Check
turn_checks s room = check 9 0 (eqb (pool s) 0) ∷ check 10 0 (leb (length s) room) ∷ []

-- "Turning 1 to 10": the ruling on turning s into an output of `room` bytes
unfoldable pub turn_ruling : List ℕ → ℕ → Ruling
turn_ruling s room = ruling (checks s ++ turn_checks s room)

-- "Bench, store, memory and output are then unchanged." "Turning writes the first 2W output bytes and no others."
unfoldable pub turned_into : Ruling → List ℕ → List ℕ → List ℕ
turned_into passed s out = turned s ++ drop (length s) out
turned_into (refused n p) s out = out

-- what an output holds after turning s into it
unfoldable pub output_of : List ℕ → List ℕ → List ℕ
output_of s out = turned_into (turn_ruling s (length out)) s out
