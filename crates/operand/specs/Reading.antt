-- Where an operand lies, where its bytes ran out, and that forms and their numbers answer each other: what holds of every form alike.
-- Below: operands. Above: the machine, whose counter moves to the offset after the operands, and the readers by number. Assumes nothing.
use Rattle.std.specs.Prelude.{ℕ, ◌+◌, ◌≤◌, ◌<◌, ◌≡◌, List, Result, length}
use Rattle.operand.specs.declared.Operand.{Operand}
use Rattle.operand.specs.declared.Missing.{Missing}
use Rattle.operand.specs.Operand.{Form, Fetched, got, out, fetched, fetched_of, operand_fault, operand_place, digit, form_at}

-- one that is there starts at `at`, has one byte or two and ends inside the segment; of one that is not, the first byte that
-- could not be fetched is the first byte past the segment's end, if it starts inside or at the end
abbrev pub Lies : List ℕ → ℕ → Fetched → Type 0
Lies s at (got v n) = (at < n) × (n ≤ at + 2) × (n ≤ length s)
Lies s at (out p) = (at ≤ p) × (p ≤ at + 1) × (length s ≤ p) × (at ≤ length s → p ≡ length s)

-- every operand, of every form, at every offset
abbrev pub Reads : Type 0
Reads = (f : Form) (s : List ℕ) (at : ℕ) → Lies s at (fetched f s at)

-- of an operand that starts inside the segment or at its end and is not all there, the place is the segment's end
abbrev pub RunsOut : Type 0
RunsOut =
    (f : Form) (s : List ℕ) (at : ℕ) (r : Result Operand Missing) → fetched_of r ≡ fetched f s at → operand_fault r ≡ 1 → at ≤ length s
    → operand_place r ≡ length s

-- each form has a number of its own, 1 to 5, and each of those is a form's
pub record Numbered : Type 0 where
  pub form : (f : Form) → form_at (digit f) ≡ f
  pub number : (n : ℕ) → 1 ≤ n → n ≤ 5 → digit (form_at n) ≡ n
