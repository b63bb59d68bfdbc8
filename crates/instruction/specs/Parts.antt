-- MIRROR OF THE CODE, for the proofs; nobody has to believe it. What the small functions answer: an operand by its digit in the packed table, from a byte on or after another operand.
-- Above: the contracts of `by_form` and `after`; below: the operands. Assumes nothing.
use Rattle.std.specs.Prelude.{ℕ, List, cond, eqb}
use Rattle.operand.specs.Operand.{Fetched, got, out, fetched, form_at}

-- the operand of a form by the form's number; and for 0, which is no form's, the value 0 at no bytes
unfoldable pub by_digit : ℕ → List ℕ → ℕ → Fetched
by_digit d s at = cond (eqb d 0) (got 0 at) (fetched (form_at d) s at)

-- the operand after one that is there
unfoldable pub after : Fetched → ℕ → List ℕ → Fetched
after (got v next) d s = by_digit d s next
after (out place) d s = out place
