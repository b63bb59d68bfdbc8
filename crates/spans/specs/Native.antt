-- Where the line after an instruction begins: native code is no p-code, and a listing that took it for instructions would lose its place.
-- Above: the contracts of `places`; below: nothing. Assumes nothing.
use Rattle.std.specs.Prelude.{ℕ, ◌+◌, cond, ltb, eqb}

-- so many bytes on, or the end of the segment
unfoldable pub onward : ℕ → ℕ → ℕ → ℕ
onward len next x = cond (ltb (next + x) len) (next + x) len

-- NAT, 168: "Transfer control to native code that begins directly after this instruction." Where that ends no one can tell.
-- NAT-INFO, 169: "Ignore the next B bytes in the p-code stream."
unfoldable pub line_after : ℕ → ℕ → ℕ → ℕ → ℕ
line_after len first x next = cond (eqb first 168) len (cond (eqb first 169) (onward len next x) next)
