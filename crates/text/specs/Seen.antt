-- What `shown.rt` cites: what a byte is shown as.
-- Above it: the contract of `visible`. Below it: numbers. Assumes nothing.
use Rattle.std.specs.Prelude.{ℕ, cond, ltb, leb, eqb}

-- a dot, 46, for a byte below a blank, 32, for 127 and for one above top; else the byte itself
unfoldable pub seen_as : ℕ → ℕ → ℕ
seen_as top b = cond (ltb b 32) 46 (cond (eqb b 127) 46 (cond (leb b top) b 46))
