-- The theorem on the order of a region: each part is arithmetic on the definitions.
-- Above: nothing. Below: the statements in specs/Depth.
use native.Mathlib.Omega.{arith}
use Rattle.depth.specs.Depth.{Order}

pub order : Order
order =
    record {
      fits = λ floor len lowest words h. omega (arith, h);
      needed = λ floor len lowest words least h. omega (arith, least, h);
      opens = λ floor len lowest. omega arith;
      own = λ floor len lowest least above below. omega (arith, least, above, below);
      rest = λ floor len lowest above below. omega (arith, above, below);
      exact = λ floor len lowest least top above below. omega (arith, least, top, above, below);
    }
