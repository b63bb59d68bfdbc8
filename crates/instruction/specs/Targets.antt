-- The target of a jump as the definition of a step has it.
-- Above: the contract of `leads_to`; below: `target` of Step of `pmachine`, to which it is held.
use Rattle.std.specs.Prelude.{ℕ}
use Rattle.instruction.specs.declared.jump.Target.{Target}
use Rattle.instruction.specs.declared.jump.Target.TheVariants.{Byte, Before}

-- a target below 0 counts as 0
abbrev pub byte_of : Target → ℕ
byte_of (Byte t) = t
byte_of (Before k) = 0
