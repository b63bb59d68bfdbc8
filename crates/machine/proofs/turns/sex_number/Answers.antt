-- `machine::turns::sex_number` meets its contract. Assumes nothing.
use Rattle.machine.proofs.turns.sex_number.Goals as goal

pub returns-then-least : goal.returns-then-least
returns-then-least c = simp c.if-least.true

pub returns-else-least : goal.returns-else-least
returns-else-least c = simp c.if-least.false
