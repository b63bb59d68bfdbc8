-- The code's answers in the definition's words: registers, links, and the outcome that a plan tells.
-- Above: contracts of `plan` and the four crates on it, `judge`, `machine` and `session`; below: Step of `pmachine`. What the helpers answer is in Mirror.
use Rattle.std.specs.Prelude.{ℕ, ◌+◌, ◌-◌, List, [], ◌∷◌, Option, Some, None, eqb}
use Rattle.pmachine.specs.State.{Registers}
use Rattle.pmachine.specs.Pool.{words_from, on_top}
use Rattle.pmachine.specs.Step.{Outcome, fault, finish, goes, moved, lowered, Link as Linked, reaches, broken}
use Rattle.plan.specs.declared.Regs.{Regs}
use Rattle.plan.specs.declared.Planned.{Planned}
use Rattle.plan.specs.declared.Planned.TheVariants.{Move, Put, Push, One, Two, Swap, Call, Back, Block, Bad, Finish}

abbrev pub regs_of : Regs → Registers
regs_of r = record { sp = r.sp; m = r.m; counter = r.counter; routine = r.routine; lowest = r.lowest }

-- a record reached by static links, or a bad link
abbrev pub link_of : Option ℕ → Linked
link_of (Some m) = reaches m
link_of None = broken

-- The outcome that an answer tells, of a step from r on the bytes s. Those that can bring SP lower say `lowered`; the others tell a step that does not.
unfoldable pub outcome_of : List ℕ → Regs → Planned → Outcome
outcome_of s r (Move sp next) = goes (moved (regs_of r) sp next) sp []
outcome_of s r (Put v sp next at) = goes (moved (regs_of r) sp next) at (v ∷ [])
outcome_of s r (Push v sp next) = goes (lowered (moved (regs_of r) sp next)) sp (v ∷ [])
outcome_of s r (One v next) = goes (moved (regs_of r) r.sp next) r.sp (v ∷ [])
outcome_of s r (Two v next) = goes (moved (regs_of r) (r.sp + 1) next) (r.sp + 1) (v ∷ [])
outcome_of s r (Swap x y next) = goes (moved (regs_of r) r.sp next) r.sp (x ∷ y ∷ [])
outcome_of s r (Call parent next sp counter k) =
    goes (lowered (record { sp = sp; m = sp; counter = counter; routine = k; lowest = r.lowest })) sp (parent ∷ r.m ∷ next ∷ 1 ∷ r.routine ∷ [])
outcome_of s r (Back sp m counter k) = goes (lowered (record { sp = sp; m = m; counter = counter; routine = k; lowest = r.lowest })) r.sp []
outcome_of s r (Block first n next sex) =
    goes (lowered (moved (regs_of r) (r.sp - n) next)) (r.sp - n) (on_top (words_from (eqb sex 0) s first n))
outcome_of s r (Bad n) = fault n
outcome_of s r Finish = finish
