-- Document 01's number of each check that can fail; 0 where none does.
-- Above: contracts of the checks; below: the code's answers.
use Rattle.std.specs.Prelude.{⊤, Result, Ok, Err, ℕ}
use Rattle.cause.specs.declared.why.Code.{Code}
use Rattle.cause.specs.declared.why.Code.TheVariants.{Begins, Ends, Uncarried, Level}
use Rattle.cause.specs.declared.why.Stack.{Stack}
use Rattle.cause.specs.declared.why.Stack.TheVariants.{Few, Zero, Range, Deep, Room, Block}
use Rattle.cause.specs.declared.why.Flow.{Flow}
use Rattle.cause.specs.declared.why.Flow.TheVariants.{Target, Before, Case, CaseBefore, Routine, Unlinked, Link, Dynamic, Caller, Segment, Resume, Back}
use Rattle.cause.specs.declared.why.Why.{Why}
use Rattle.cause.specs.declared.why.Why.TheVariants.{Code as of_code, Stack as of-stack, Place as of-place, Address as of-address, Flow as of-flow}

abbrev pub code_fault : Code → ℕ
code_fault Begins = 1
code_fault (Ends missing) = 1
code_fault (Uncarried first) = 2
code_fault (Level x) = 2

abbrev pub stack_fault : Stack → ℕ
stack_fault (Few taken there) = 3
stack_fault (Zero dividend) = 5
stack_fault (Range value low high) = 10
stack_fault (Deep after) = 4
stack_fault (Room k size free) = 4
stack_fault (Block k free) = 4

abbrev pub flow_fault : Flow → ℕ
flow_fault (Target t) = 7
flow_fault (Before k) = 7
flow_fault (Case i t) = 7
flow_fault (CaseBefore i k) = 7
flow_fault (Routine k) = 8
flow_fault (Unlinked k) = 8
flow_fault (Link l) = 9
flow_fault (Dynamic value) = 9
flow_fault (Caller value) = 9
flow_fault (Segment value) = 9
flow_fault (Resume value) = 9
flow_fault (Back sp b) = 9

abbrev pub fault_of : Result ⊤ Why → ℕ
fault_of (Ok u) = 0
fault_of (Err (of_code c)) = code_fault c
fault_of (Err (of-stack s)) = stack_fault s
fault_of (Err (of-place p)) = 6
fault_of (Err (of-address a)) = 6
fault_of (Err (of-flow f)) = flow_fault f
