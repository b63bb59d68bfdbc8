-- The code's answers in the words of the definition of a step: whose record, where static links lead, and why a routine cannot be called.
-- Above: contracts of flow; below: Meaning and Step of `pmachine`.
use Rattle.std.specs.Prelude.{⊤, Result, Ok, Err, ℕ, List, ◌&&◌, cond, leb}
use Rattle.segment.specs.Head.{linked}
use Rattle.pmachine.specs.Meaning.{Whose as Whose', globals, up}
use Rattle.pmachine.specs.Step.{Link, reaches, broken}
use Rattle.cause.specs.declared.why.BadLink.{BadLink}
use Rattle.cause.specs.declared.meaning.Whose.{Whose}
use Rattle.cause.specs.declared.meaning.Whose.TheVariants.{Globals, Up}
use Rattle.cause.specs.declared.why.Flow.TheVariants.{Routine, Unlinked}
use Rattle.cause.specs.declared.why.Why.{Why}
use Rattle.cause.specs.declared.why.Why.TheVariants.{Flow as of-flow}

abbrev pub whose_of : Whose → Whose'
whose_of Globals = globals
whose_of (Up d) = up d

abbrev pub link_of : Result ℕ BadLink → Link
link_of (Ok m) = reaches m
link_of (Err l) = broken

-- 8 of a call: "routine number outside 1..n", or a routine that is not linked. They are told in other words, so which of them it is counts.
abbrev pub call_why : ℕ → List ℕ → ℕ → Result ⊤ Why
call_why n s k = cond (leb 1 k && leb k n) (cond (linked s k) (Ok tt) (Err (of-flow (Unlinked k)))) (Err (of-flow (Routine k)))
