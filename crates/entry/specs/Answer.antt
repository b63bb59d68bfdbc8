-- Answers and refusals. "A refusal returns its number and a place (the routine number for 6 to 8, else 0). Bench, store, memory and output
-- are then unchanged."
-- Above: Entries. Below: sound's World.
use Rattle.std.specs.Prelude.{List, ℕ, Result as Fallible, Ok, Err}
use Rattle.basis.specs.Checks.{Check, Ruling, passed, refused, ruling}
use Rattle.segment.specs.declared.refusal.Refusal.{Refusal}
use Rattle.segment.specs.Refusals.{number_of, place_of}
use Rattle.sound.specs.Bench.{World, world_of}
use Rattle.entry.specs.declared.Out.{Out}

-- what a request comes to: it is done, with a value, or refused, with a number and a place
pub data Answer : Type 0 where
  Done : ℕ → Answer
  Refused : ℕ → ℕ → Answer

-- the code's answer in the paper's numbers
abbrev pub answer_of : Fallible ℕ Refusal → Answer
answer_of (Ok v) = Done v
answer_of (Err r) = Refused (number_of r) (place_of r)

-- the paper's number, place and value of each case: a request that was done has no refusal number, one that was refused has no value
abbrev pub answer_ruling : Answer → Ruling
answer_ruling (Done v) = passed
answer_ruling (Refused n p) = refused n p

abbrev pub value_of : Answer → ℕ
value_of (Done v) = v
value_of (Refused n p) = 0

-- what an entry answers, and what it leaves
pub record Result : Type 0 where
  pub answer : Answer
  pub world : World

-- what a function returned, and the memory that it left
abbrev pub result_of : Out → List ℕ → Result
result_of r m = record { answer = answer_of r.answer; world = world_of r.bench m }

abbrev pub done : ℕ → World → Result
done v w = record { answer = Done v; world = w }

abbrev pub refused_at : ℕ → ℕ → World → Result
refused_at n p w = record { answer = Refused n p; world = w }

-- what a ruling of checks comes to: the refusal with its number and place; where every check passes, this
abbrev pub ruled : Ruling → World → Result → Result
ruled passed w x = x
ruled (refused n p) w x = refused_at n p w

unfoldable pub refusing : List Check → World → Result → Result
refusing cs w x = ruled (ruling cs) w x
