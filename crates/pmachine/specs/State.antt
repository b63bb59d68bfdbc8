-- A session of the p-machine, as document 01 describes it: its own words, its registers and its kind.
-- Above: Step and Run, which change it; below: nothing.
use Rattle.std.specs.Prelude.{ℕ, List}

-- "A session's registers are SP, M, the counter and the current routine number." Request 3: "The session record shall keep the lowest stack pointer
-- reached since opening", and demand 3 "counts it among the registers".
pub record Registers : Type 0 where
  pub sp : ℕ
  pub m : ℕ
  pub counter : ℕ
  pub routine : ℕ
  pub lowest : ℕ

-- "The three kinds of session are ready, finished and faulted (with fault number and place)."
pub data Kind : Type 0 where
  ready : Kind
  finished : Kind
  faulted : ℕ → ℕ → Kind

-- The words of its region, word 0 first.
pub record State : Type 0 where
  pub words : List ℕ
  pub registers : Registers
  pub kind : Kind
