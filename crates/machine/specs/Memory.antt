-- A turn in one memory: the documented machine's run on a session's region, and every other word as it was.
-- Above: the contract of `turn`, and the bench; below: Run of `pmachine`, parts of a memory, and Memory of `steps` for one step.
use Rattle.std.specs.Prelude.{◌≡◌, List, ℕ, take}
use Rattle.basis.specs.Part.{part, splice}
use Rattle.pmachine.specs.State.{Registers, Kind as Kinds, ready, finished, faulted, State}
use Rattle.pmachine.specs.Run.{run, steps_done}
use Rattle.plan.specs.Answer.{regs_of}
use Rattle.machine.specs.declared.Kind.{Kind}
use Rattle.machine.specs.declared.Kind.TheVariants.{Ready, Finished, Faulted}
use Rattle.machine.specs.declared.Turned.{Turned}

-- the code's kind, in the definition's words
abbrev pub kind_of : Kind → Kinds
kind_of Ready = ready
kind_of Finished = finished
kind_of (Faulted n place) = faulted n place

-- a session's state, of a memory in which its region is the words from `at` up to `end`
abbrev pub state_at : ℕ → ℕ → List ℕ → Registers → Kinds → State
state_at at end m r k = record { words = part at end m; registers = r; kind = k }

-- k steps from r and kind c: registers, kind and count are the definition's on the region alone, and no word outside the region changes.
pub record TurnedTo (s m : List ℕ) (j at end k : ℕ) (r : Registers) (c : Kinds) (t : Turned) (m' : List ℕ) : Type 0 where
  pub registers : regs_of t.cpu.regs ≡ (run s (take j m) k (state_at at end m r c)).registers
  pub kind : kind_of t.cpu.kind ≡ (run s (take j m) k (state_at at end m r c)).kind
  pub done : t.done ≡ steps_done s (take j m) k (state_at at end m r c)
  pub memory : m' ≡ splice at end (run s (take j m) k (state_at at end m r c)).words m
