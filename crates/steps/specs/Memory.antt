-- The documented machine in one memory: where a session's region and the shared words lie, and what a step leaves there.
-- Above: the contract of `step`, and what a turn leaves, in `machine`; below: Run of `pmachine`, and parts of a memory.
use Rattle.std.specs.Prelude.{◌≡◌, List, ℕ, ◌-◌, ◌≤◌, length}
use Rattle.basis.specs.Part.{part, splice}
use Rattle.pmachine.specs.State.{Registers, Kind as Kinds, ready, finished, faulted}
use Rattle.pmachine.specs.Step.{Outcome}
use Rattle.pmachine.specs.Run.{settled}
use Rattle.pmachine.specs.Sound.{Loaded, Ranged}
use Rattle.plan.specs.declared.Facts.{Facts}
use Rattle.plan.specs.declared.Regs.{Regs}
use Rattle.plan.specs.Answer.{regs_of}
use Rattle.plan.specs.Told.{Told}
use Rattle.steps.specs.declared.Stepped.{Stepped}
use Rattle.steps.specs.declared.Stepped.TheVariants.{Went, Stuck, Ended}

-- The shared words are the first j of m words, and the region from `at` to `end` lies above them: what soundness gives of places.
pub record Placed (m at end j : ℕ) : Type 0 where
  pub below : j ≤ at
  pub order : at ≤ end
  pub inside : end ≤ m
  pub shared : j ≤ 32768
  pub small : end - at ≤ 32768

-- all that a step stands on, of a memory that holds the shared words and the region
pub record Steady (s : List ℕ) (f : Facts) (m : List ℕ) (at end j : ℕ) (q : Regs) : Type 0 where
  pub placed : Placed (length m) at end j
  pub loaded : Loaded s
  pub told : Told s f
  pub ranged : Ranged s (end - at) (regs_of q)

-- the registers that a step's answer tells, and the kind
abbrev pub went_to : Registers → Stepped → Registers
went_to r (Went q) = regs_of q
went_to r (Stuck n place) = r
went_to r Ended = r

abbrev pub came_to : Stepped → Kinds
came_to (Went q) = ready
came_to (Stuck n place) = faulted n place
came_to Ended = finished

-- One step from r, on a segment's bytes, with the outcome o: registers and kind are the definition's, a fault's place too; the region is the
-- definition's, and no other word changes.
pub record Stood (s : List ℕ) (r : Registers) (o : Outcome) (at end : ℕ) (m : List ℕ) (q : Stepped) (m' : List ℕ) : Type 0 where
  pub registers : went_to r q ≡ (settled s (part at end m) r o).registers
  pub kind : came_to q ≡ (settled s (part at end m) r o).kind
  pub memory : m' ≡ splice at end (settled s (part at end m) r o).words m
