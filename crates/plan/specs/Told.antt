-- MIRROR OF THE CODE, for the proofs; nobody has to believe it. What the code's `Facts` say of a segment, and all that a step stands on.
-- Above: the contracts that read routines, and the judgement of a step; below: the header numbers of `segment`, and Sound of `pmachine`.
use Rattle.std.specs.Prelude.{◌≡◌, Bool, true, false, List, ℕ, ◌≤◌, length}
use Rattle.segment.specs.Head.{least, dict, count, pool, real_pool}
use Rattle.pmachine.specs.Step.{floor}
use Rattle.pmachine.specs.Sound.{Loaded, Ranged}
use Rattle.plan.specs.declared.Facts.{Facts}
use Rattle.plan.specs.declared.Regs.{Regs}
use Rattle.plan.specs.Answer.{regs_of}

-- least byte first is 0, most byte first 1
abbrev pub sex_of : Bool → ℕ
sex_of true = 0
sex_of false = 1

pub record Told (s : List ℕ) (f : Facts) : Type 0 where
  pub sexes : f.sex ≡ sex_of (least s)
  pub dicts : f.dict ≡ dict s
  pub counts : f.count ≡ count s
  pub pools : f.pool ≡ pool s
  pub reals : f.reals ≡ real_pool s
  pub floors : f.floor ≡ floor s

-- a loaded segment and what it says, and a session's shared words, words and registers
pub record Ready (s : List ℕ) (f : Facts) (shared w : List ℕ) (q : Regs) : Type 0 where
  pub loaded : Loaded s
  pub told : Told s f
  pub ranged : Ranged s (length w) (regs_of q)
  pub small : length w ≤ 32768
  pub few : length shared ≤ 32768
