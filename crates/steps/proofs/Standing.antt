-- What a step writes is what was judged: from the answer of the judgement to what the step leaves, and the room that each write needs.
-- Above: the proofs of `judge_in` and `step`; below: Judged of `pmachine`, parts of a memory.
use mathlib.Core.Path.{◌≡◌, ap, sym, ◌∙◌, subst}
use mathlib.Core.List.{List}
use Prim.Native.Nat.{ℕ, ◌+◌, ◌-◌, ◌≤◌}
use native.Mathlib.Omega.{arith}
use lib.ListN.{length, take}
use lib.Seq.{length-take-le}
use Rattle.basis.specs.Part.{part, splice}
use Rattle.basis.proofs.Part.{length_part, splice_same}
use Rattle.pmachine.specs.State.{Registers}
use Rattle.pmachine.specs.Step.{Outcome, goes, floor, moved, judge}
use Rattle.pmachine.specs.Sound.{Ranged}
use Rattle.pmachine.proofs.Judged.{judge_goes}
use Rattle.plan.specs.declared.Facts.{Facts}
use Rattle.plan.specs.declared.Regs.{Regs}
use Rattle.plan.specs.declared.Planned.{Planned}
use Rattle.plan.specs.Answer.{regs_of, outcome_of}
use Rattle.plan.specs.Told.{Ready}
use Rattle.steps.specs.declared.Stepped.{Stepped}
use Rattle.steps.specs.Memory.{Steady, Stood}

-- ---- registers by methods one after the other

pub moving : {q a b : Registers} {n : ℕ} → q ≡ moved a a.sp n → a ≡ b → q ≡ moved b b.sp n
moving {n = n} e f = e ∙ ap (λ (x : Registers). moved x x.sp n) f

pub entering : {q a b : Registers} {m k : ℕ} → q ≡ record { sp = a.sp; m = m; counter = a.counter; routine = k; lowest = a.lowest } → a ≡ b
    → q ≡ record { sp = b.sp; m = m; counter = b.counter; routine = k; lowest = b.lowest }
entering {m = m} {k = k} e f = e ∙ ap (λ (x : Registers). record { sp = x.sp; m = m; counter = x.counter; routine = k; lowest = x.lowest }) f

-- ---- what was judged

module _ {s m : List ℕ} {f : Facts} {at end j : ℕ} {r : Regs} (steady : Steady s f m at end j r) where
  wide : length (part at end m) ≡ end - at
  wide = length_part at end m steady.placed.order steady.placed.inside

  pub few : length (take j m) ≡ j
  few = length-take-le j m (omega (arith, steady.placed.below, steady.placed.order, steady.placed.inside))

  pub same : m ≡ splice at end (part at end m) m
  same = sym (splice_same at end m steady.placed.order steady.placed.inside)

  ranged : Ranged s (length (part at end m)) (regs_of r)
  ranged = subst (λ (n : ℕ). Ranged s n (regs_of r)) (sym wide) steady.ranged

  pub ready : Ready s f (take j m) (part at end m) r
  ready =
      record {
        loaded = steady.loaded;
        told = steady.told;
        ranged = ranged;
        small = omega (arith, wide, steady.placed.small);
        few = omega (arith, few, steady.placed.shared);
      }

  -- the outcome that was judged
  abbrev o : Outcome
  o = judge s (take j m) (part at end m) (regs_of r)

  -- of the answer that the judgement gave
  module _ {answer p : Planned} (judged : outcome_of s r answer ≡ o) (e : answer ≡ p) where
    told : outcome_of s r p ≡ o
    told = sym (ap (outcome_of s r) e) ∙ judged

    pub stands : {q : Stepped} {m' : List ℕ} → Stood s (regs_of r) (outcome_of s r p) at end m q m' → Stood s (regs_of r) o at end m q m'
    stands {q} {m'} z = subst (λ (x : Outcome). Stood s (regs_of r) x at end m q m') told z

    pub room : {q : Registers} {x : ℕ} {ws : List ℕ} → outcome_of s r p ≡ goes q x ws → x + length ws ≤ end - at
    room g = let z = judge_goes s (take j m) (part at end m) (regs_of r) steady.loaded ranged (sym told ∙ g) in omega (arith, z.fits, wide)

    pub dry : {q : Registers} {x : ℕ} {ws : List ℕ} → outcome_of s r p ≡ goes q x ws → floor s ≤ q.sp
    dry g = (judge_goes s (take j m) (part at end m) (regs_of r) steady.loaded ranged (sym told ∙ g)).registers.sp_low
