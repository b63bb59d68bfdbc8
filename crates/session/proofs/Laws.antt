-- What the functions of a session return, over plain variables.
-- Above: the proofs of the functions; below: Keeps, and the machine's contract of a turn.
use mathlib.Core.Path.{◌≡◌, sym, ap, ◌∙◌}
use mathlib.Core.List.{List}
use mathlib.Core.Bool.{true}
use Prim.Native.Nat.{ℕ, ◌+◌, ◌-◌, ◌≤◌}
use native.Mathlib.Omega.{arith}
use lib.ListN.{length, take}
use Rattle.basis.specs.Part.{part, splice}
use Rattle.basis.proofs.Part.{length_part, part_part, splice_part, take_part}
use Rattle.segment.specs.Judge.{judged}
use Rattle.basis.specs.Checks.{passed}
use Rattle.pmachine.specs.Sound.{Loaded, Ranged}
use Rattle.pmachine.proofs.Accepted.{loaded}
use Rattle.pmachine.proofs.Ranges.{ranged}
use Rattle.plan.specs.Answer.{regs_of}
use Rattle.machine.specs.declared.Cpu.{Cpu}
use Rattle.machine.specs.declared.Turned.{Turned}
use Rattle.steps.specs.Memory.{Placed}
use Rattle.machine.specs.Memory.{kind_of, TurnedTo}
use Rattle.session.specs.Session.{cpu_from, cpu_ok, run_of, count_of, RanTo}
use Rattle.session.proofs.Keeps.{kind_from_of}

-- what the machine asks, of a sound session, in the words from the window's first up to the region's end
pub asked : (code m : List ℕ) (f seen base e : ℕ) (c : Cpu) → judged code ≡ passed → cpu_ok code (e - base) c ≡ true
    → (e - base ≤ 32768) × (seen ≤ 32768) × (f + seen ≤ base) × (base ≤ e) × (e ≤ length m)
    → Placed (length (part (f) e m)) (base - f) (e - f) seen
    × (Loaded code × Ranged code (e - f - (base - f)) (regs_of c.regs))
unfolding cpu_ok
asked code m f seen base e c j h o =
    let size : e - f - (base - f) ≡ e - base = omega (arith, o.2, o.3) in
    let from : f ≤ e = omega (arith, o.2, o.3) in (
      record {
        below = omega (arith, o.2);
        order = omega (arith, o.3);
        inside = rw (length_part (f) e m from o.4) (omega arith);
        shared = o.1;
        small = rw size o.0;
      },
      (loaded code j, rw size (ranged code (e - base) (regs_of c.regs) (kind_of c.kind) h)),
    )

-- the code's registers and kind are the machine's, read back
back : (c : Cpu) → cpu_from (regs_of c.regs) (kind_of c.kind) ≡ c
back c = λ i. record { kind = kind_from_of c.kind i; regs = c.regs }

-- the machine's turn there is the turn in the whole memory
pub ran : (code m : List ℕ) (f seen base e k : ℕ) (c : Cpu) (r : Turned) (m' : List ℕ)
    → f + seen ≤ base → base ≤ e → e ≤ length m
    → TurnedTo code (part (f) e m) seen (base - f) (e - f) k (regs_of c.regs) (kind_of c.kind) r m'
    → RanTo code m f seen base e k c r (splice (f) e m' m)
unfolding run_of count_of
ran code m f seen base e k c r m' low order fits h =
    let o : f ≤ e = omega arith in
    let from : base - f ≤ e - f = omega arith in
    let to : f + (e - f) ≤ e = omega arith in
    let at : f + (base - f) ≡ base = omega arith in
    let end : f + (e - f) ≡ e = omega arith in
    let window : take seen (part f e m) ≡ part f (f + seen) m = take_part f e m seen (omega arith) in
    let region : part (base - f) (e - f) (part f e m) ≡ part base e m = rw (at, end) at (part_part f e m o fits (base - f) (e - f) from to) in
    record {
      cpu = rw (window, region) at (sym (back r.cpu) ∙ (λ i. cpu_from (h.registers i) (h.kind i)));
      done = rw (window, region) at h.done;
      mem = rw (window, region, at, end) at (ap (λ (x : List ℕ). splice f e x m) h.memory ∙ splice_part f e m o fits (base - f) (e - f) from to _);
    }
