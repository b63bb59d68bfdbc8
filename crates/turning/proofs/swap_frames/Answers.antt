-- `turning::swap_frames` meets its contract. Assumes nothing.
use mathlib.Core.Path.{◌≡◌, refl, ◌∙◌, ap}
use Prim.Native.Nat.{◌+◌, ◌-◌}
use native.Mathlib.Omega.{arith}
use Rattle.segment.specs.declared.Routine.{Routine}
use Rattle.turning.proofs.Positions.{entry_fits, frames_start, frames_more, frames_same}
use Rattle.turning.proofs.swap_frames.Goals.{then-e-ne0, else-e-ne0}
use Rattle.turning.proofs.swap_frames.Goals as goal

pub loop-k-init : goal.loop-k-init
loop-k-init c = (omega arith, omega arith, refl, frames_start c.args.seg.now c.args.out.now)

pub swap_words-requires : goal.swap_words-requires
swap_words-requires c =
    let e = ap (λ (r : Routine). r.entry) c.routine_of-r.ensures in
    let f = entry_fits c.args.seg.now c.requires.0 c.requires.2 (omega arith) (omega arith) e (omega (arith, c.if-e-ne0.true)) in
    (omega arith, f, omega arith)

pub loop-k-preserved : goal.loop-k-preserved
loop-k-preserved c =
    let a = c.args in
    let l = c.loop-k in
    let e = ap (λ (r : Routine). r.entry) c.routine_of-r.ensures in
    let k : l.k + 1 - 1 ≡ l.k = omega arith in
    rw k
    (elim c.if-e-ne0.branch [
      | then-e-ne0 w ↦
          (omega arith, omega arith, rw w.out-is (w.swap_words.auto.out ∙ l.invariant.2), rw w.out-is (w.swap_words.ensures ∙ frames_more a.seg.now a.out.now l.k (omega arith) l.invariant.3 e (omega (arith, w.if-e-ne0.true))))
      | else-e-ne0 w ↦ (omega arith, omega arith, rw w.out-is l.invariant.2, rw w.out-is (frames_same a.seg.now a.out.now l.k (omega arith) l.invariant.3 e w.if-e-ne0.false))
    ])

pub returns-after-e-ne0 : goal.returns-after-e-ne0
returns-after-e-ne0 c =
    let a = c.args in
    let l = c.loop-k in
    let e = ap (λ (r : Routine). r.entry) c.routine_of-r.ensures in
    let all : l.k ≡ a.n = omega arith in
    rw (← c.requires.2, ← all)
    (elim c.if-e-ne0.branch [
      | then-e-ne0 w ↦ rw w.out-is (w.swap_words.ensures ∙ frames_more a.seg.now a.out.now l.k (omega arith) l.invariant.3 e (omega (arith, w.if-e-ne0.true)))
      | else-e-ne0 w ↦ rw w.out-is (frames_same a.seg.now a.out.now l.k (omega arith) l.invariant.3 e w.if-e-ne0.false)
    ])
