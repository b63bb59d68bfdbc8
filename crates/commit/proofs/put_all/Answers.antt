-- `commit::put_all` meets its contract: with k words left, one turn writes one more. Assumes nothing.
use Prim.Native.Nat.{◌+◌, ◌-◌}
use native.Mathlib.Omega.{arith}
use mathlib.Core.Path.{◌≡◌, refl, ◌∙◌}
use Rattle.commit.proofs.Blocks.{none_pushed, one_pushed}
use Rattle.commit.proofs.put_all.Goals as goal

pub loop-left-init : goal.loop-left-init
loop-left-init c =
    let a = c.args in
    (omega arith, refl, none_pushed _ a.seg.now a.region.now a.first a.n a.top)

pub loop-left-preserved : goal.loop-left-preserved
loop-left-preserved c =
    let a = c.args in
    let l = c.loop-left in
    let t = c.put in (
      omega (arith, l.invariant.0),
      t.auto.region ∙ l.invariant.1,
      one_pushed _ a.seg.now a.region.now a.first a.n a.top l.left _ l.region _ c.loop-left-test.true
          l.invariant.0 c.requires.0 c.word_at-v.ensures l.invariant.2 t.ensures,
    )

pub returns : goal.returns
returns c =
    let a = c.args in
    let l = c.loop-left in
    let none : l.left ≡ 0 = omega (arith, c.loop-left-test.false) in
    let from : a.first + 0 ≡ a.first = omega arith in
    let all : a.n - 0 ≡ a.n = omega arith in
    rw (none, from, all) at l.invariant.2
