-- `archive_records::falls_at` meets its contract: the loop has come to record r, and no record before it falls.
use mathlib.Core.Path.{◌≡◌, refl, ◌∙◌}
use native.Mathlib.Omega.{arith}
use Rattle.archive_records.specs.Records.{never_falls}
use Rattle.archive_records.proofs.Order.{goes, falls, ends}
use Rattle.archive_records.proofs.falls_at.Goals as goal

pub loop-r-init : goal.loop-r-init
unfolding never_falls
loop-r-init c = (omega arith, (omega arith, refl))

pub returns-then-farm_at : goal.returns-then-farm_at
returns-then-farm_at c =
    let inv = c.loop-r.invariant in
    falls _ _ _ inv.0 inv.1.1 (omega (arith, c.loop-r-test.true))
    (rw (c.farm_at.ensures, c.farm_at-in-loop-r.ensures) at c.if-farm_at.true)

pub loop-r-preserved : goal.loop-r-preserved
loop-r-preserved c =
    let inv = c.loop-r.invariant in (
      omega arith,
      (
        omega (arith, c.loop-r-test.true),
        goes _ 0 _ inv.0 inv.1.1 (rw (c.farm_at.ensures, c.farm_at-in-loop-r.ensures) at c.if-farm_at.false),
      ),
    )

pub returns : goal.returns
returns c =
    let inv = c.loop-r.invariant in
    let e : c.max.result ≡ c.loop-r.r = omega arith in
    e ∙ ends _ _ _ inv.0 inv.1.1 (omega arith)
