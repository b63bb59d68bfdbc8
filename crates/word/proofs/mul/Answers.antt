-- `word::mul` meets its contract. Assumes nothing.
use Rattle.std.proofs.Common.{◌≡◌, ℕ, ◌*◌, ◌%◌, ap, ◌∙◌, arith, rules}
use Rattle.basis.proofs.Integer.{mul_is, digit}
use Rattle.word.proofs.mul.Goals as goal

pub loop-left-preserved : goal.loop-left-preserved
loop-left-preserved c =
    let l = c.loop-left in
    let p = c.times-sum in
    let moved : l.factor % 256 * 256 ≡ l.factor * 256 % 65536 = omega arith in
    (search rules, digit 65536 256 l.sum l.factor l.left p.result (l.factor % 256 * 256) p.ensures moved ∙ l.invariant.1)

pub returns : goal.returns
returns c =
    let l = c.loop-left in
    let a = c.args in
    omega (arith, l.invariant.1, mul_is a.x a.y (search rules) (search rules), ap (λ (t : ℕ). l.factor * t) c.loop-left-test.false)
