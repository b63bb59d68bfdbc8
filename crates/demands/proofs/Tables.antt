-- From W1 to an index in range are so many words as the one is above the other, as integers: the law `arm_offset_lem` of specs/Demands.
-- Above: Demands; below: Pool of `pmachine`, and the integers of `basis`.
use Prim.Native.Nat.{ℕ, suc, ◌+◌, ◌-◌, ◌%◌, ◌≤◌, ◌<◌}
use native.Mathlib.Omega.{arith}
use native.Mathlib.Decide.{dec_lt}
use mathlib.Core.Path.{◌≡◌, refl, sym, ap, ◌∙◌}
use mathlib.Core.List.{List}
use mathlib.Core.Bool.{Bool, true, false}
use lib.Dec.{leb, eqb}
use lib.IntN.{pos, negsuc, ◌+ℤ◌}
use borrow.Author.Tests.{leb-true, eqb-true, le-ltb, lt-ltb}
use Rattle.basis.specs.Integer.{integer_of, truth, sub_of, leq_of}
use Rattle.basis.proofs.Bools.{both_true}
use Rattle.basis.proofs.Integer.{low, high, sub_is, leq_is}
use Rattle.pmachine.specs.Pool.{lowest, highest, in_table, arm_offset}
use Rattle.pmachine.proofs.Rows.{decided}

true_one : (b : Bool) → truth b ≡ 1 → b ≡ true
unfolding truth
true_one true e = refl
true_one false e = absurd (omega (arith, e))

module _ (x y k : ℕ) (fx : x < 65536) (fy : y < 65536) (is : k ≡ sub_of y x) (from : leq_of x y ≡ 1) where
  ordered : (x + 32768) % 65536 ≤ (y + 32768) % 65536
  ordered = leb-true _ _ (true_one (leb ((x + 32768) % 65536) ((y + 32768) % 65536)) (sym (leq_is x y fx fy) ∙ from))

  gap : k ≡ (y + (65536 - x)) % 65536
  gap = is ∙ sub_is y x fy fx

  distance : integer_of 16 x +ℤ pos k ≡ integer_of 16 y
  distance =
      decided (dec_lt x 32768)
      (λ lx. decided (dec_lt y 32768)
      (λ ly. rw (low 16 x fx lx, low 16 y fy ly) (let e : x + k ≡ y = omega (arith, ordered, gap) in ap pos e))
      (λ ly. absurd (omega (arith, ordered, ly))))
      (λ lx. decided (dec_lt y 32768)
      (λ ly.
      let after : 65536 - suc x + 1 ≤ k = omega (arith, ordered, gap) in
      let e : k - suc (65536 - suc x) ≡ y = omega (arith, ordered, gap) in
      rw (high 16 x fx (omega arith), low 16 y fy ly, le-ltb k (suc (65536 - suc x)) (omega arith)) (ap pos e))
      (λ ly.
      let before : k < suc (65536 - suc x) = omega (arith, ordered, gap) in
      let e : suc (65536 - suc x) - suc k ≡ 65536 - suc y = omega (arith, ordered, gap) in
      rw (high 16 x fx (omega arith), high 16 y fy (omega arith), lt-ltb k (suc (65536 - suc x)) before) (ap negsuc e)))

pub arm_offset_lem : (s : List ℕ) (b i k : ℕ) → i < 65536 → lowest s b < 65536 → in_table s b i ≡ true → arm_offset s b i ≡ b + 2 + k
    → integer_of 16 (lowest s b) +ℤ pos k ≡ integer_of 16 i
unfolding in_table arm_offset
arm_offset_lem s b i k fi fl is at =
    let two = both_true (eqb (leq_of (lowest s b) i) 1) (eqb (leq_of i (highest s b)) 1) is in
    let n : k ≡ sub_of i (lowest s b) = omega (arith, at) in
    distance (lowest s b) i k fl fi n (eqb-true _ _ two.0)
