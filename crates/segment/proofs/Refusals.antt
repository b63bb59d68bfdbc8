-- What a step that may be refused says of the checks before it: passed by those that it got past, and refused by the one that it didn't.
-- Above: the crates that refuse, whose answers go by `?`. Below: the list of checks, in `basis`. Assumes nothing.
use Prim.Native.Nat.{ℕ}
use mathlib.Core.Path.{◌≡◌, refl, sym, ap, ◌∙◌}
use mathlib.Core.Bool.{Bool, true, false, cond}
use Rattle.std.proofs.Common.{Result, Err}
use Rattle.std.specs.Result.{IsErrAnd}
use Rattle.std.proofs.lemmas.Result.{err_from_is_err_and}
use Rattle.basis.specs.Checks.{passed, refused}
use Rattle.basis.proofs.Checks.{never}
use Rattle.segment.specs.declared.refusal.Refusal.{Refusal}

-- the exit of a `?` returns the refusal that it got
pub exits : {T : Type 0} {d : Refusal} (r : Result T Refusal) → IsErrAnd r (λ e. e ≡ d) → r ≡ Err d
exits r h = let p = err_from_is_err_and r h in p.1 ∙ ap Err p.2

-- a check that was got past holds, and one that refused doesn't
pub went_on : (ok : Bool) (n p : ℕ) → passed ≡ cond ok passed (refused n p) → ok ≡ true
went_on true n p e = refl
went_on false n p e = absurd (never refl e)

pub stopped : (ok : Bool) (n p : ℕ) {m q : ℕ} → refused m q ≡ cond ok passed (refused n p) → ok ≡ false
stopped true n p e = absurd (never refl (sym e))
stopped false n p e = refl
