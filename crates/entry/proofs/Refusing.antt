-- What an entry answers by its list of checks: the ruling of a list, check by check; and the answer that a ruling comes to.
-- Above: every entry's proofs, promises. Below: `refusing` of specs/Answer, and the laws of rulings in `basis`.
use mathlib.Core.Path.{◌≡◌, refl, ◌∙◌}
use mathlib.Core.List.{List, [], ◌∷◌, ◌++◌}
use mathlib.Core.Bool.{Bool, true, false}
use Prim.Native.Nat.{ℕ}
use Rattle.basis.specs.Checks.{Check, check, Ruling, passed, refused, ruling, followed_by}
use Rattle.basis.proofs.Checks.{Passing, all_passed, stopped_at, by_ruling, ruling_append}
use Rattle.sound.specs.Bench.{World}
use Rattle.entry.specs.Answer.{Result, refused_at, ruled, refusing}

-- ---- the ruling of a list, from its first checks on

pub none_left : ruling [] ≡ passed
unfolding ruling
none_left = refl

module _ (cs ds : List Check) where
  pub refused_first : (n p : ℕ) → ruling cs ≡ refused n p → ruling (cs ++ ds) ≡ refused n p
  unfolding followed_by
  refused_first n p h = ruling_append cs ds ∙ rw h

  pub passed_first : (r : Ruling) → ruling cs ≡ passed → ruling ds ≡ r → ruling (cs ++ ds) ≡ r
  unfolding followed_by
  passed_first r h e = ruling_append cs ds ∙ rw h e

module _ (n p : ℕ) (ok : Bool) (ds : List Check) where
  pub fails : ok ≡ false → ruling (check n p ok ∷ ds) ≡ refused n p
  unfolding ruling
  fails h = rw h

  pub holds : (r : Ruling) → ok ≡ true → ruling ds ≡ r → ruling (check n p ok ∷ ds) ≡ r
  unfolding ruling
  holds r h e = rw h e

-- ---- the answer

module _ (cs : List Check) (w : World) (x : Result) where
  pub refuses : (n p : ℕ) → ruling cs ≡ refused n p → {y : Result} → y ≡ refused_at n p w → y ≡ refusing cs w x
  unfolding refusing
  refuses n p h e = rw h e

  pub accepts : ruling cs ≡ passed → {y : Result} → y ≡ x → y ≡ refusing cs w x
  unfolding refusing
  accepts h e = rw h e

  pub passes : Passing cs → refusing cs w x ≡ x
  unfolding refusing
  passes h = rw (all_passed cs h)

-- what holds of every refusal, and of the end where all pass
pub by_checks : (P : Result → Type 0) (cs : List Check) (w : World) (x : Result) → ((n p : ℕ) → P (refused_at n p w)) → (Passing cs → P x) → P (refusing cs w x)
unfolding refusing
by_checks P cs w x r f = by_ruling (λ (q : Ruling). P (ruled q w x)) cs r f

pub stops : (cs : List Check) (n : ℕ) (ok : Bool) (ds : List Check) (w : World) (x : Result) → Passing cs → ok ≡ false → refusing (cs ++ (check n 0 ok ∷ ds)) w x ≡ refused_at n 0 w
unfolding refusing
stops cs n ok ds w x h e = rw (stopped_at cs n 0 ok ds h e)
