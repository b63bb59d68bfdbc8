-- A list of checks and what it comes to: the one shape in which document 01's refusals are stated, with their order.
-- Above: the checks of a segment, of turning and of every entry of the bench. Below: nothing. The laws are in proofs/Checks.
use Rattle.std.specs.Prelude.{ℕ, ◌≡◌, List, [], ◌∷◌, ◌++◌, Bool, true, false, cond, ◌&&◌}

-- a line of the refusal table: the number and the place that its refusal returns, and whether what is asked passes it
pub data Check : Type 0 where
  check : ℕ → ℕ → Bool → Check

-- "A refusal returns its number and a place"
pub data Ruling : Type 0 where
  passed : Ruling
  refused : ℕ → ℕ → Ruling

abbrev pub is_passed : Ruling → Bool
is_passed passed = true
is_passed (refused number place) = false

-- the checks in their order: the first that fails is the refusal
unfoldable pub ruling : List Check → Ruling
ruling [] = passed
ruling (check number place ok ∷ later) = cond ok (ruling later) (refused number place)

-- every check passes
unfoldable pub passes : List Check → Bool
passes [] = true
passes (check number place ok ∷ later) = ok && passes later

-- the first ruling where it refuses, else the second
unfoldable pub followed_by : Ruling → Ruling → Ruling
followed_by passed later = later
followed_by (refused number place) later = refused number place

-- ---- what the theorems on rulings say, of any list of checks: "Given exactly when", and the order

-- the check with this number and place fails, and every check before it passes
pub record FirstFailing (cs : List Check) (number place : ℕ) : Type 0 where
  pub before : List Check
  pub after : List Check
  pub splits : cs ≡ before ++ (check number place false ∷ after)
  pub passed_before : passes before ≡ true

-- a refusal is given exactly when it is that of the first check that fails
pub record RefusesExactly (cs : List Check) (number place : ℕ) : Type 0 where
  pub fails : ruling cs ≡ refused number place → FirstFailing cs number place
  pub refuses : FirstFailing cs number place → ruling cs ≡ refused number place

-- nothing is refused exactly when every check passes
pub record AcceptsExactly (cs : List Check) : Type 0 where
  pub all_pass : ruling cs ≡ passed → passes cs ≡ true
  pub accepts : passes cs ≡ true → ruling cs ≡ passed

-- checks that come later are looked at only where the earlier ones pass
abbrev pub Appends : List Check → List Check → Type 0
Appends cs ds = ruling (cs ++ ds) ≡ followed_by (ruling cs) (ruling ds)
