-- The theorems on rulings, of any list of checks: the first that fails, acceptance, checks appended; and the laws by which they are used.
-- Above: the verdict on a segment, and every entry of the bench. Below: specs/Checks.
use Prim.Native.Nat.{ℕ}
use native.Mathlib.Omega.{arith}
use mathlib.Core.Path.{◌≡◌, refl, sym, ap, ◌∙◌}
use mathlib.Core.List.{List, [], ◌∷◌, ◌++◌}
use mathlib.Core.Bool.{Bool, true, false, cond, false≢true}
use Rattle.basis.specs.Checks.{Check, check, Ruling, passed, refused, is_passed, ruling, passes, followed_by, FirstFailing, RefusesExactly, AcceptsExactly, Appends}

-- no ruling passes and refuses
pub never : {r : Ruling} {n p : ℕ} → r ≡ passed → r ≡ refused n p → ⊥
never h r = let z : ◌≡◌ {A = ℕ} 0 1 = cc in omega arith

pub ruling_append : (cs ds : List Check) → Appends cs ds
unfolding ruling followed_by
ruling_append [] ds = refl
ruling_append (check n p true ∷ cs) ds = ruling_append cs ds
ruling_append (check n p false ∷ cs) ds = refl

pub all_pass : (cs : List Check) → ruling cs ≡ passed → passes cs ≡ true
unfolding ruling passes
all_pass [] h = refl
all_pass (check n p true ∷ cs) h = all_pass cs h
all_pass (check n p false ∷ cs) h = absurd (never h refl)

pub pass_all : (cs : List Check) → passes cs ≡ true → ruling cs ≡ passed
unfolding ruling passes
pass_all [] h = refl
pass_all (check n p true ∷ cs) h = pass_all cs h
pass_all (check n p false ∷ cs) h = absurd (false≢true h)

pub accepts_exactly : (cs : List Check) → AcceptsExactly cs
accepts_exactly cs = record { all_pass = all_pass cs; accepts = pass_all cs }

-- the first check that fails
module _ (n p : ℕ) where
  passed_more : (m q : ℕ) (cs : List Check) → FirstFailing cs n p → FirstFailing (check m q true ∷ cs) n p
  unfolding passes
  passed_more m q cs f = record {
    before = check m q true ∷ f.before;
    after = f.after;
    splits = ap (λ (l : List Check). check m q true ∷ l) f.splits;
    passed_before = f.passed_before;
  }

  pub first_failing : (cs : List Check) → ruling cs ≡ refused n p → FirstFailing cs n p
  unfolding ruling passes
  first_failing [] h = absurd (never refl h)
  first_failing (check m q true ∷ cs) h = passed_more m q cs (first_failing cs h)
  first_failing (check m q false ∷ cs) h =
      let a : m ≡ n = cc in
      let b : q ≡ p = cc in
      record { before = []; after = cs; splits = rw (a, b) refl; passed_before = refl }

  after_passed : (cs ds : List Check) → passes cs ≡ true → ruling (cs ++ (check n p false ∷ ds)) ≡ refused n p
  unfolding followed_by ruling
  after_passed cs ds h = ruling_append cs (check n p false ∷ ds) ∙ rw (pass_all cs h) refl

  pub failing_first : (cs : List Check) → FirstFailing cs n p → ruling cs ≡ refused n p
  failing_first cs f = ap ruling f.splits ∙ after_passed f.before f.after f.passed_before

pub refuses_exactly : (cs : List Check) (n p : ℕ) → RefusesExactly cs n p
refuses_exactly cs n p = record { fails = first_failing n p cs; refuses = failing_first n p cs }

-- ---- one check, and two rulings, taken apart

pub needed : (ok : Bool) (n p : ℕ) (r : Ruling) → cond ok r (refused n p) ≡ passed → (ok ≡ true) × (r ≡ passed)
needed true n p r h = (refl, h)
needed false n p r h = absurd (never h refl)

pub followed : (r q : Ruling) → followed_by r q ≡ passed → (r ≡ passed) × (q ≡ passed)
unfolding followed_by
followed passed q h = (refl, h)
followed (refused n p) q h = absurd (never h refl)

pub followed_by_lem : (r q : Ruling) → r ≡ passed → followed_by r q ≡ q
unfolding followed_by
followed_by_lem r q h = rw h refl

-- where a check fails, the later ones are not looked at
pub stops : (cs : List Check) (q : Ruling) → passes cs ≡ false → followed_by (ruling cs) q ≡ ruling cs
unfolding ruling passes followed_by
stops [] q h = absurd (false≢true (sym h))
stops (check n p true ∷ cs) q h = stops cs q h
stops (check n p false ∷ cs) q h = refl

-- ---- a proof for each check, as .0, .1 .0 and so on

abbrev pub Passing : List Check → Type 0
Passing [] = Unit {0}
Passing (check n p ok ∷ cs) = (ok ≡ true) × Passing cs

pub all_passed : (cs : List Check) → Passing cs → ruling cs ≡ passed
unfolding ruling
all_passed [] h = refl
all_passed (check n p ok ∷ cs) h = rw h.0 (all_passed cs h.1)

pub passing : (cs : List Check) → ruling cs ≡ passed → Passing cs
unfolding ruling
passing [] h = tt
passing (check n p true ∷ cs) h = (refl, passing cs h)
passing (check n p false ∷ cs) h = absurd (never h refl)

-- checks that pass are as if they were not there
pub passed_then : (cs ds : List Check) → Passing cs → ruling (cs ++ ds) ≡ ruling ds
unfolding ruling
passed_then [] ds h = refl
passed_then (check n p ok ∷ cs) ds h = rw h.0 (passed_then cs ds h.1)

pub stopped_at : (cs : List Check) (n p : ℕ) (ok : Bool) (ds : List Check) → Passing cs → ok ≡ false → ruling (cs ++ (check n p ok ∷ ds)) ≡ refused n p
unfolding ruling
stopped_at [] n p ok ds h e = rw e
stopped_at (check m q b ∷ cs) n p ok ds h e = rw h.0 (stopped_at cs n p ok ds h.1 e)

-- what holds of every refusal, and of the end where all pass
pub by_ruling : (P : Ruling → Type 0) (cs : List Check) → ((n p : ℕ) → P (refused n p)) → (Passing cs → P passed) → P (ruling cs)
unfolding ruling
by_ruling P [] r f = f tt
by_ruling P (check n p true ∷ cs) r f = by_ruling P cs r (λ h. f (refl, h))
by_ruling P (check n p false ∷ cs) r f = r n p

-- the test and the ruling
pub passed_is : (r : Ruling) → is_passed r ≡ true → r ≡ passed
passed_is passed h = refl
passed_is (refused n p) h = absurd (false≢true h)

pub is_passed_lem : (r : Ruling) → r ≡ passed → is_passed r ≡ true
is_passed_lem r h = rw h
