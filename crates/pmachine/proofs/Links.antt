-- Static links: the walk as the code takes it, one link and then the rest, and where it arrives.
-- Above: the proofs of the code's walk and of what uses a record; below: Step, Sound.
use Prim.Native.Nat.{ℕ, zero, suc, ◌+◌, ◌-◌, ◌≤◌}
use native.Mathlib.Omega.{arith}
use mathlib.Core.Path.{◌≡◌, refl}
use mathlib.Core.List.{List}
use mathlib.Core.Bool.{cond}
use lib.Dec.{leb}
use lib.ListN.{length, get_or}
use borrow.Author.Tests.{leb-true}
use Rattle.basis.proofs.Bools.{both_true, cond_holds}
use Rattle.pmachine.specs.Step.{pointer, Link, reaches, broken, follow}

pub follow_none : (w : List ℕ) (m d : ℕ) → d ≡ 0 → follow w m d ≡ reaches m
unfolding follow
follow_none w m zero e = refl
follow_none w m (suc d) e = absurd (omega arith)

pub follow_more : (w : List ℕ) (m d : ℕ) → (d ≡ 0 → ⊥) → follow w m d ≡ cond (pointer w (get_or w m 0)) (follow w (get_or w m 0) (d - 1)) broken
unfolding follow
follow_more w m zero h = absurd (h refl)
follow_more w m (suc d) h = let e : suc d - 1 ≡ d = omega arith in rw e

-- a walk from a record pointer in 1..L-5 arrives at one, or is broken
abbrev pub Arrives : List ℕ → Link → Type 0
Arrives w (reaches m) = (1 ≤ m) × (m + 5 ≤ length w)
Arrives w broken = Unit {0}

pub follow_arrives : (w : List ℕ) (d m : ℕ) → 1 ≤ m → m + 5 ≤ length w → Arrives w (follow w m d)
unfolding follow
follow_arrives w zero m a b = (a, b)
follow_arrives w (suc d) m a b =
    cond_holds (Arrives w) (pointer w (get_or w m 0))
    (λ e. let h = both_true (leb 1 (get_or w m 0)) (leb (get_or w m 0 + 5) (length w)) e in
    follow_arrives w d (get_or w m 0) (leb-true _ _ h.0) (leb-true _ _ h.1))
    (λ e. tt)
