-- Tests that hold, and their parts: the laws of specs/Bools, which the other crates cite.
-- Assumes nothing.
use mathlib.Core.Path.{◌≡◌, refl, sym, ◌∙◌}
use mathlib.Core.List.{List, [], ◌∷◌}
use mathlib.Core.Bool.{Bool, true, false, cond, ◌&&◌, ◌||◌, false≢true}
use Prim.Native.Nat.{ℕ, ◌+◌, ◌-◌, ◌≤◌, ◌<◌}
use native.Mathlib.Omega.{arith}
use native.Mathlib.Decide.{dec_le}
use lib.Dec.{leb, ltb}
use Rattle.basis.specs.Bools.{every, Holds, inside}
use borrow.Author.Tests.{leb-true, ltb-true, le-leb, lt-leb, lt-ltb}

pub and_fst : (a b : Bool) → (a && b) ≡ true → a ≡ true
and_fst true b h = refl
and_fst false b h = h

pub and_snd : (a b : Bool) → (a && b) ≡ true → b ≡ true
and_snd true b h = h
and_snd false b h = absurd (false≢true h)

pub both_true : (a b : Bool) → (a && b) ≡ true → (a ≡ true) × (b ≡ true)
both_true a b h = (and_fst a b h, and_snd a b h)

pub and_both : (a b : Bool) → a ≡ true → b ≡ true → (a && b) ≡ true
and_both a b p q = rw (p, q)

-- each of them, as .0, .1 .0, .1 .1 .0 and so on
pub every_holds : (bs : List Bool) → every bs ≡ true → Holds bs
unfolding every
every_holds [] h = tt
every_holds (b ∷ []) h = (h, tt)
every_holds (b ∷ (c ∷ bs)) h = (and_fst b (every (c ∷ bs)) h, every_holds (c ∷ bs) (and_snd b (every (c ∷ bs)) h))

pub holds_every : (bs : List Bool) → Holds bs → every bs ≡ true
unfolding every
holds_every [] h = refl
holds_every (b ∷ []) h = h.0
holds_every (b ∷ (c ∷ bs)) h = and_both b (every (c ∷ bs)) h.0 (holds_every (c ∷ bs) h.1)

-- what holds of both cases, each where its test says so, holds of the choice
pub cond_holds : {A : Type 0} {x y : A} (P : A → Type 0) (b : Bool) → (b ≡ true → P x) → (b ≡ false → P y) → P (cond b x y)
cond_holds P true f g = f refl
cond_holds P false f g = g refl

pub inside_true : (lo end x : ℕ) → inside lo end x ≡ true → (lo ≤ x) × (x < end)
unfolding inside
inside_true lo end x h =
    (leb-true lo x (and_fst (leb lo x) (ltb x end) h), ltb-true x end (and_snd (leb lo x) (ltb x end) h))

pub inside_holds : (lo end x : ℕ) → lo ≤ x → x < end → inside lo end x ≡ true
unfolding inside
inside_holds lo end x l h = and_both (leb lo x) (ltb x end) (le-leb lo x l) (lt-ltb x end h)

pub or_cases : {P : Type 0} (a b : Bool) → (a || b) ≡ true → (a ≡ true → P) → (b ≡ true → P) → P
or_cases true b h f g = f refl
or_cases false b h f g = g h

pub or_none : (a b : Bool) → (a || b) ≡ false → (a ≡ false) × (b ≡ false)
or_none true b h = absurd (false≢true (sym h))
or_none false b h = (refl, h)

leb_iff' : (a b c d : ℕ) → (a ≤ b → c ≤ d) → (b < a → d < c) → Dec (a ≤ b) → leb a b ≡ leb c d
leb_iff' a b c d f g (yes h) = le-leb a b h ∙ sym (le-leb c d (f h))
leb_iff' a b c d f g (no h) = lt-leb a b (omega arith) ∙ sym (lt-leb c d (g (omega arith)))

-- two tests that hold together are equal
pub leb_iff : (a b c d : ℕ) → (a ≤ b → c ≤ d) → (b < a → d < c) → leb a b ≡ leb c d
leb_iff a b c d f g = leb_iff' a b c d f g (dec_le a b)

-- whether len words from base end by top, with no sum that could wrap
pub not_by : (base len top : ℕ) → top < base → false ≡ leb (base + len) top
not_by base len top h = sym (lt-leb (base + len) top (omega arith))

pub by : (base len top : ℕ) → base ≤ top → leb len (top - base) ≡ leb (base + len) top
by base len top h = leb_iff len (top - base) (base + len) top (omega arith) (omega arith)
