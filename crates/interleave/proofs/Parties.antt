-- What is one party's, of a list of requests: laws of `mine`, `of` and `one_by_one`.
-- Above: proofs/Interleave. Below: the definitions in specs/Interleave.
use mathlib.Core.Path.{◌≡◌, refl, sym, ap, ◌∙◌}
use mathlib.Core.List.{List, [], ◌∷◌, ◌++◌, append-nil}
use mathlib.Core.Bool.{Bool, true, false}
use Prim.Native.Nat.{ℕ, zero, suc, ◌≤◌, ◌<◌}
use native.Mathlib.Omega.{arith}
use native.Mathlib.Decide.{ℕ_discrete}
use lib.Dec.{eqb}
use borrow.Author.Tests.{eq-eqb, ne_eqb}
use Rattle.interleave.specs.Interleave.{By, keep, mine, of, one_by_one, Below}

module _ {Q : Type 0} where
  keep-++ : (b : Bool) (q : Q) (l m : List Q) → keep b q (l ++ m) ≡ keep b q l ++ m
  keep-++ true q l m = refl
  keep-++ false q l m = refl

  mine-++ : (i : ℕ) (ts us : List (By Q)) → mine i (ts ++ us) ≡ mine i ts ++ mine i us
  mine-++ i [] us = refl
  mine-++ i (t ∷ ts) us = rw (mine-++ i ts us) (keep-++ (eqb i t.who) t.what (mine i ts) (mine i us))

  mine_of : (i : ℕ) (qs : List Q) → mine i (of i qs) ≡ qs
  mine_of i [] = refl
  mine_of i (q ∷ qs) = rw (eq-eqb i i refl) (ap (λ l. q ∷ l) (mine_of i qs))

  mine_of_other : (i j : ℕ) (qs : List Q) → (i ≡ j → ⊥) → mine i (of j qs) ≡ []
  mine_of_other i j [] d = refl
  mine_of_other i j (q ∷ qs) d = rw (ne_eqb i j d) (mine_of_other i j qs d)

  mine_past : (i n : ℕ) (ts : List (By Q)) → n ≤ i → mine i (one_by_one n ts) ≡ []
  mine_past i zero ts h = refl
  mine_past i (suc n) ts h =
      rw (mine-++ i (one_by_one n ts) (of n (mine n ts)), mine_past i n ts (omega arith)) (mine_of_other i n (mine n ts) (omega arith))

  mine_last : (i n : ℕ) (ts : List (By Q)) → i < suc n → Dec (i ≡ n) → (i < n → mine i (one_by_one n ts) ≡ mine i ts) → mine i (one_by_one (suc n) ts) ≡ mine i ts
  mine_last i n ts h (yes e) r =
      rw (mine-++ i (one_by_one n ts) (of n (mine n ts)), ← e, mine_past i i ts (omega arith)) (mine_of i (mine i ts))
  mine_last i n ts h (no d) r =
      rw (mine-++ i (one_by_one n ts) (of n (mine n ts)), r (omega arith), mine_of_other i n (mine n ts) d) (append-nil (mine i ts))

  mine_one_by_one : (i n : ℕ) (ts : List (By Q)) → i < n → mine i (one_by_one n ts) ≡ mine i ts
  mine_one_by_one i zero ts h = absurd (omega arith)
  mine_one_by_one i (suc n) ts h = mine_last i n ts h (ℕ_discrete i n) (λ l. mine_one_by_one i n ts l)

  mine_none : (i n : ℕ) (ts : List (By Q)) → Below n ts → n ≤ i → mine i ts ≡ []
  mine_none i n [] b h = refl
  mine_none i n (t ∷ ts) b h = rw (ne_eqb i t.who (omega (arith, b.0))) (mine_none i n ts b.1 h)

  -- one after another, each party asks what it asked
  pub mine_order : (n : ℕ) (ts : List (By Q)) → Below n ts → (i : ℕ) → Dec (i < n) → mine i ts ≡ mine i (one_by_one n ts)
  mine_order n ts b i (yes h) = sym (mine_one_by_one i n ts h)
  mine_order n ts b i (no h) = mine_none i n ts b (omega arith) ∙ sym (mine_past i n ts (omega arith))
