-- Lists whose every element passes, and lists in which all are apart: one element looked at, and one replaced.
-- Above: Facts, the entries, isolation. Below: `all` and `all_apart` of specs/Sound.
use mathlib.Core.Path.{◌≡◌, refl, sym, ap, ◌∙◌}
use mathlib.Core.List.{List, [], ◌∷◌, map}
use mathlib.Core.Bool.{Bool, true, false, ◌&&◌, false≢true}
use Prim.Native.Nat.{ℕ, zero, suc, ◌-◌, ◌≤◌, ◌<◌}
use native.Mathlib.Omega.{arith}
use lib.ListN.{length, length-map, get_or, set, take, drop, get_or-eq_default}
use Rattle.std.proofs.lemmas.List.{take_all}
use Rattle.basis.proofs.Bools.{and_fst, and_snd, and_both}
pub use Rattle.pmachine.proofs.Rows.{either_way, decided}
use Rattle.sound.specs.Below.{Cpu}
use Rattle.sound.specs.Bench.{at_cpu, at_window}
use Rattle.sound.specs.Sound.{all, apart, all_apart}
use Rattle.sound.specs.declared.Session.{Session}
use Rattle.sound.specs.declared.Window.{Window}

module _ {A : Type 0} (p : A → Bool) where
  -- an element of a list that passes
  pub all_at : (l : List A) (i : ℕ) (d : A) → all p l ≡ true → i < length l → p (get_or l i d) ≡ true
  all_at [] i d h o = absurd (omega arith)
  all_at (x ∷ l) zero d h o = and_fst (p x) (all p l) h
  all_at (x ∷ l) (suc i) d h o = all_at l i d (and_snd (p x) (all p l) h) (omega arith)

  pub all_from : (l : List A) (d : A) → ((k : ℕ) → k < length l → p (get_or l k d) ≡ true) → all p l ≡ true
  all_from [] d h = refl
  all_from (x ∷ l) d h = and_both (p x) (all p l) (h 0 (omega arith)) (all_from l d (λ k o. h (suc k) (omega arith)))

  -- one that does not pass is found where the list does not
  pub all_fails : (l : List A) (d : A) → all p l ≡ false → (i : ℕ) × (i < length l) × (p (get_or l i d) ≡ false)
  all_fails [] d h = absurd (false≢true (sym h))
  all_fails (x ∷ l) d h = go (p x) refl (λ e. all_fails l d e) h
    where
      Missed : List A → Type 0
      Missed k = (i : ℕ) × (i < length k) × (p (get_or k i d) ≡ false)

      go : (b : Bool) → p x ≡ b → (all p l ≡ false → Missed l) → (b && all p l) ≡ false → Missed (x ∷ l)
      go true e f g = let r = f g in (suc r.0, omega (arith, r.1), r.2)
      go false e f g = (0, omega arith, e)

  -- one element replaced by one that passes as it did, or by one that passes
  pub all_set : (l : List A) (i : ℕ) (d x : A) → p x ≡ p (get_or l i d) → all p (set l i x) ≡ all p l
  all_set [] i d x h = refl
  all_set (y ∷ l) zero d x h = ap (λ (b : Bool). b && all p l) h
  all_set (y ∷ l) (suc i) d x h = ap (λ (b : Bool). p y && b) (all_set l i d x h)

  pub all_put : (l : List A) (i : ℕ) (x : A) → all p l ≡ true → p x ≡ true → all p (set l i x) ≡ true
  all_put [] i x h e = refl
  all_put (y ∷ l) zero x h e = and_both (p x) (all p l) e (and_snd (p y) (all p l) h)
  all_put (y ∷ l) (suc i) x h e =
      and_both (p y) (all p (set l i x)) (and_fst (p y) (all p l) h) (all_put l i x (and_snd (p y) (all p l) h) e)

pub all_same : {A : Type 0} (p q : A → Bool) (l : List A) → ((x : A) → p x ≡ q x) → all p l ≡ all q l
all_same p q [] f = refl
all_same p q (x ∷ l) f = λ i. f x i && all_same p q l f i

pub all_imp : {A : Type 0} (p q : A → Bool) (l : List A) → ((x : A) → p x ≡ true → q x ≡ true) → all p l ≡ true → all q l ≡ true
all_imp p q [] f h = refl
all_imp p q (x ∷ l) f h =
    and_both (q x) (all q l) (f x (and_fst (p x) (all p l) h)) (all_imp p q l f (and_snd (p x) (all p l) h))

-- the length of a list that a program holds, from that of its rendering; and what stands past its end
pub length_mapped : {X Y : Type 0} (f : X → Y) (l : List X) (n : ℕ) → length (map f l) ≡ n → length l ≡ n
length_mapped f l n p = sym (length-map l f) ∙ p

pub past_end : {X Y : Type 0} (f : X → Y) (l : List X) (i : ℕ) (d : X) → length (map f l) ≡ 16 → 15 < i → d ≡ get_or l i d
past_end f l i d p h = sym (get_or-eq_default l d {n = i} (rw (length_mapped f l 16 p) (omega arith)))

-- two different records of a list in which all are apart
pub apart_at : (l : List Session) (i j : ℕ) (d : Session) → all_apart l ≡ true → i < j → j < length l → apart (get_or l i d) (get_or l j d) ≡ true
apart_at [] i j d h o u = absurd (omega arith)
apart_at (x ∷ l) zero zero d h o u = absurd (omega arith)
apart_at (x ∷ l) zero (suc j) d h o u = all_at (apart x) l j d (and_fst (all (apart x) l) (all_apart l) h) (omega arith)
apart_at (x ∷ l) (suc i) zero d h o u = absurd (omega arith)
apart_at (x ∷ l) (suc i) (suc j) d h o u =
    apart_at l i j d (and_snd (all (apart x) l) (all_apart l) h) (omega arith) (omega arith)

-- the first of a list against those that follow it
pub apart_first : (l : List Session) (d : Session) → 1 ≤ length l
    → all_apart l ≡ (all (apart (get_or l 0 d)) (take (length l - 1) (drop 1 l)) && all_apart (take (length l - 1) (drop 1 l)))
apart_first [] d h = absurd (omega arith)
apart_first (x ∷ l) d h = let e : take (length (x ∷ l) - 1) l ≡ l = take_all _ l (omega arith) in rw e

-- a record that is not used is apart from all
pub unused_from_all : (a : Session) (l : List Session) → a.used ≡ false → all (apart a) l ≡ true
unfolding apart
unused_from_all a [] h = refl
unused_from_all a (x ∷ l) h = rw (unused_from_all a l h, h)

-- a record that is apart from every other as the one was in whose place it stands changes nothing of who is apart
pub apart_like : (l : List Session) (i : ℕ) (d se : Session) → ((x : Session) → apart se x ≡ apart (get_or l i d) x)
    → ((x : Session) → apart x se ≡ apart x (get_or l i d))
    → all_apart (set l i se) ≡ all_apart l
apart_like [] i d se f g = refl
apart_like (x ∷ l) zero d se f g = rw (all_same (apart se) (apart x) l f)
apart_like (x ∷ l) (suc i) d se f g = rw (apart_like l i d se f g, all_set (apart x) l i d se (g x))

-- other registers in a record do not, nor does another window
pub apart_set : (l : List Session) (i : ℕ) (d : Session) (c : Cpu) → all_apart (set l i (at_cpu (get_or l i d) c)) ≡ all_apart l
unfolding apart
apart_set l i d c = apart_like l i d (at_cpu (get_or l i d) c) (λ x. refl) (λ x. refl)

pub apart_window : (l : List Session) (i : ℕ) (d : Session) (v : Window) → all_apart (set l i (at_window (get_or l i d) v)) ≡ all_apart l
unfolding apart
apart_window l i d v = apart_like l i d (at_window (get_or l i d) v) (λ x. refl) (λ x. refl)

-- one record replaced by one that is apart from every other
pub apart_put : (l : List Session) (i : ℕ) (x d : Session) → all_apart l ≡ true
    → ((j : ℕ) → j < length l → (j ≡ i → ⊥) → (apart x (get_or l j d) ≡ true) × (apart (get_or l j d) x ≡ true))
    → all_apart (set l i x) ≡ true
apart_put [] i x d h f = refl
apart_put (y ∷ l) zero x d h f =
    and_both (all (apart x) l) (all_apart l) (all_from (apart x) l d (λ k o. (f (suc k) (omega arith) (omega arith)).0))
    (and_snd (all (apart y) l) (all_apart l) h)
apart_put (y ∷ l) (suc i) x d h f =
    and_both (all (apart y) (set l i x)) (all_apart (set l i x))
    (all_put (apart y) l i x (and_fst (all (apart y) l) (all_apart l) h) (f 0 (omega arith) (omega arith)).1)
    (apart_put l i x d (and_snd (all (apart y) l) (all_apart l) h) (λ j o n. f (suc j) (omega arith) (omega arith)))
