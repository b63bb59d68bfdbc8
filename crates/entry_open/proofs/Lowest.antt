-- The first record that passes, and the lowest gap: what the loops of gaps find is what the definitions search for.
-- Above: the proofs of gaps and of opening, promises. Below: `first_place`, `lowest` and `gap_at` of entry's Entries.
use mathlib.Core.Path.{◌≡◌, refl, sym, ◌∙◌}
use mathlib.Core.List.{List, [], ◌∷◌}
use mathlib.Core.Bool.{Bool, true, false, cond, ◌&&◌, ◌||◌, not}
use Prim.Native.Nat.{ℕ, zero, suc, ◌+◌, ◌-◌, ◌≤◌, ◌<◌}
use native.Mathlib.Omega.{arith}
use native.Mathlib.Numerals.{add-one}
use lib.Dec.{leb, ltb}
use borrow.Author.Tests.{le-leb, leb-true, leb-false, ltb-true, ltb-false, not-true, not-false}
use lib.ListN.{length, get_or}
use Rattle.basis.proofs.Bools.{every_holds, holds_every, cond_holds, or_cases, or_none}
use Rattle.sound.specs.Sound.{all, placed}
use Rattle.sound.specs.declared.Session.{Session}
use Rattle.sound.proofs.Lists.{all_at}
use Rattle.std.specs.List.{position, position_or_len}
use Rattle.entry.specs.Entries.{first_place, first_of, lowest, clear_of, gap_at, gap_of, hits}
use Rattle.std.specs.Prelude.{Option, Some, None}

-- ---- the first that passes: the library's place, and what stands there

other_test : (b : Bool) (m n : ℕ) → m ≡ n → cond b 0 (m + 1) ≡ cond (not b) (1 + n) 0
other_test true m n e = refl
other_test false m n e = omega arith

place_is : {A : Type 0} (p : A → Bool) (l : List A) → first_place p l ≡ position_or_len p l
place_is p [] = refl
place_is p (x ∷ l) = other_test (p x) _ _ (place_is p l)

module _ {A : Type 0} (p : A → Bool) (l : List A) where
  pub first_is : position p l ≡ first_of p l
  first_is = rw (place_is p l)

  pub first_some : (i : ℕ) → first_of p l ≡ Some i → (i ≡ first_place p l) × (i < length l)
  first_some i e =
      cond_holds (λ (o : Option ℕ). o ≡ Some i → (i ≡ first_place p l) × (i < length l)) (ltb (first_place p l) (length l))
      (λ t u. let z : i ≡ first_place p l = cc in (z, rw z (ltb-true _ _ t)))
      (λ t u. let z : ◌≡◌ {A = ℕ} 0 1 = cc in absurd (omega arith)) e

  pub first_none : first_of p l ≡ None → length l ≤ first_place p l
  first_none e =
      cond_holds (λ (o : Option ℕ). o ≡ None → length l ≤ first_place p l) (ltb (first_place p l) (length l))
      (λ t u. let z : ◌≡◌ {A = ℕ} 0 1 = cc in absurd (omega arith))
      (λ t u. ltb-false _ _ t) e

pub first_at : {A : Type 0} (p : A → Bool) (l : List A) (d : A) → first_place p l < length l → p (get_or l (first_place p l) d) ≡ true
first_at p [] d h = absurd (omega arith)
first_at p (x ∷ l) d h =
    cond_holds (λ (n : ℕ). n < length (x ∷ l) → p (get_or (x ∷ l) n d) ≡ true) (p x) (λ e o. e)
    (λ e o. rw (add-one (first_place p l)) (first_at p l d (omega arith))) h

-- none fails where all are passed by
first_clear : {A : Type 0} (q : A → Bool) (l : List A) → length l ≤ first_place (λ (x : A). not (q x)) l → all q l ≡ true
first_clear q [] h = refl
first_clear {A} q (x ∷ l) h = go (q x) (λ o. first_clear q l o) h
  where
    rest : ℕ
    rest = first_place (λ (y : A). not (q y)) l

    go : (b : Bool) → (length l ≤ rest → all q l ≡ true) → length (x ∷ l) ≤ cond (not b) 0 (rest + 1) → (b && all q l) ≡ true
    go true f o = f (omega arith)
    go false f o = absurd (omega arith)

-- ---- the lowest number that passes

pub lowest_passes : (p : ℕ → Bool) (f a c : ℕ) → lowest p f a ≡ Some c → p c ≡ true
lowest_passes p zero a c e = let z : ◌≡◌ {A = ℕ} 0 1 = cc in absurd (omega arith)
lowest_passes p (suc f) a c e =
    cond_holds (λ (g : Option ℕ). g ≡ Some c → p c ≡ true) (p a) (λ t u. let z : a ≡ c = cc in rw (← z) t) (λ t u. lowest_passes p f (a + 1) c u) e

-- numbers that do not pass are as if they were not there
skip : (p : ℕ → Bool) (n f a g c : ℕ) → g ≡ n + f → c ≡ a + n → ((b : ℕ) → a ≤ b → b < c → p b ≡ false) → lowest p g a ≡ lowest p f c
skip p zero f a g c e q h =
    let e' : g ≡ f = omega arith in
    let q' : c ≡ a = omega arith in
    rw (e', q')
skip p (suc n) f a g c e q h =
    let e' : g ≡ suc (n + f) = omega arith in
    rw (e', h a (omega arith) (omega arith)) (skip p n f (a + 1) (n + f) c refl (omega arith) (λ b u v. h b (omega arith) v))

untrue : (t : Bool) → (t ≡ true → ⊥) → t ≡ false
untrue true h = absurd (h refl)
untrue false h = refl

-- ---- the lowest gap

module _ (l : List Session) (s n len : ℕ) where
  gap : (b : ℕ) → gap_at l s n len b ≡ true → (s ≤ b) × (b + len ≤ n) × (all (clear_of b len) l ≡ true)
  unfolding gap_at
  gap b h = let x = every_holds _ h in (leb-true _ _ x.0, leb-true _ _ x.1.0, x.1.1.0)

  pub found_inside : (a : ℕ) → gap_of l s n len ≡ Some a → a + len ≤ n
  unfolding gap_of
  found_inside a e = (gap a (lowest_passes (gap_at l s n len) (n + 1) 0 a e)).1

  -- every gap starts from a on
  pub record From (a : ℕ) : Type 0 where
    pub low : s ≤ a
    pub gaps : (b : ℕ) → gap_at l s n len b ≡ true → a ≤ b

  -- past the region of a session in the way
  pub record Past (a : ℕ) (se : Session) : Type 0 where
    pub fits : se.base + se.len ≤ n
    pub further : a < se.base + se.len
    pub from : From (se.base + se.len)

  pub starts : From s
  starts = record { low = omega arith; gaps = λ b h. (gap b h).0 }

  module _ (a : ℕ) (v : From a) where
    pub full : n < a + len → None ≡ gap_of l s n len
    unfolding gap_of
    full h =
        sym (skip (gap_at l s n len) (n + 1) 0 0 (n + 1) (n + 1) (omega arith) (omega arith) (λ b _ _. untrue _ (λ g. omega (arith, v.gaps b g, (gap b g).1))))

    pub found : a + len ≤ n → first_of (hits a len) l ≡ None → Some a ≡ gap_of l s n len
    unfolding gap_of gap_at
    found f o =
        let clear = first_clear (clear_of a len) l (first_none (hits a len) l o) in
        let g : gap_at l s n len a ≡ true = holds_every _ (le-leb _ _ v.low, (le-leb _ _ f, (clear, tt))) in
        sym (skip (gap_at l s n len) a (suc (n - a)) 0 (n + 1) a (omega arith) (omega arith) (λ b _ u. untrue _ (λ k. omega (arith, v.gaps b k))) ∙ rw g)

    pub past : (h : ℕ) → first_of (hits a len) l ≡ Some h → (d : Session) → all (placed n s) l ≡ true → Past a (get_or l h d)
    unfolding placed
    past h e d p =
        let place = first_some (hits a len) l h e in
        let o = place.1 in
        let se = get_or l h d in
        let hit = not-true (clear_of a len se) (rw (← place.0) at (first_at (hits a len) l d (rw (← place.0) o))) in
        let x = or_none (not se.used) (leb (a + len) se.base || leb (se.base + se.len) a) hit in
        let y = or_none (leb (a + len) se.base) (leb (se.base + se.len) a) x.1 in
        let used = not-false se.used x.0 in
        let high = leb-false (se.base + se.len) a y.1 in
        record {
          fits = leb-true _ _ (every_holds _ (rw used at (all_at (placed n s) l h d p o))).1.0;
          further = high;
          from =
              record {
                low = omega (arith, v.low);
                gaps =
                    λ b g.
                    or_cases (leb (b + len) se.base) (leb (se.base + se.len) b) (rw used at (all_at (clear_of b len) l h d (gap b g).2 o))
                    (λ q. absurd (omega (arith, v.gaps b g, leb-true (b + len) se.base q, leb-false (a + len) se.base y.0)))
                    (λ q. leb-true _ _ q);
              };
        }
