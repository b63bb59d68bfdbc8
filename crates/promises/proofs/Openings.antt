-- Opening: the lowest gap, the lowest record, and 15 exactly where there is no gap.
-- Above: Promises. Below: Zeros, opening's laws of the lowest gap, sound's facts.
use mathlib.Core.Path.{◌≡◌, refl, sym, ap, ◌∙◌}
use mathlib.Core.List.{List, [], ◌∷◌}
use mathlib.Core.Logic.{◌↔◌}
use mathlib.Core.Bool.{Bool, true, false, ◌&&◌, false≢true, or-true, and-false}
use Prim.Native.Nat.{ℕ, zero, suc, ◌+◌, ◌-◌, ◌≤◌, ◌<◌}
use native.Mathlib.Omega.{arith}
use native.Mathlib.Decide.{dec_lt, dec_le}
use lib.Dec.{leb}
use lib.ListN.{length, get_or}
use lib.Seq.{get_or-set_same}
use borrow.Author.Tests.{leb-true, le-leb, lt-leb, not-true, not-false}
use Rattle.basis.proofs.Bools.{and_fst, and_both, every_holds, holds_every, or_cases}
use Rattle.sound.specs.Below.{start_of}
use Rattle.sound.specs.Bench.{no_session, code_of, slot_at, World, session_at}
use Rattle.sound.specs.declared.Window.{Window}
use Rattle.sound.specs.Sound.{inside_shared, Sound}
use Rattle.sound.proofs.Lists.{either_way, decided, all_at, all_from}
use Rattle.sound.proofs.Facts.{long, used_in, opened}
use Rattle.std.specs.Prelude.{Option, Some, None}
use Rattle.basis.specs.Checks.{check, refused}
use Rattle.basis.proofs.Checks.{Passing, never}
use Rattle.entry.specs.Answer.{Done, answer_ruling, Result}
use Rattle.entry.specs.Entries.{is_sound, loaded_at, window_checks, len_ok, first_place, unused, record_for, clear_of, lowest, gap_at, gap_of, gap_for, found, place_in, fresh, opens, window_open_of}
use Rattle.entry.proofs.Refusing.{passes, stops, by_checks}
use Rattle.entry_open.proofs.Lowest.{first_at, lowest_passes}
use Rattle.promises.specs.Words.{GapFrom, Opens}
use Rattle.promises.proofs.Zeros.{zeroed, only}

-- ---- the lowest of a search

-- where a search stops: at the one found, or at the end
abbrev stop : ℕ → Option ℕ → ℕ
stop end (Some c) = c
stop end None = end

-- none passes before that
lowest_none : (p : ℕ → Bool) (f a end b : ℕ) → a + f ≡ end → a ≤ b → b < stop end (lowest p f a) → p b ≡ false
lowest_none p zero a end b e g h = absurd (omega arith)
lowest_none p (suc f) a end b e g h =
    either_way (p a)
    (λ w. let z : b < a = rw w at h in absurd (omega arith))
    (λ w. decided (dec_lt a b)
    (λ q. lowest_none p f (a + 1) end b (omega arith) (omega arith) (rw w at h))
    (λ q. let z : b ≡ a = omega arith in rw z w))

-- below the first that passes, none does
first_least : {A : Type 0} (p : A → Bool) (l : List A) (d : A) (j : ℕ) → j < first_place p l → p (get_or l j d) ≡ false
first_least p [] d j h = absurd (omega arith)
first_least p (x ∷ l) d zero h = either_way (p x) (λ e. let z : 0 < 0 = rw e at h in absurd (omega arith)) (λ e. e)
first_least p (x ∷ l) d (suc j) h =
    either_way (p x)
    (λ e. let z : suc j < 0 = rw e at h in absurd (omega arith))
    (λ e. let z : suc j < first_place p l + 1 = rw e at h in first_least p l d j (omega arith))

-- ---- gaps, as the test and word by word

module _ (store : List ℕ) (w : World) (g : Sound store w) (len : ℕ) where
  abbrev gap : ℕ → Bool
  gap = gap_at w.bench.sessions w.bench.s w.bench.n len

  gap_free : (a : ℕ) → gap a ≡ true → GapFrom w len a
  unfolding gap_at
  gap_free a h j p q =
      let x = every_holds _ h in
      let lo : w.bench.s ≤ a = leb-true _ _ x.0 in
      let hi : a + len ≤ w.bench.n = leb-true _ _ x.1.0 in
      record {
        unshared = omega arith;
        inside = omega arith;
        nobodys =
            λ i r.
            or_cases (leb (a + len) (session_at w i).base) (leb ((session_at w i).base + (session_at w i).len) a)
            (rw r.used at (all_at (clear_of a len) w.bench.sessions i no_session x.1.1.0 (used_in store w g i r.used)))
            (λ e. absurd (omega (arith, leb-true (a + len) (session_at w i).base e, r.low)))
            (λ e. absurd (omega (arith, leb-true ((session_at w i).base + (session_at w i).len) a e, r.high)));
      }

  -- a region that is in nobody's way
  clear_at : (a k : ℕ) → GapFrom w len a → 1 ≤ len → clear_of a len (session_at w k) ≡ true
  clear_at a k f o =
      let b = (session_at w k).base in
      let e = (session_at w k).base + (session_at w k).len in
      either_way (session_at w k).used
      (λ u. rw u
      (decided (dec_le (a + len) b)
      (λ h. rw (le-leb (a + len) b h))
      (λ h. decided (dec_le e a)
      (λ q. rw (le-leb e a q) (or-true (leb (a + len) b)))
      (λ q. absurd
      (decided (dec_le a b)
      (λ t. (f b t (omega arith)).nobodys k (record { used = u; low = omega arith; high = omega (arith, (opened store w g k u).least) }))
      (λ t. (f a (omega arith) (omega arith)).nobodys k (record { used = u; low = omega arith; high = omega arith })))))))
      (λ u. rw u)

  free_gap : (a : ℕ) → 1 ≤ len → GapFrom w len a → gap a ≡ true
  unfolding gap_at
  free_gap a o f =
      let lo = (f a (omega arith) (omega arith)).unshared in
      let hi = (f (a + len - 1) (omega arith) (omega arith)).inside in
      let end : a + len ≤ w.bench.n = omega (arith, hi) in
      let clear = all_from (clear_of a len) w.bench.sessions no_session (λ k q. clear_at a k f o) in
      holds_every _ (le-leb _ _ lo, (le-leb _ _ end, (clear, tt)))

  -- before the place where the search stopped there is none; so no gap is found exactly where there is none
  none_before : (r : Option ℕ) → gap_for w len ≡ r → 1 ≤ len → (b : ℕ) → b < stop (w.bench.n + 1) r → GapFrom w len b → ⊥
  unfolding gap_of
  none_before r e o b h f =
      false≢true (sym (lowest_none gap (w.bench.n + 1) 0 (w.bench.n + 1) b (omega arith) (omega arith) (rw e h)) ∙ free_gap b o f)

  none_found : gap_for w len ≡ None → 1 ≤ len → (a : ℕ) → GapFrom w len a → ⊥
  none_found e o a f = let hi = (f a (omega arith) (omega arith)).inside in none_before None e o a (omega (arith, hi)) f

  is_gap : (a : ℕ) → gap_for w len ≡ Some a → gap a ≡ true
  unfolding gap_of
  is_gap a e = lowest_passes gap (w.bench.n + 1) 0 a e

  gap_in : (a : ℕ) → gap_for w len ≡ Some a → a + len ≤ length w.mem
  unfolding gap_at
  gap_in a e = rw (long store w g) (leb-true _ _ (every_holds _ (is_gap a e)).1.0)

len_some : (code : List ℕ) (len : ℕ) → len_ok code len ≡ true → 1 ≤ len
unfolding len_ok
len_some code len h = let q : 16 ≤ len = leb-true _ _ (every_holds _ h).0 in omega arith

-- ---- the two promises

module _ (store : List ℕ) (w : World) (slot len : ℕ) (v : Window) (g : Sound store w) where
  abbrev code : List ℕ
  code = code_of store (slot_at w.bench.slots slot)

  -- an opening that passes its checks, at this place
  abbrev opening : ℕ → Result
  opening a = opens slot len v (start_of code len) (record_for w) a w

  module _ (ld : loaded_at w slot ≡ true) (lk : len_ok (code_of store (slot_at w.bench.slots slot)) len ≡ true) (seen : inside_shared w.bench.s v ≡ true) (left : record_for w ≤ 15) where
    sizes : (len_ok (code_of store (slot_at w.bench.slots slot)) len && inside_shared w.bench.s v) ≡ true
    sizes = and_both _ _ lk seen

    number_by : (r : Option ℕ) → gap_for w len ≡ r → answer_ruling (window_open_of store slot len v w).answer ≡ refused 15 0 → r ≡ None
    unfolding window_open_of
    number_by None e n = refl
    number_by (Some a) e n =
        let q = passes (window_checks store slot len v w) w (opening (place_in (gap_for w len))) (g.sound, (ld, (sizes, (le-leb _ _ left, (ap found e, tt))))) in
        absurd (never (ap (λ (r : Result). answer_ruling r.answer) q) n)

    refused_by : (r : Option ℕ) → gap_for w len ≡ r → ((a : ℕ) → GapFrom w len a → ⊥) → answer_ruling (window_open_of store slot len v w).answer ≡ refused 15 0
    unfolding window_open_of
    refused_by None e n =
        ap (λ (r : Result). answer_ruling r.answer)
        (stops (check 11 0 (is_sound store w) ∷ check 12 0 (loaded_at w slot) ∷ check 13 0 (len_ok code len && inside_shared w.bench.s v) ∷ check 14 0 (leb (record_for w) 15) ∷ []) 15
        (found (gap_for w len)) [] w (opening (place_in (gap_for w len))) (g.sound, (ld, (sizes, (le-leb _ _ left, tt)))) (ap found e))
    refused_by (Some a) e n = absurd (n a (gap_free store w g len a (is_gap store w g len a e)))

    pub fifteen : (answer_ruling (window_open_of store slot len v w).answer ≡ refused 15 0) ↔ ((a : ℕ) → GapFrom w len a → ⊥)
    fifteen = (λ n. none_found store w g len (number_by (gap_for w len) refl n) (len_some code len lk), refused_by (gap_for w len) refl)

  -- "A window not inside the S words gets 13"
  pub thirteen : loaded_at w slot ≡ true → w.bench.s < v.first + v.len → answer_ruling (window_open_of store slot len v w).answer ≡ refused 13 0
  unfolding window_open_of
  thirteen ld out =
      let wide : (len_ok code len && inside_shared w.bench.s v) ≡ false = rw (lt-leb (v.first + v.len) w.bench.s out) (and-false (len_ok code len)) in
      ap (λ (r : Result). answer_ruling r.answer)
      (stops (check 11 0 (is_sound store w) ∷ check 12 0 (loaded_at w slot) ∷ []) 13 (len_ok code len && inside_shared w.bench.s v) _ w
      (opening (place_in (gap_for w len))) (g.sound, (ld, tt)) wide)

  -- what an opening that is done has done
  done_by : Passing (window_checks store slot len v w) → (r : Option ℕ) → gap_for w len ≡ r → Opens store slot len v w (opening (place_in r)).world (record_for w)
  done_by p None e = absurd (false≢true (sym (ap found e) ∙ p.1.1.1.1.0))
  done_by p (Some a) e =
      let lo : record_for w ≤ 15 = leb-true _ _ p.1.1.1.0 in
      let inl : record_for w < length w.bench.sessions = rw g.sixteen (omega (arith, lo)) in
      let se = fresh slot a len v (start_of code len) in
      let f = gap_in store w g len a e in
      record {
        place = a;
        gap = gap_free store w g len a (is_gap store w g len a e);
        lowest_gap = none_before store w g len (Some a) e (len_some code len (and_fst _ _ p.1.1.0));
        low = lo;
        unused = not-true _ (first_at unused w.bench.sessions no_session inl);
        lowest_record = λ j h. not-false _ (first_least unused w.bench.sessions no_session j h);
        made = get_or-set_same w.bench.sessions (record_for w) se no_session inl;
        only = only w (record_for w) se a len f;
        zeroed = zeroed w (record_for w) se a len f;
      }

  pub opened_is : (i : ℕ) → (window_open_of store slot len v w).answer ≡ Done i → Opens store slot len v w (window_open_of store slot len v w).world i
  unfolding window_open_of
  opened_is i =
      by_checks (λ r. r.answer ≡ Done i → Opens store slot len v w r.world i) (window_checks store slot len v w) w _
      (λ n q e. let z : ◌≡◌ {A = ℕ} 0 1 = cc in absurd (omega arith))
      (λ p e. let z : record_for w ≡ i = cc in rw (← z) (done_by p (gap_for w len) refl))
