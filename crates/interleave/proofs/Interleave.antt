-- The theorem on interleaved requests, and its two-run form: each by induction over the list, with no commuting of two requests.
-- Above: isolation cites `interleaved` and `two_runs`. Below: the statements in specs/Interleave.
use mathlib.Core.Path.{◌≡◌, refl, sym, ◌∙◌}
use mathlib.Core.List.{List, [], ◌∷◌}
use Prim.Native.Nat.{ℕ}
use native.Mathlib.Decide.{ℕ_discrete, dec_lt}
use lib.Dec.{eqb}
use borrow.Author.Tests.{eq-eqb, ne_eqb}
use Rattle.interleave.specs.Interleave.{By, keep, mine, one_by_one, Isolated, acts, answers, alone, alone_says, Interleaved, Alike, TwoRuns}
use Rattle.interleave.proofs.Parties.{mine_order}

module _ {W C P Q A : Type 0} (L : Isolated W C P Q A) where
  -- the world after one request, which is good as before
  abbrev after : By Q → W → W
  after t w = L.act t.who t.what w

  kept : (t : By Q) (w : W) → L.Good w → L.Good (after t w)
  kept t = L.good t.who t.what

  same_public : (t : By Q) (w : W) → L.Good w → L.public (after t w) ≡ L.public w
  same_public t = L.common t.who t.what

  good_kept : (ts : List (By Q)) (w : W) → L.Good w → L.Good (acts L ts w)
  good_kept [] w g = g
  good_kept (t ∷ ts) w g = good_kept ts (after t w) (kept t w g)

  public_kept : (ts : List (By Q)) (w : W) → L.Good w → L.public (acts L ts w) ≡ L.public w
  public_kept [] w g = refl
  public_kept (t ∷ ts) w g = public_kept ts (after t w) (kept t w g) ∙ same_public t w g

  own_step : (i : ℕ) (t : By Q) (qs : List Q) (w : W) → L.Good w → Dec (i ≡ t.who)
      → alone L (L.public w) qs (L.priv i (after t w)) ≡ alone L (L.public w) (keep (eqb i t.who) t.what qs) (L.priv i w)
  own_step i t qs w g (yes e) = rw (eq-eqb i t.who e, ← e, L.own i t.what w g)
  own_step i t qs w g (no d) = rw (ne_eqb i t.who d, L.other t.who i t.what w g d)

  own_state_lem : (ts : List (By Q)) (w : W) → L.Good w → (i : ℕ) → L.priv i (acts L ts w) ≡ alone L (L.public w) (mine i ts) (L.priv i w)
  own_state_lem [] w g i = refl
  own_state_lem (t ∷ ts) w g i =
      own_state_lem ts (after t w) (kept t w g) i ∙ rw (same_public t w g) (own_step i t (mine i ts) w g (ℕ_discrete i t.who))

  says_step : (i : ℕ) (t : By Q) (qs : List Q) (w : W) → L.Good w → Dec (i ≡ t.who)
      → keep (eqb i t.who) (L.ans t.who t.what w) (alone_says L (L.public w) qs (L.priv i (after t w)))
      ≡ alone_says L (L.public w) (keep (eqb i t.who) t.what qs) (L.priv i w)
  says_step i t qs w g (yes e) = rw (eq-eqb i t.who e, ← e, L.said i t.what w g, L.own i t.what w g)
  says_step i t qs w g (no d) = rw (ne_eqb i t.who d, L.other t.who i t.what w g d)

  own_answers : (ts : List (By Q)) (w : W) → L.Good w → (i : ℕ) → mine i (answers L ts w) ≡ alone_says L (L.public w) (mine i ts) (L.priv i w)
  own_answers [] w g i = refl
  own_answers (t ∷ ts) w g i =
      rw (own_answers ts (after t w) (kept t w g) i, same_public t w g) (says_step i t (mine i ts) w g (ℕ_discrete i t.who))

  -- the world is its common part and its private parts, so `own_state_lem` for each party is enough
  any_mix : (ts us : List (By Q)) (w : W) → L.Good w → ((i : ℕ) → mine i ts ≡ mine i us) → acts L ts w ≡ acts L us w
  any_mix ts us w g m =
      L.whole _ _ (good_kept ts w g) (good_kept us w g) (public_kept ts w g ∙ sym (public_kept us w g))
      (λ i. rw (own_state_lem ts w g i, own_state_lem us w g i, m i))

  any_mix_answers : (ts us : List (By Q)) (w : W) → L.Good w → ((i : ℕ) → mine i ts ≡ mine i us) → (i : ℕ) → mine i (answers L ts w) ≡ mine i (answers L us w)
  any_mix_answers ts us w g m i =
      rw (own_answers ts w g i, own_answers us w g i, m i)

  pub interleaved : Interleaved L
  interleaved =
      record {
        good_kept = good_kept;
        public_kept = public_kept;
        own_state_lem = own_state_lem;
        own_answers = own_answers;
        any_mix = any_mix;
        any_mix_answers = any_mix_answers;
        one_by_one_lem = λ n ts w b g. any_mix ts (one_by_one n ts) w g (λ i. mine_order n ts b i (dec_lt i n));
        one_by_one_answers = λ n ts w b g. any_mix_answers ts (one_by_one n ts) w g (λ i. mine_order n ts b i (dec_lt i n));
      }

module _ {W C P X D R Q A : Type 0} (L : Isolated W C P Q A) (M : Isolated X D R Q A) (S : Alike L M) where
  -- each by itself: the same requests keep them alike, and are answered alike
  alone_same : (qs : List Q) (c : C) (p : P) (d : D) (r : R) → S.Same c p d r → S.Same c (alone L c qs p) d (alone M d qs r)
  alone_same [] c p d r s = s
  alone_same (q ∷ qs) c p d r s = alone_same qs c (L.next c q p) d (M.next d q r) (S.still c p d r q s)

  alone_speak : (qs : List Q) (c : C) (p : P) (d : D) (r : R) → S.Same c p d r → alone_says L c qs p ≡ alone_says M d qs r
  alone_speak [] c p d r s = refl
  alone_speak (q ∷ qs) c p d r s =
      rw (S.speak c p d r q s, alone_speak qs c (L.next c q p) d (M.next d q r) (S.still c p d r q s))

  pub two_runs : TwoRuns L M S
  two_runs =
      record {
        same_answers =
            λ ts us w v i j g h m s.
            rw (own_answers L ts w g i, own_answers M us v h j, ← m) (alone_speak (mine i ts) (L.public w) (L.priv i w) (M.public v) (M.priv j v) s);
        same_end =
            λ ts us w v i j g h m s.
            rw (public_kept L ts w g, public_kept M us v h, own_state_lem L ts w g i, own_state_lem M us v h j, ← m)
            (alone_same (mine i ts) (L.public w) (L.priv i w) (M.public v) (M.priv j v) s);
      }
