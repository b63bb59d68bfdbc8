-- A mark in order, where a routine is entered, and the walk of links, as the code reads them.
-- Above: the proofs of enter, in_order and walk in `plan_calls`; below: Step of `pmachine`, and what Facts tell.
use Rattle.std.specs.Prelude.{Result, Ok, Err}
use mathlib.Core.Path.{◌≡◌, refl, ap, sym, ◌∙◌}
use mathlib.Core.List.{List}
use mathlib.Core.Logic.{⊎_elim}
use mathlib.Core.Bool.{Bool, true, false, ◌&&◌, not, cond}
use Prim.Native.Nat.{ℕ, suc, ◌+◌, ◌-◌, ◌*◌, ◌<◌, ◌≤◌}
use native.Mathlib.Omega.{arith}
use native.Mathlib.Nat.{eq-or-lt_of_le}
use borrow.Author.Tests.{le-leb, le-ltb, leb-true, ltb-false, eq-eqb, ne_eqb, eqb-true, eqb-false}
use lib.Dec.{ltb, leb, eqb}
use lib.ListN.{length, get_or}
use Rattle.basis.specs.Bools.{inside}
use Rattle.basis.proofs.Bools.{leb_iff, and_snd, inside_true}
use Rattle.operand.specs.Bytes.{word_by}
use Rattle.segment.specs.Head.{least, word, dict, count, entry, linked, datasize, start}
use Rattle.segment.proofs.Laws.{linked_some, linked_none}
use Rattle.pmachine.specs.Step.{floor, pointer, reaches, broken, follow}
use Rattle.pmachine.specs.Sound.{Loaded}
use Rattle.pmachine.proofs.Links.{follow_more}
use Rattle.plan.specs.declared.Facts.{Facts}
use Rattle.plan.specs.declared.Entry.{Entry}
use Rattle.plan.specs.Mirror.{entry_fault, entered, in_order}
use Rattle.plan.specs.Told.{sex_of, Told}

-- below n + 1 is n at most
pub below_suc : (p n : ℕ) → ltb p (n + 1) ≡ leb p n
below_suc p n = leb_iff (suc p) (n + 1) p n (omega arith) (omega arith)

-- a mark whose other numbers are in order turns on the new stack pointer's bound
pub order_last : (len size n low : ℕ) (mark : List ℕ) (sp : ℕ) → 1 ≤ get_or mark 1 0 → get_or mark 1 0 + 5 ≤ size → 1 ≤ get_or mark 4 0 → get_or mark 4 0 ≤ n
    → get_or mark 3 0 ≡ 1 → 22 ≤ get_or mark 2 0 → get_or mark 2 0 ≤ len → low ≤ sp → leb sp size ≡ in_order len size n low mark sp
unfolding in_order inside
order_last len size n low mark sp a b c d e f g h =
    rw (
      le-leb _ _ a,
      le-leb _ _ b,
      le-leb _ _ c,
      below_suc (get_or mark 4 0) n,
      le-leb _ _ d,
      eq-eqb _ _ e,
      le-leb _ _ f,
      below_suc (get_or mark 2 0) len,
      le-leb _ _ g,
      le-leb _ _ h,
      below_suc sp size,
    )

-- a mark one of whose numbers is not in order
one_fails : (a b c d e f : Bool) → (a ≡ true → b ≡ true → c ≡ true → d ≡ true → e ≡ true → f ≡ true → ⊥) → false ≡ ((a && b) && (c && (d && (e && f))))
one_fails false b c d e f h = refl
one_fails true false c d e f h = refl
one_fails true true false d e f h = refl
one_fails true true true false e f h = refl
one_fails true true true true false f h = refl
one_fails true true true true true false h = refl
one_fails true true true true true true h = absurd (h refl refl refl refl refl refl)

pub disordered : (len size n low : ℕ) (mark : List ℕ) (sp : ℕ)
    → (1 ≤ get_or mark 1 0 → get_or mark 1 0 + 5 ≤ size → 1 ≤ get_or mark 4 0 → get_or mark 4 0 ≤ n → get_or mark 3 0 ≡ 1 → 22 ≤ get_or mark 2 0 → get_or mark 2 0 ≤ len → low ≤ sp → ⊥)
    → false ≡ in_order len size n low mark sp
unfolding in_order
disordered len size n low mark sp not-all =
    one_fails (leb 1 (get_or mark 1 0)) (leb (get_or mark 1 0 + 5) size) (inside 1 (n + 1) (get_or mark 4 0)) (eqb (get_or mark 3 0) 1) (inside 22 (len + 1) (get_or mark 2 0))
    (inside low (size + 1) sp) (λ a b c d e f.
    let routine = inside_true 1 (n + 1) (get_or mark 4 0) c in
    let counter = inside_true 22 (len + 1) (get_or mark 2 0) e in
    not-all (leb-true _ _ a) (leb-true _ _ b) routine.0 (omega (arith, routine.1)) (eqb-true _ _ d) counter.0 (omega (arith, counter.1))
    (inside_true low (size + 1) sp f).0)

-- what is entered, unless there is a fault
abbrev pub by_fault : ℕ → Entry → Result Entry ℕ
by_fault n to = cond (eqb n 0) (Ok to) (Err n)

room : (full : Bool) (to : Entry) → ◌≡◌ {A = Result Entry ℕ} (cond full (Err 4) (Ok to)) (by_fault (cond full 4 0) to)
room true to = refl
room false to = refl

pub no_fault : (e sp needed : ℕ) → entry_fault e sp needed ≡ 0 → needed ≤ sp
unfolding entry_fault
no_fault e sp needed h = go (eqb e 0) (ltb sp needed) refl h
  where
    go : (zero full : Bool) → ltb sp needed ≡ full → ◌≡◌ {A = ℕ} (cond zero 8 (cond full 4 0)) 0 → needed ≤ sp
    go true full l n = absurd (omega (arith, n))
    go false true l n = absurd (omega (arith, n))
    go false false l n = ltb-false sp needed l

module _ (s : List ℕ) (f : Facts) (t : Told s f) where
  sex_told : eqb f.sex 0 ≡ least s
  sex_told = go (least s) t.sexes
    where
      go : (b : Bool) → f.sex ≡ sex_of b → eqb f.sex 0 ≡ b
      go true e = eq-eqb f.sex 0 e
      go false e = ne_eqb f.sex 0 (λ z. omega (arith, e, z))

  pub word_told : (w : ℕ) → word_by (eqb f.sex 0) s w ≡ word s w
  unfolding word
  word_told w = ap (λ (b : Bool). word_by b s w) sex_told

  entry_told : (k e : ℕ) → e ≡ word_by (eqb f.sex 0) s (f.dict + k) → e ≡ entry s k
  unfolding entry
  entry_told k e a = a ∙ (word_told (f.dict + k) ∙ ap (λ (d : ℕ). word s (d + k)) t.dicts)

  -- what was read as an entry is a word of the segment, also where it is 0
  pub entry_within : Loaded s → (k e : ℕ) → 1 ≤ k → k ≤ f.count → e ≡ word_by (eqb f.sex 0) s (f.dict + k) → 2 * e + 2 ≤ length s
  entry_within l k e low high a =
      let i = entry_told k e a in
      ⊎_elim (λ (z : 0 ≡ e). omega (arith, l.long, z))
      (λ (some : 0 < e).
      let r = l.routines k low (omega (arith, t.counts)) (linked_some s k (omega (arith, i, some))) in
      omega (arith, i, l.even, r.entry_high))
      (eq-or-lt_of_le {n = 0} {m = e} (omega arith))

  size_told : (k e z : ℕ) → e ≡ entry s k → linked s k ≡ true → z ≡ word_by (eqb f.sex 0) s e → z ≡ datasize s k
  unfolding datasize
  size_told k e z a some b = b ∙ (word_told e ∙ rw some (ap (word s) a))

  -- a routine that the segment has, with the entry and the size that were read, and the fault
  pub entered_told : (sp k e z : ℕ) → 1 ≤ k → k ≤ f.count → e ≡ word_by (eqb f.sex 0) s (f.dict + k) → z ≡ word_by (eqb f.sex 0) s e
      → entered s sp k ≡ by_fault (entry_fault e sp (f.floor + 5 + z)) (record { sp = sp - 5 - z; counter = 2 * (e + 1) })
  unfolding entered start entry_fault
  entered_told sp k e z low high a b =
      rw (le-ltb k 1 low, le-ltb (count s) k (omega (arith, high, t.counts))) (go (eqb e 0) refl)
    where
      go : (zero : Bool) → eqb e 0 ≡ zero
          → ◌≡◌ {A = Result Entry ℕ} (cond (not (linked s k)) (Err 8) (cond (ltb sp (floor s + 5 + datasize s k)) (Err 4) (Ok (record { sp = sp - (5 + datasize s k); counter = start s k }))))
          (by_fault (cond zero 8 (cond (ltb sp (f.floor + 5 + z)) 4 0)) (record { sp = sp - 5 - z; counter = 2 * (e + 1) }))
      go true h = rw (linked_none s k (sym (entry_told k e a) ∙ eqb-true e 0 h))
      go false h =
          let i = entry_told k e a in
          let some = linked_some s k (omega (arith, i, eqb-false e 0 h)) in
          let d : sp - (5 + datasize s k) ≡ sp - 5 - datasize s k = omega arith in
          rw (t.floors, some, i, size_told k e z i some b, d) (room (ltb sp (floor s + 5 + datasize s k)) _)

-- ---- one link, and then the rest

module _ (w : List ℕ) (m : ℕ) where
  one_link : follow w m 1 ≡ cond (pointer w (get_or w m 0)) (reaches (get_or w m 0)) broken
  unfolding follow
  one_link = refl

  pub one_more : (d up : ℕ) → (d ≡ 0 → ⊥) → follow w m 1 ≡ reaches up → follow w m d ≡ follow w up (d - 1)
  one_more d up h e = follow_more w m d h ∙ go (pointer w (get_or w m 0)) (sym one_link ∙ e)
    where
      go : (b : Bool) → cond b (reaches (get_or w m 0)) broken ≡ reaches up → cond b (follow w (get_or w m 0) (d - 1)) broken ≡ follow w up (d - 1)
      go true q = let z : get_or w m 0 ≡ up = cc in rw z
      go false q = let z : ◌≡◌ {A = ℕ} 0 1 = cc in absurd (omega arith)

  pub one_broken : (d : ℕ) → (d ≡ 0 → ⊥) → follow w m 1 ≡ broken → follow w m d ≡ broken
  one_broken d h e = follow_more w m d h ∙ go (pointer w (get_or w m 0)) (sym one_link ∙ e)
    where
      go : (b : Bool) → cond b (reaches (get_or w m 0)) broken ≡ broken → cond b (follow w (get_or w m 0) (d - 1)) broken ≡ broken
      go true q = let z : ◌≡◌ {A = ℕ} 0 1 = cc in absurd (omega arith)
      go false q = refl

  pub one_inside : (up : ℕ) → follow w m 1 ≡ reaches up → up < length w
  one_inside up e = go (pointer w (get_or w m 0)) refl (sym one_link ∙ e)
    where
      go : (b : Bool) → pointer w (get_or w m 0) ≡ b → cond b (reaches (get_or w m 0)) broken ≡ reaches up → up < length w
      go true p q =
          let z : get_or w m 0 ≡ up = cc in
          omega (arith, z, leb-true (get_or w m 0 + 5) (length w) (and_snd (leb 1 (get_or w m 0)) (leb (get_or w m 0 + 5) (length w)) p))
      go false p q = let z : ◌≡◌ {A = ℕ} 0 1 = cc in absurd (omega arith)
