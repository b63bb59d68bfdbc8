-- The definition's outcome of an instruction, meaning by meaning, is what the helpers answer.
-- Above: Arms, from the helpers' promises to the outcome; below: Step of `pmachine`, and Answer.
use Prim.Native.Nat.{ℕ, ◌+◌, ◌-◌, ◌%◌, ◌<◌, ◌≤◌, min}
use native.Mathlib.Nat.{min-eq_left}
use native.Mathlib.Omega.{arith}
use mathlib.Core.Path.{◌≡◌, refl}
use mathlib.Core.List.{List, [], ◌∷◌}
use mathlib.Core.Bool.{Bool, true, false, ◌&&◌, not, cond}
use lib.Dec.{ltb, leb, eqb}
use lib.ListN.{length, get_or}
use borrow.Author.Tests.{lt-ltb, le-ltb, le-leb, lt-leb, eq-eqb, ne_eqb, ltb-true, ltb-false, leb-true, leb-false}
use Rattle.basis.specs.Bools.{inside}
use Rattle.basis.specs.Integer.{leq_of}
use Rattle.basis.proofs.Bools.{inside_true}
use Rattle.segment.specs.Head.{words, count, linked, datasize, pool}
use Rattle.pmachine.specs.State.{Registers}
use Rattle.pmachine.specs.Meaning.{Whose, Meaning, constant, pool_offset, load, address, store, index, indirect, unary, binary, division, duplicate}
use Rattle.pmachine.specs.Meaning.{swap, nothing, subrange, jump, jump_if, call, return}
use Rattle.pmachine.specs.Decoding.{Instruction}
use Rattle.pmachine.specs.Step.{fault, goes, floor, reached, reaches, broken, readable, word_at, target, new_record, mark_at, resumes, moved, ground_for, first_fault, asks, effect, outcome}
use Rattle.pmachine.specs.Sound.{Ranged}
use Rattle.pmachine.proofs.Judged.{resumed}
use Rattle.std.specs.Prelude.{Some, None}
use Rattle.plan.specs.Mirror.{pushed, one, two, gives, divided, checked, loaded, addressed, stored, read_at, stored_at, pooled, in_code, jumped}
use Rattle.plan.specs.Mirror.{branched, entered, called, in_order, returned}
use Rattle.plan.proofs.Links.{below_suc}

abbrev pub instr : Meaning → ℕ → ℕ → ℕ → Instruction
instr m t g n = record { does = m; taken = t; given = g; next = n }

-- ---- tests, as the code asks them

not_inside : (end x : ℕ) → 1 ≤ x → not (inside 1 end x) ≡ leb end x
unfolding inside
not_inside end x h = go (leb end x) refl
  where
    go : (b : Bool) → leb end x ≡ b → not (leb 1 x && ltb x end) ≡ leb end x
    go true e = rw (e, le-leb 1 x h, le-ltb x end (leb-true end x e))
    go false e = rw (e, le-leb 1 x h, lt-ltb x end (leb-false end x e))

no_private : (end x : ℕ) → ltb x 1 ≡ true → inside 1 end x ≡ false
unfolding inside
no_private end x e = rw (lt-leb 1 x (ltb-true x 1 e))

-- where the code says 0, the target lies outside the code
landed : (len t : ℕ) → in_code len t ≡ cond (inside 22 len t) t 0
unfolding in_code inside
landed len t = go _ refl _ refl
  where
    go : (x : Bool) → ltb t 22 ≡ x → (y : Bool) → leb len t ≡ y → cond (ltb t 22) 0 (cond (leb len t) 0 t) ≡ cond (leb 22 t && ltb t len) t 0
    go true d y e = rw (d, lt-leb 22 t (ltb-true t 22 d))
    go false d true e = rw (d, e, le-leb 22 t (ltb-false t 22 d), le-ltb t len (leb-true len t e))
    go false d false e = rw (d, e, le-leb 22 t (ltb-false t 22 d), lt-ltb t len (leb-false len t e))

landed_high : (len t : ℕ) → inside 22 len t ≡ true → eqb t 0 ≡ false
landed_high len t e = ne_eqb t 0 (λ q. omega (arith, q, (inside_true 22 len t e).0))

-- a jump lands in the code, or is fault 7
pub jumped_is : (len : ℕ) (r : Registers) (sp n d : ℕ)
    → jumped len r sp n d ≡ cond (inside 22 len (target n d)) (goes (moved r sp (target n d)) sp []) (fault 7)
unfolding jumped
jumped_is len r sp n d = rw (landed len (target n d)) (go (inside 22 len (target n d)) refl)
  where
    go : (b : Bool) → inside 22 len (target n d) ≡ b
        → cond (eqb (cond (inside 22 len (target n d)) (target n d) 0) 0) (fault 7) (goes (moved r sp (cond (inside 22 len (target n d)) (target n d) 0)) sp [])
        ≡ cond (inside 22 len (target n d)) (goes (moved r sp (target n d)) sp []) (fault 7)
    go true e = rw (e, landed_high len (target n d) e)
    go false e = rw e

-- what is read at an address, if it may be read
module _ (w shared : List ℕ) (base i : ℕ) (small : length w ≤ 32768) (few : length shared ≤ 32768) where
  read_is : read_at w shared base i ≡ cond (readable w shared base i) (Some (word_at w shared (base + i))) None
  unfolding read_at word_at inside
  read_is = go _ _ _ _ _ refl refl refl refl refl
    where
      go : (v x y z u : Bool) → ltb base 1 ≡ v → ltb (base + i) (length w) ≡ x → ltb (base + i) 32768 ≡ y → leb (length shared) (base + i - 32768) ≡ z
          → leb (base + i) 65535 ≡ u → read_at w shared base i ≡ cond (readable w shared base i) (Some (word_at w shared (base + i))) None
      go true x y z u d e f g o =
          let a = ltb-true base 1 d in
          rw (d, eq-eqb base 0 (omega arith))
      go false true y z u d e f g o =
          let a = ltb-false base 1 d in
          let l = ltb-true (base + i) (length w) e in
          rw (
            d,
            e,
            ne_eqb base 0 (λ p. omega (arith, p)),
            le-leb (base + i) 65535 (omega arith),
            le-leb 1 (base + i) (omega arith),
            lt-ltb (base + i) 32768 (omega arith),
          )
      go false false true z u d e f g o =
          let a = ltb-false base 1 d in
          let l = ltb-true (base + i) 32768 f in
          rw (
            d,
            e,
            f,
            ne_eqb base 0 (λ p. omega (arith, p)),
            le-leb (base + i) 65535 (omega arith),
            le-leb 1 (base + i) (omega arith),
            lt-leb 32768 (base + i) l,
          )
      go false false false true false d e f g o =
          let a = ltb-false base 1 d in
          rw (d, e, f, g, o, ne_eqb base 0 (λ p. omega (arith, p)))
      go false false false true true d e f g o =
          let a = ltb-false base 1 d in
          let l = ltb-false (base + i) 32768 f in
          let k = leb-true (length shared) (base + i - 32768) g in
          rw (
            d,
            e,
            f,
            g,
            o,
            ne_eqb base 0 (λ p. omega (arith, p)),
            le-leb 1 (base + i) (omega arith),
            le-leb 32768 (base + i) l,
            le-ltb (base + i) (32768 + length shared) (omega arith),
          )
      go false false false false u d e f g o =
          let a = ltb-false base 1 d in
          let l = ltb-false (base + i) 32768 f in
          let k = leb-false (length shared) (base + i - 32768) g in
          rw (
            d,
            e,
            f,
            g,
            ne_eqb base 0 (λ p. omega (arith, p)),
            le-leb (base + i) 65535 (omega arith),
            le-leb 1 (base + i) (omega arith),
            le-leb 32768 (base + i) l,
            lt-ltb (base + i) (32768 + length shared) (omega arith),
          )

-- a step that takes SP d words up, or leaves it, leaves the lowest
pub stays : {s : List ℕ} {l : ℕ} {r : Registers} → Ranged s l r → (d : ℕ) → min r.lowest (r.sp + d) ≡ r.lowest
stays h d = omega (arith, h.lowest_high)

-- ---- meaning by meaning

module _ (s shared w : List ℕ) (r : Registers) (h : Ranged s (length w) r) (small : length w ≤ 32768) (n : ℕ) where
  plus0 : r.sp + 0 ≡ r.sp
  plus0 = omega arith

  none_none : r.sp + 0 - 0 ≡ r.sp
  none_none = omega arith

  none_one : r.sp + 0 - 1 ≡ r.sp - 1
  none_one = omega arith

  one_none : r.sp + 1 - 0 ≡ r.sp + 1
  one_none = omega arith

  one_one : r.sp + 1 - 1 ≡ r.sp
  one_one = omega arith

  one_two : r.sp + 1 - 2 ≡ r.sp - 1
  one_two = omega arith

  two_none : r.sp + 2 - 0 ≡ r.sp + 2
  two_none = omega arith

  two_one : r.sp + 2 - 1 ≡ r.sp + 1
  two_one = omega arith

  two_two : r.sp + 2 - 2 ≡ r.sp
  two_two = omega arith

  three_one : r.sp + 3 - 1 ≡ r.sp + 2
  three_one = omega arith

  fits : ltb (length w) (r.sp + 0) ≡ false
  fits = le-ltb (length w) (r.sp + 0) (omega (arith, h.sp_high))

  dry : ltb r.sp (floor s) ≡ false
  dry = le-ltb r.sp (floor s) h.sp_low

  dry1 : ltb (r.sp + 1) (floor s) ≡ false
  dry1 = le-ltb (r.sp + 1) (floor s) (omega (arith, h.sp_low))

  dry2 : ltb (r.sp + 2) (floor s) ≡ false
  dry2 = le-ltb (r.sp + 2) (floor s) (omega (arith, h.sp_low))

  pub few_words : (m : Meaning) (t g : ℕ) → length w < r.sp + t → outcome s shared w r (instr m t g n) ≡ fault 3
  unfolding outcome ground_for first_fault
  few_words m t g k = rw (lt-ltb (length w) (r.sp + t) k)

  pub is_constant : (v : ℕ) → outcome s shared w r (instr (constant v) 0 1 n) ≡ pushed (floor s) r n v
  unfolding outcome asks effect ground_for first_fault pushed
  is_constant v = rw (fits, none_one)

  pub is_duplicate : r.sp + 1 ≤ length w → outcome s shared w r (instr duplicate 1 2 n) ≡ pushed (floor s) r n (get_or w r.sp 0)
  unfolding outcome asks effect ground_for first_fault pushed
  is_duplicate k = rw (le-ltb (length w) (r.sp + 1) k, one_two, plus0)

  pub is_nothing : outcome s shared w r (instr nothing 0 0 n) ≡ goes (moved r r.sp n) r.sp []
  unfolding outcome asks effect ground_for first_fault
  is_nothing = rw (fits, none_none, dry, min-eq_left h.lowest_high)

  pub is_swap : r.sp + 2 ≤ length w
      → outcome s shared w r (instr swap 2 2 n) ≡ goes (moved r r.sp n) r.sp (get_or w (r.sp + 1) 0 ∷ get_or w r.sp 0 ∷ [])
  unfolding outcome asks effect ground_for first_fault
  is_swap k = rw (le-ltb (length w) (r.sp + 2) k, two_two, dry, plus0, min-eq_left h.lowest_high)

  pub is_unary : (f : ℕ → ℕ) → r.sp + 1 ≤ length w → outcome s shared w r (instr (unary f) 1 1 n) ≡ one r n (f (get_or w r.sp 0))
  unfolding outcome asks effect ground_for first_fault
  is_unary f k = rw (le-ltb (length w) (r.sp + 1) k, one_one, dry, plus0, min-eq_left h.lowest_high)

  pub is_binary : (f : ℕ → ℕ → ℕ) → r.sp + 2 ≤ length w
      → outcome s shared w r (instr (binary f) 2 1 n) ≡ two r n (f (get_or w (r.sp + 1) 0) (get_or w r.sp 0))
  unfolding outcome asks effect ground_for first_fault
  is_binary f k = rw (le-ltb (length w) (r.sp + 2) k, two_one, dry1, plus0, stays h 1)

  pub is_division : (f : ℕ → ℕ → ℕ) → r.sp + 2 ≤ length w
      → outcome s shared w r (instr (division f) 2 1 n) ≡ divided f r n (get_or w (r.sp + 1) 0) (get_or w r.sp 0)
  unfolding outcome asks effect ground_for first_fault divided
  is_division f k = rw (le-ltb (length w) (r.sp + 2) k, two_one, dry1, plus0, stays h 1)

  -- a word of a record that is found
  module _ (p : Whose) (rec a : ℕ) (e : reached w r.m p ≡ reaches rec) where
    within : not (inside 1 (length w) (rec + 4 + a)) ≡ leb (length w) (rec + 4 + a)
    within = not_inside (length w) (rec + 4 + a) (omega arith)

    pub is_load : outcome s shared w r (instr (load p a) 0 1 n) ≡ loaded w (floor s) r rec a n
    unfolding outcome asks effect ground_for first_fault loaded pushed
    is_load = rw (fits, none_one, e, within)

    pub is_address : outcome s shared w r (instr (address p a) 0 1 n) ≡ addressed w (floor s) r rec a n
    unfolding outcome asks effect ground_for first_fault addressed pushed
    is_address = rw (fits, none_one, e, within)

    pub is_store : r.sp + 1 ≤ length w → outcome s shared w r (instr (store p a) 1 0 n) ≡ stored w r rec a n
    unfolding outcome asks effect ground_for first_fault stored
    is_store k = rw (le-ltb (length w) (r.sp + 1) k, one_none, e, within, dry1, plus0, stays h 1)

  -- a bad link
  module _ (p : Whose) (a : ℕ) (e : reached w r.m p ≡ broken) where
    pub no_load : outcome s shared w r (instr (load p a) 0 1 n) ≡ fault 9
    unfolding outcome asks effect ground_for first_fault
    no_load = rw (fits, e)

    pub no_address : outcome s shared w r (instr (address p a) 0 1 n) ≡ fault 9
    unfolding outcome asks effect ground_for first_fault
    no_address = rw (fits, e)

    pub no_store : r.sp + 1 ≤ length w → outcome s shared w r (instr (store p a) 1 0 n) ≡ fault 9
    unfolding outcome asks effect ground_for first_fault
    no_store k = rw (le-ltb (length w) (r.sp + 1) k, e)

    pub no_call : outcome s shared w r (instr (call p a) 0 0 n) ≡ fault 9
    unfolding outcome asks effect ground_for first_fault
    no_call = rw (fits, e)

  pub is_pool : (b : ℕ) → outcome s shared w r (instr (pool_offset b) 0 1 n) ≡ pooled (words s) (pool s) (floor s) r n b
  unfolding outcome asks effect ground_for first_fault pooled pushed
  is_pool b = go _ refl
    where
      go : (x : Bool) → eqb (pool s) 0 ≡ x → outcome s shared w r (instr (pool_offset b) 0 1 n) ≡ pooled (words s) (pool s) (floor s) r n b
      go true e = rw (fits, none_one, e)
      go false e = rw (fits, none_one, e)

  pub is_indirect : r.sp + 2 ≤ length w → outcome s shared w r (instr indirect 2 0 n) ≡ stored_at w r n
  unfolding outcome asks effect ground_for first_fault stored_at
  is_indirect k = go _ refl
    where
      go : (x : Bool) → ltb (get_or w (r.sp + 1) 0) 1 ≡ x → outcome s shared w r (instr indirect 2 0 n) ≡ stored_at w r n
      go true e = rw (le-ltb (length w) (r.sp + 2) k, e, no_private (length w) (get_or w (r.sp + 1) 0) e)
      go false e =
          rw (
            le-ltb (length w) (r.sp + 2) k,
            e,
            not_inside (length w) (get_or w (r.sp + 1) 0) (ltb-false _ _ e),
            two_none,
            dry2,
            plus0,
            stays h 2,
          )

  pub is_subrange : r.sp + 3 ≤ length w → outcome s shared w r (instr subrange 3 1 n) ≡ checked w r n
  unfolding outcome asks effect ground_for first_fault checked
  is_subrange k = go _ refl _ refl
    where
      go : (x : Bool) → eqb (leq_of (get_or w (r.sp + 1) 0) (get_or w (r.sp + 2) 0)) 1 ≡ x
          → (y : Bool) → eqb (leq_of (get_or w (r.sp + 2) 0) (get_or w r.sp 0)) 1 ≡ y → outcome s shared w r (instr subrange 3 1 n) ≡ checked w r n
      go true e true f = rw (le-ltb (length w) (r.sp + 3) k, plus0, e, f, three_one, dry2, stays h 2)
      go true e false f = rw (le-ltb (length w) (r.sp + 3) k, plus0, e, f)
      go false e y f = rw (le-ltb (length w) (r.sp + 3) k, plus0, e)

  pub is_jump : (d : ℕ) → outcome s shared w r (instr (jump d) 0 0 n) ≡ jumped (length s) r r.sp n d
  unfolding outcome asks effect ground_for first_fault
  is_jump d = go _ refl
    where
      go : (b : Bool) → inside 22 (length s) (target n d) ≡ b → outcome s shared w r (instr (jump d) 0 0 n) ≡ jumped (length s) r r.sp n d
      go true e = rw (fits, jumped_is (length s) r r.sp n d, e, none_none, dry, min-eq_left h.lowest_high)
      go false e = rw (fits, jumped_is (length s) r r.sp n d, e)

  pub is_branch : (want d : ℕ) → r.sp + 1 ≤ length w → outcome s shared w r (instr (jump_if want d) 1 0 n) ≡ branched w (length s) r want n d
  unfolding outcome asks effect ground_for first_fault branched
  is_branch want d k = go _ refl _ refl
    where
      go : (x : Bool) → eqb (get_or w r.sp 0 % 2) want ≡ x → (b : Bool) → inside 22 (length s) (target n d) ≡ b
          → outcome s shared w r (instr (jump_if want d) 1 0 n) ≡ branched w (length s) r want n d
      go false q b e = rw (le-ltb (length w) (r.sp + 1) k, plus0, q, one_none, dry1, stays h 1)
      go true q false e = rw (le-ltb (length w) (r.sp + 1) k, plus0, q, jumped_is (length s) r (r.sp + 1) n d, e)
      go true q true e = rw (le-ltb (length w) (r.sp + 1) k, plus0, q, jumped_is (length s) r (r.sp + 1) n d, e, one_none, dry1, stays h 1)

  pub is_index : (i : ℕ) → length shared ≤ 32768 → r.sp + 1 ≤ length w
      → outcome s shared w r (instr (index i) 1 1 n) ≡ gives r n (read_at w shared (get_or w r.sp 0) i)
  unfolding outcome asks effect ground_for first_fault gives
  is_index i g k = go _ refl
    where
      go : (b : Bool) → readable w shared (get_or w r.sp 0) i ≡ b
          → outcome s shared w r (instr (index i) 1 1 n) ≡ gives r n (read_at w shared (get_or w r.sp 0) i)
      go true e = rw (le-ltb (length w) (r.sp + 1) k, plus0, read_is w shared (get_or w r.sp 0) i small g, e, one_one, dry, min-eq_left h.lowest_high)
      go false e = rw (le-ltb (length w) (r.sp + 1) k, plus0, read_is w shared (get_or w r.sp 0) i small g, e)

  pub is_call : (p : Whose) (rec k : ℕ) → reached w r.m p ≡ reaches rec
      → outcome s shared w r (instr (call p k) 0 0 n) ≡ called r k rec n (entered s r.sp k)
  unfolding outcome asks effect ground_for first_fault called entered inside
  is_call p rec k e = go _ refl _ refl _ refl _ refl
    where
      go : (x : Bool) → ltb k 1 ≡ x → (y : Bool) → ltb (count s) k ≡ y → (u : Bool) → linked s k ≡ u → (z : Bool) → ltb r.sp (floor s + 5 + datasize s k) ≡ z
          → outcome s shared w r (instr (call p k) 0 0 n) ≡ called r k rec n (entered s r.sp k)
      go true d y f u v z g = rw (fits, e, d, lt-leb 1 k (ltb-true k 1 d))
      go false d true f u v z g =
          rw (fits, e, d, f, le-leb 1 k (ltb-false k 1 d), below_suc k (count s), lt-leb k (count s) (ltb-true (count s) k f))
      go false d false f false v z g =
          rw (fits, e, d, f, v, le-leb 1 k (ltb-false k 1 d), below_suc k (count s), le-leb k (count s) (ltb-false (count s) k f))
      go false d false f true v true g =
          let a = ltb-true r.sp (floor s + 5 + datasize s k) g in
          rw (
            fits,
            e,
            d,
            f,
            v,
            le-leb 1 k (ltb-false k 1 d),
            below_suc k (count s),
            le-leb k (count s) (ltb-false (count s) k f),
            none_none,
            g,
            lt-ltb (new_record s r.sp k) (floor s) (omega arith),
          )
      go false d false f true v false g =
          let a = ltb-false r.sp (floor s + 5 + datasize s k) g in
          rw (
            fits,
            e,
            d,
            f,
            v,
            le-leb 1 k (ltb-false k 1 d),
            below_suc k (count s),
            le-leb k (count s) (ltb-false (count s) k f),
            none_none,
            g,
            le-ltb (new_record s r.sp k) (floor s) (omega arith),
          )

  in_order_lem : (mark : List ℕ) (sp : ℕ) → in_order (length s) (length w) (count s) (floor s) mark sp ≡ resumes s w mark sp
  unfolding in_order resumes
  in_order_lem mark sp = refl

  pub is_return : (b : ℕ) → outcome s shared w r (instr (return b) 0 0 n) ≡ returned (length s) (count s) (floor s) w r b
  unfolding outcome asks effect ground_for first_fault returned
  is_return b = go _ refl _ refl
    where
      go : (x : Bool) → eqb r.m 1 ≡ x → (y : Bool) → resumes s w (mark_at w r.m) (r.m + 5 + b) ≡ y
          → outcome s shared w r (instr (return b) 0 0 n) ≡ returned (length s) (count s) (floor s) w r b
      go true d y e = rw (fits, d)
      go false d true e =
          rw (
            fits,
            d,
            in_order_lem (mark_at w r.m) (r.m + 5 + b),
            e,
            none_none,
            le-ltb (r.m + 5 + b) (floor s) (resumed s w (mark_at w r.m) (r.m + 5 + b) e).sp_low,
          )
      go false d false e = rw (fits, d, in_order_lem (mark_at w r.m) (r.m + 5 + b), e)
