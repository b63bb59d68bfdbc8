-- What an arm of the flat match answers is the outcome of its instruction; and the rows of the first bytes that the match tells apart.
-- Above: the flat match of `judge`; below: Meanings, and the opcode table of `pmachine`.
use Prim.Native.Nat.{ℕ, ◌+◌, ◌-◌, ◌<◌, ◌≤◌}
use native.Mathlib.Omega.{arith}
use Rattle.std.specs.Prelude.{Result}
use mathlib.Core.Path.{◌≡◌, refl, ap, sym, ◌∙◌}
use mathlib.Core.List.{List, [], ◌∷◌}
use mathlib.Core.Bool.{Bool, true, false, ◌||◌, not, cond, false≢true}
use lib.Dec.{ltb, leb, eqb}
use lib.ListN.{length, get_or}
use borrow.Author.Tests.{le-leb, lt-leb, ne_eqb, ltb-true, ltb-false}
use Rattle.segment.specs.Head.{words}
use Rattle.pmachine.specs.State.{Registers}
use Rattle.pmachine.specs.Meaning.{Whose, globals, up, Meaning, constant, pool_offset, constants, load, address, store, index, indirect, unary, binary, division}
use Rattle.pmachine.specs.Meaning.{duplicate, swap, nothing, subrange, jump, jump_if, case_jump, call, return}
use Rattle.pmachine.specs.Opcode.{Row, carried, is_carried, opcode, row_in, appendix_b}
use Rattle.pmachine.specs.Decoding.{row_decoded}
use Rattle.pmachine.specs.Step.{Outcome, fault, goes, floor, moved, reached, reaches, broken, outcome, judged_by}
use Rattle.pmachine.specs.Sound.{Ranged}
use Rattle.pmachine.proofs.Rows.{numbers, at_number}
use Rattle.plan.specs.declared.Regs.{Regs}
use Rattle.plan.specs.declared.Facts.{Facts}
use Rattle.plan.specs.declared.Planned.TheVariants.{Move, Bad}
use Rattle.plan.specs.declared.Entry.{Entry}
use Rattle.plan.specs.declared.Case.{Case}
use Rattle.plan.specs.Answer.{regs_of, outcome_of}
use Rattle.plan.specs.Mirror.{lack, pushed, swapped, one, two, gives, divided, checked, loaded, addressed, stored, read_at, stored_at, pooled}
use Rattle.plan.specs.Mirror.{words_at, sex_by, blocked, case_at, chosen}
use Rattle.plan.specs.Mirror.{jumped, branched, entered, called, returned}
use Rattle.plan.specs.Told.{Ready}
use Rattle.plan.proofs.Meanings.{instr, few_words, is_constant, is_duplicate, is_nothing, is_swap, is_unary, is_binary, is_division, is_load}
use Rattle.plan.proofs.Meanings.{is_address, is_store, no_load, no_address, no_store, no_call, is_pool, is_indirect, is_subrange, is_jump}
use Rattle.plan.proofs.Meanings.{is_branch, is_index, is_call, is_return}
use Rattle.plan.proofs.Pools.{is_constants, is_case}

-- ---- rows

-- the short forms
pub sldc : (b : ℕ) → b < 32 → opcode b ≡ carried [] 0 1 (λ _. constant b)
unfolding opcode row_in appendix_b
sldc b h = rw (le-leb b 31 (omega arith))

pub sldl : (b : ℕ) → 32 ≤ b → b < 48 → opcode b ≡ carried [] 0 1 (λ _. load (up 0) (b - 31))
unfolding opcode row_in appendix_b
sldl b l h = rw (lt-leb b 31 (omega arith), le-leb b 47 (omega arith))

pub sldo : (b : ℕ) → 48 ≤ b → b < 64 → opcode b ≡ carried [] 0 1 (λ _. load globals (b - 47))
unfolding opcode row_in appendix_b
sldo b l h = rw (lt-leb b 31 (omega arith), lt-leb b 47 (omega arith), le-leb b 63 (omega arith))

pub gap_low : (b : ℕ) → 64 ≤ b → b < 96 → is_carried (opcode b) ≡ false
unfolding is_carried opcode row_in appendix_b
gap_low b l h =
    rw (lt-leb b 31 (omega arith), lt-leb b 47 (omega arith), lt-leb b 63 (omega arith), le-leb b 95 (omega arith))

pub slla : (b : ℕ) → 96 ≤ b → b < 104 → opcode b ≡ carried [] 0 1 (λ _. address (up 0) (b - 95))
unfolding opcode row_in appendix_b
slla b l h =
    rw (lt-leb b 31 (omega arith), lt-leb b 47 (omega arith), lt-leb b 63 (omega arith), lt-leb b 95 (omega arith), le-leb b 103 (omega arith))

pub sstl : (b : ℕ) → 104 ≤ b → b < 112 → opcode b ≡ carried [] 1 0 (λ _. store (up 0) (b - 103))
unfolding opcode row_in appendix_b
sstl b l h =
    rw (
      lt-leb b 31 (omega arith),
      lt-leb b 47 (omega arith),
      lt-leb b 63 (omega arith),
      lt-leb b 95 (omega arith),
      lt-leb b 103 (omega arith),
      le-leb b 111 (omega arith),
    )

pub gap_high : (b : ℕ) → 112 ≤ b → b < 120 → is_carried (opcode b) ≡ false
unfolding is_carried opcode row_in appendix_b
gap_high b l h =
    rw (
      lt-leb b 31 (omega arith),
      lt-leb b 47 (omega arith),
      lt-leb b 63 (omega arith),
      lt-leb b 95 (omega arith),
      lt-leb b 103 (omega arith),
      lt-leb b 111 (omega arith),
      le-leb b 119 (omega arith),
    )

pub sind : (b : ℕ) → 120 ≤ b → b < 128 → opcode b ≡ carried [] 1 1 (λ _. index (b - 120))
unfolding opcode row_in appendix_b
sind b l h =
    rw (
      lt-leb b 31 (omega arith),
      lt-leb b 47 (omega arith),
      lt-leb b 63 (omega arith),
      lt-leb b 95 (omega arith),
      lt-leb b 103 (omega arith),
      lt-leb b 111 (omega arith),
      lt-leb b 119 (omega arith),
      le-leb b 127 (omega arith),
    )

-- the other carried bytes, the last first: a match tells them off in that order
unfoldable pub member : ℕ → List ℕ → Bool
member b [] = false
member b (k ∷ ks) = cond (eqb b k) true (member b ks)

unfoldable pub keys : List ℕ
keys =
    214 ∷ 131 ∷ 241 ∷ 240 ∷ 239 ∷ 238 ∷ 237 ∷ 230 ∷ 229 ∷ 226 ∷ 225 ∷ 224 ∷ 213 ∷ 212 ∷ 203 ∷ 196 ∷ 189 ∷ 181 ∷ 180 ∷ 179 ∷ 178 ∷ 177 ∷ 176 ∷ 174 ∷ 173 ∷ 166 ∷ 165
    ∷ 164 ∷ 163 ∷ 162 ∷ 161 ∷ 160 ∷ 156 ∷ 152 ∷ 150 ∷ 146 ∷ 145 ∷ 144 ∷ 143 ∷ 141 ∷ 140 ∷ 139 ∷ 138 ∷ 137 ∷ 136 ∷ 135 ∷ 134 ∷ 133 ∷ 132 ∷ 130 ∷ 129 ∷ 128
    ∷ []

listed : ℕ → Bool
listed b = not (leb 128 b) || not (is_carried (opcode b)) || member b keys

tested : numbers listed 256 ≡ true
unfolding listed opcode row_in appendix_b is_carried keys member
tested = refl

-- a byte that is none of these, as the last arm of a match on single bytes knows it
abbrev pub Others : List ℕ → ℕ → Type 0
Others [] b = Unit {0}
Others (k ∷ ks) b = Others ks b × (b ≡ k → ⊥)

none_of : (ks : List ℕ) (b : ℕ) → Others ks b → member b ks ≡ false
unfolding member
none_of [] b h = refl
none_of (k ∷ ks) b h = rw (ne_eqb b k h.1) (none_of ks b h.0)

pub no_key : (b : ℕ) → b < 256 → 128 ≤ b → Others keys b → is_carried (opcode b) ≡ false
unfolding listed
no_key b h l o = go (is_carried (opcode b)) refl
  where
    go : (x : Bool) → is_carried (opcode b) ≡ x → is_carried (opcode b) ≡ false
    go true p = absurd (false≢true (rw (le-leb 128 b l, p, none_of keys b o) at (at_number listed 256 tested b h)))
    go false p = p

-- what is judged of a byte, from its row, or from the byte that it is
module _ (s shared w : List ℕ) (r : Registers) (at : ℕ) (P : Outcome) where
  pub row : (b : ℕ) (x : Row) → opcode b ≡ x → P ≡ judged_by s shared w r (row_decoded x s at) → P ≡ judged_by s shared w r (row_decoded (opcode b) s at)
  row b x e p = p ∙ sym (ap (λ (z : Row). judged_by s shared w r (row_decoded z s at)) e)

  pub key : (b k : ℕ) → b ≡ k → P ≡ judged_by s shared w r (row_decoded (opcode k) s at) → P ≡ judged_by s shared w r (row_decoded (opcode b) s at)
  key b k e p = p ∙ sym (ap (λ (z : ℕ). judged_by s shared w r (row_decoded (opcode z) s at)) e)

-- ---- what the answers say that are no call's

pub bad : (s : List ℕ) (q : Regs) (n : ℕ) → outcome_of s q (Bad n) ≡ fault n
unfolding outcome_of
bad s q n = refl

pub moves : (s : List ℕ) (q : Regs) (sp n : ℕ) → outcome_of s q (Move sp n) ≡ goes (moved (regs_of q) sp n) sp []
unfolding outcome_of
moves s q sp n = refl

-- ---- the arms

module _ {s shared w : List ℕ} {q : Regs} {f : Facts} (ready : Ready s f shared w q) (n : ℕ) where
  abbrev r : Registers
  r = regs_of q

  -- the outcome of a meaning that takes t words and gives g
  abbrev Is : Meaning → ℕ → ℕ → Outcome → Type 0
  Is m t g X = X ≡ outcome s shared w r (instr m t g n)

  abbrev h : Ranged s (length w) r
  h = ready.ranged

  abbrev small : length w ≤ 32768
  small = ready.small

  abbrev floors : f.floor ≡ floor s
  floors = ready.told.floors

  module _ {P : Outcome} where
    -- with the words that it takes, or too few of them
    taken : (m : Meaning) (k g : ℕ) {X : Outcome} → (r.sp + k ≤ length w → outcome s shared w r (instr m k g n) ≡ X) → P ≡ lack k w r X → Is m k g P
    unfolding lack
    taken m k g {X} is e = go (ltb (length w) (r.sp + k)) refl
      where
        go : (b : Bool) → ltb (length w) (r.sp + k) ≡ b → Is m k g P
        go true q = e ∙ rw q (sym (few_words s shared w r h small n m k g (ltb-true _ _ q)))
        go false q = e ∙ rw q (sym (is (ltb-false _ _ q)))

    pub lacks : (m : Meaning) (k g : ℕ) → P ≡ fault 3 → length w < r.sp + k → Is m k g P
    lacks m k g e q = e ∙ sym (few_words s shared w r h small n m k g q)

    pub con : (v : ℕ) → P ≡ pushed f.floor r n v → Is (constant v) 0 1 P
    con v e = e ∙ (rw floors (sym (is_constant s shared w r h small n v)))

    pub pol : (b : ℕ) → P ≡ pooled (words s) f.pool f.floor r n b → Is (pool_offset b) 0 1 P
    pol b e = e ∙ (rw (floors, ready.told.pools) (sym (is_pool s shared w r h small n b)))

    pub blk : (mode b k : ℕ) {e : Result ℕ ℕ} → P ≡ blocked s (sex_by f.sex mode) r k n e → e ≡ words_at f.pool f.reals f.floor r.sp b k
        → Is (constants mode b k) 0 0 P
    blk mode b k a e =
        a ∙ (rw (e, floors, ready.told.pools, ready.told.reals, ready.told.sexes) (sym (is_constants s shared w r h n mode b k)))

    pub cas : (b : ℕ) → r.sp + 1 ≤ length w → {e : Case} → P ≡ chosen (length s) r n e → e ≡ case_at s (get_or w r.sp 0) b → Is (case_jump b) 1 0 P
    cas b k a e = a ∙ (rw e (sym (is_case s shared w r h n b k)))

    pub bin : (op : ℕ → ℕ → ℕ) → P ≡ lack 2 w r (two r n (op (get_or w (r.sp + 1) 0) (get_or w r.sp 0))) → Is (binary op) 2 1 P
    bin op = taken (binary op) 2 1 (is_binary s shared w r h small n op)

    pub un : (op : ℕ → ℕ) → P ≡ lack 1 w r (one r n (op (get_or w r.sp 0))) → Is (unary op) 1 1 P
    un op = taken (unary op) 1 1 (is_unary s shared w r h small n op)

    pub div : (op : ℕ → ℕ → ℕ) → P ≡ lack 2 w r (divided op r n (get_or w (r.sp + 1) 0) (get_or w r.sp 0)) → Is (division op) 2 1 P
    div op = taken (division op) 2 1 (is_division s shared w r h small n op)

    pub dup : P ≡ lack 1 w r (pushed f.floor r n (get_or w r.sp 0)) → Is duplicate 1 2 P
    dup e = taken duplicate 1 2 (is_duplicate s shared w r h small n) (rw floors at e)

    pub swp : P ≡ lack 2 w r (swapped w r n) → Is swap 2 2 P
    swp = taken swap 2 2 (is_swap s shared w r h small n)

    pub nop : P ≡ goes (moved r r.sp n) r.sp [] → Is nothing 0 0 P
    nop e = e ∙ sym (is_nothing s shared w r h small n)

    pub chk : P ≡ lack 3 w r (checked w r n) → Is subrange 3 1 P
    chk = taken subrange 3 1 (is_subrange s shared w r h small n)

    pub sta : P ≡ lack 2 w r (stored_at w r n) → Is indirect 2 0 P
    sta = taken indirect 2 0 (is_indirect s shared w r h small n)

    pub ind : (i : ℕ) → P ≡ lack 1 w r (gives r n (read_at w shared (get_or w r.sp 0) i)) → Is (index i) 1 1 P
    ind i = taken (index i) 1 1 (is_index s shared w r h small n i ready.few)

    -- a word of a record that is found
    module _ (p : Whose) {rec : ℕ} (l : reached w r.m p ≡ reaches rec) (x : ℕ) where
      pub lod : P ≡ loaded w f.floor r rec x n → Is (load p x) 0 1 P
      lod e = e ∙ (rw floors (sym (is_load s shared w r h small n p rec x l)))

      pub adr : P ≡ addressed w f.floor r rec x n → Is (address p x) 0 1 P
      adr e = e ∙ (rw floors (sym (is_address s shared w r h small n p rec x l)))

      pub sto : P ≡ lack 1 w r (stored w r rec x n) → Is (store p x) 1 0 P
      sto = taken (store p x) 1 0 (is_store s shared w r h small n p rec x l)

      pub cal : {e : Result Entry ℕ} → P ≡ called r x rec n e → e ≡ entered s r.sp x → Is (call p x) 0 0 P
      cal a b = a ∙ (rw b (sym (is_call s shared w r h small n p rec x l)))

    -- a bad link
    module _ (p : Whose) (l : reached w r.m p ≡ broken) (x : ℕ) (e : P ≡ fault 9) where
      pub bad_lod : Is (load p x) 0 1 P
      bad_lod = e ∙ sym (no_load s shared w r h small n p x l)

      pub bad_adr : Is (address p x) 0 1 P
      bad_adr = e ∙ sym (no_address s shared w r h small n p x l)

      pub bad_sto : r.sp + 1 ≤ length w → Is (store p x) 1 0 P
      bad_sto k = e ∙ sym (no_store s shared w r h small n p x l k)

      pub bad_cal : Is (call p x) 0 0 P
      bad_cal = e ∙ sym (no_call s shared w r h small n p x l)

    pub jmp : (d : ℕ) → P ≡ jumped (length s) r r.sp n d → Is (jump d) 0 0 P
    jmp d e = e ∙ sym (is_jump s shared w r h small n d)

    pub bra : (want d : ℕ) → r.sp + 1 ≤ length w → P ≡ branched w (length s) r want n d → Is (jump_if want d) 1 0 P
    bra want d k e = e ∙ sym (is_branch s shared w r h small n want d k)

    pub ret : (b : ℕ) → P ≡ returned (length s) f.count f.floor w r b → Is (return b) 0 0 P
    ret b e = e ∙ (rw (floors, ready.told.counts) (sym (is_return s shared w r h small n b)))
