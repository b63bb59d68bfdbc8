-- Bytes at the counter, the instruction that they hold, and one step of it where no check fails.
-- Above: Cases, Calls, Arithmetic; below: Decoding, Step, Judged's order of checks, Frame.
use Prim.Native.Nat.{ℕ, suc, ◌+◌, ◌-◌, ◌*◌, ◌≤◌, ◌<◌}
use native.Mathlib.Omega.{arith}
use native.Mathlib.Nat.{add-suc}
use mathlib.Core.Path.{◌≡◌, refl, ap, ◌∙◌}
use mathlib.Core.List.{List, [], ◌∷◌}
use mathlib.Core.Bool.{Bool, true, false}
use lib.Dec.{ltb, eqb}
use lib.ListN.{length, get_or, take, drop, length-take, length-drop}
use lib.Seq.{drop-cons}
use borrow.Author.Tests.{lt-ltb, le-ltb, le-leb}
use Rattle.basis.proofs.Bools.{inside_holds, cond_holds}
use Rattle.operand.specs.Bytes.{byte_at}
use Rattle.operand.specs.Operand.{Form, UB, SB, DB, B, W, if_there, signed, fetched}
use Rattle.pmachine.specs.State.{Registers, State}
use Rattle.pmachine.specs.Meaning.{Meaning}
use Rattle.pmachine.specs.Opcode.{carried, opcode}
use Rattle.pmachine.specs.Decoding.{all, joined, and_then, operands, lawful, all_lawful, Instruction, instruction, decoded_with, row_decoded, decode}
use Rattle.pmachine.specs.Step.{Outcome, goes, floor, Ground, ◌when◌, ground_for, first_fault, order, below, asks, effect, outcome, judged_by, judge, lowered, lowering}
use Rattle.pmachine.specs.Run.{is_ready, written, step, run}
use Rattle.demands.specs.Cases.{at_work}
use Rattle.pmachine.proofs.Frame.{step_goes}
use Rattle.pmachine.proofs.Runs.{run_none, run_suc}

-- ---- bytes that stand one after another

pub record Byte (s : List ℕ) (c b : ℕ) : Type 0 where
  pub low : 22 ≤ c
  pub high : c < length s
  pub is : byte_at s c ≡ b

-- those from the i-th after c on
abbrev pub From : List ℕ → ℕ → ℕ → List ℕ → Type 0
From s c i [] = Unit {0}
From s c i (b ∷ bs) = Byte s (c + i) b × From s c (suc i) bs

from_there : (s bs : List ℕ) (c i : ℕ) → 22 ≤ c → take (length bs) (drop (c + i) s) ≡ bs → From s c i bs
from_there s [] c i low e = tt
from_there s (b ∷ bs) c i low e =
    let high : c + i < length s = omega (arith, simp (length-take, length-drop) at (ap length e)) in
    let f : get_or s (c + i) 0 ∷ take (length bs) (drop (suc (c + i)) s) ≡ b ∷ bs = rw (drop-cons s (c + i) 0 high) at e in
    let rest : take (length bs) (drop (c + suc i) s) ≡ bs = rw (add-suc c i) (cc) in
    (record { low = omega arith; high = high; is = cc }, from_there s bs c (suc i) low rest)

pub coded : (s : List ℕ) (b : ℕ) (bs : List ℕ) (c : ℕ) → 22 ≤ c → take (length (b ∷ bs)) (drop c s) ≡ b ∷ bs → Byte s c b × From s c 1 bs
coded s b bs c low e =
    let z : c + 0 ≡ c = omega arith in
    let h = from_there s (b ∷ bs) c 0 low (rw z e) in
    (rw z at h.0, h.1)

-- ---- the operands at a byte, and the byte after them

pub record Reads (s : List ℕ) (forms : List Form) (at : ℕ) (vs : List ℕ) (next : ℕ) : Type 0 where
  pub fetches : operands forms s at ≡ all vs next
  pub allowed : all_lawful forms vs ≡ true

module _ {s : List ℕ} where
  pub no_operand : {at : ℕ} → Reads s [] at [] at
  unfolding operands all_lawful
  no_operand = record { fetches = refl; allowed = refl }

  module _ {c x : ℕ} {n : ℕ} (h : Byte s c x) (e : c + 1 ≡ n) where
    pub one-UB : Reads s (UB ∷ []) c (x ∷ []) n
    unfolding operands and_then joined fetched if_there all_lawful lawful
    one-UB = record { fetches = rw (lt-ltb c (length s) h.high, h.is, e); allowed = refl }

    pub one-SB : Reads s (SB ∷ []) c (signed x ∷ []) n
    unfolding operands and_then joined fetched if_there all_lawful lawful
    one-SB = record { fetches = rw (lt-ltb c (length s) h.high, h.is, e); allowed = refl }

    pub one-B : x ≤ 127 → Reads s (B ∷ []) c (x ∷ []) n
    unfolding operands and_then joined fetched if_there all_lawful lawful
    one-B few = record { fetches = rw (lt-ltb c (length s) h.high, h.is, lt-ltb x 128 (omega arith), e); allowed = refl }

    pub then-UB : {y m : ℕ} → x ≤ 127 → Byte s n y → n + 1 ≡ m → Reads s (DB ∷ UB ∷ []) c (x ∷ y ∷ []) m
    unfolding operands and_then joined fetched if_there all_lawful lawful
    then-UB few k f =
        record { fetches = rw (lt-ltb c (length s) h.high, h.is, e, lt-ltb n (length s) k.high, k.is, f); allowed = rw (le-leb x 127 few) }

    pub one-W : {y m : ℕ} → Byte s n y → c + 2 ≡ m → Reads s (W ∷ []) c ((x + 256 * y) ∷ []) m
    unfolding operands and_then joined fetched if_there all_lawful lawful
    one-W k f = record { fetches = rw (lt-ltb c (length s) h.high, h.is, e, lt-ltb n (length s) k.high, k.is, f); allowed = refl }

-- ---- one step

abbrev pub inst : Meaning → ℕ → ℕ → ℕ → Instruction
inst m t g n = record { does = m; taken = t; given = g; next = n }

pub decoded : {s vs : List ℕ} {c b at t g n : ℕ} {forms : List Form} {does : List ℕ → Meaning} → Byte s c b → opcode b ≡ carried forms t g does
    → Reads s forms at vs n → c + 1 ≡ at → decode s c ≡ instruction (inst (does vs) t g n)
unfolding decode row_decoded decoded_with
decoded {s} {c = c} h e o k = rw (inside_holds 22 (length s) c h.low h.high, h.is, e, k, o.fetches, o.allowed)

-- none of these fails
abbrev pub Fine : List Ground → Type 0
Fine [] = Unit {0}
Fine (k when b ∷ checks) = (b ≡ false) × Fine checks

fine_ground : (n : ℕ) (checks : List Ground) → Fine checks → ground_for n checks ≡ false
unfolding ground_for
fine_ground n [] f = refl
fine_ground n (k when b ∷ checks) f = cond_holds (λ (x : Bool). x ≡ false) (eqb n k) (λ _. f.0) (λ _. fine_ground n checks f.1)

fine_goes : (checks : List Ground) (o : Outcome) → Fine checks → first_fault order checks o ≡ o
unfolding first_fault
fine_goes l o f = let g : (n : ℕ) → ground_for n l ≡ false = λ n. fine_ground n l f in simp g

module _ (s shared w : List ℕ) (r : Registers) where
  abbrev pub checks_at : Meaning → ℕ → ℕ → ℕ → List Ground
  checks_at m t n sp = 3 when ltb (length w) (r.sp + t) ∷ 4 when below (floor s) (effect s shared w r sp n m) ∷ asks s shared w r n m

  -- what is judged, with SP after the words taken and given
  pub judged_at : {m : Meaning} {t g n sp : ℕ} → decode s r.counter ≡ instruction (inst m t g n) → r.sp + t - g ≡ sp
      → judge s shared w r ≡ first_fault order (checks_at m t n sp) (lowering (effect s shared w r sp n m))
  unfolding judge judged_by outcome
  judged_at d e = rw (d, e)

  -- a step at which no check fails
  pub goes_on : {m : Meaning} {t g : ℕ} (sp n : ℕ) → decode s r.counter ≡ instruction (inst m t g n) → r.sp + t - g ≡ sp → r.sp + t ≤ length w
      → Fine (asks s shared w r n m) → {q : Registers} {at : ℕ} {ws : List ℕ} → effect s shared w r sp n m ≡ goes q at ws → floor s ≤ q.sp
      → step s shared (at_work w r) ≡ at_work (written w at ws) (lowered q)
  unfolding is_ready
  goes_on {m} {t} sp n d e some fine {q} h low =
      let room : below (floor s) (effect s shared w r sp n m) ≡ false = ap (below (floor s)) h ∙ le-ltb q.sp (floor s) low in
      step_goes s shared (at_work w r) refl
      (judged_at d e ∙ fine_goes (checks_at m t n sp) _ (le-ltb (length w) (r.sp + t) some, (room, fine)) ∙ ap lowering h)

-- ---- steps together

module _ (s shared : List ℕ) (t : State) {u : State} (e : step s shared t ≡ u) where
  -- a first step, and k more
  pub more : (k : ℕ) {v : State} → run s shared k u ≡ v → run s shared (suc k) t ≡ v
  more k f = run_suc s shared k t ∙ ap (run s shared k) e ∙ f

  pub last : run s shared 1 t ≡ u
  last = more 0 (run_none s shared u)
