-- The rows of arithmetic, comparison and bits, each from its bytes: what the operation leaves after SLDC x, or after SLDC x and SLDC y, with x and y to 31.
-- None of the functions that the rows cite stands here. Proved by `arithmetic` of proofs/Arithmetic. Above: nothing; below: Cases.
use Rattle.std.specs.Prelude.{ℕ, ◌+◌, ◌-◌, ◌≤◌, ◌≡◌, List, [], ◌∷◌, Bool, cond, not, set, leb, eqb, pos, neg_ℤ, ◌+ℤ◌, ◌-ℤ◌, ◌*ℤ◌}
use Rattle.std.specs.Int.Bits.{bit_and, bit_or}
use Rattle.std.specs.Int.Signed.{quot_z, rem_z, le_z}
use Rattle.basis.specs.Integer.{word_of}
use Rattle.pmachine.specs.State.{Registers}
use Rattle.pmachine.specs.Step.{floor, moved}
use Rattle.pmachine.specs.Run.{run}
use Rattle.demands.specs.Cases.{at_work, down_to, At}

-- the byte makes this word of TOS-1 = x and TOS = y
abbrev pub OfTwo : ℕ → ℕ → ℕ → ℕ → Type 0
OfTwo byte x y word =
    (s shared w : List ℕ) (r : Registers) → At s shared w r (x ∷ y ∷ byte ∷ []) 0 → floor s + 2 ≤ r.sp
    → run s shared 3 (at_work w r) ≡ at_work (set (set w (r.sp - 2) y) (r.sp - 1) word) (down_to (r.sp - 2) (moved r (r.sp - 1) (r.counter + 3)))

-- and this one of TOS = x
abbrev pub OfOne : ℕ → ℕ → ℕ → Type 0
OfOne byte x word =
    (s shared w : List ℕ) (r : Registers) → At s shared w r (x ∷ byte ∷ []) 0 → floor s + 1 ≤ r.sp
    → run s shared 2 (at_work w r) ≡ at_work (set w (r.sp - 1) word) (down_to (r.sp - 1) (moved r (r.sp - 1) (r.counter + 2)))

-- "Comparisons push 1 or 0."
abbrev pub bit : Bool → ℕ
bit b = cond b 1 0

pub record Leaves (x y : ℕ) : Type 0 where
  pub ADI : OfTwo 162 x y (word_of 16 (pos x +ℤ pos y))  -- "Add TOS into TOS-1."
  pub SBI : OfTwo 163 x y (word_of 16 (pos x -ℤ pos y))  -- "Subtract TOS from TOS-1."
  pub MPI : OfTwo 140 x y (word_of 16 (pos x *ℤ pos y))  -- "Multiply TOS by TOS-1."
  pub DVI : (y ≡ 0 → ⊥) → OfTwo 141 x y (word_of 16 (quot_z (pos x) (pos y)))  -- "Divide TOS-1 by TOS and push quotient."
  pub MODI : (y ≡ 0 → ⊥) → OfTwo 143 x y (word_of 16 (rem_z (pos x) (pos y)))  -- "Divide TOS-1 by TOS and push the remainder."
  pub EQUI : OfTwo 176 x y (bit (eqb x y))  -- "TOS-1 = TOS"
  pub NEQI : OfTwo 177 x y (bit (not (eqb x y)))  -- "TOS-1 <> TOS"
  pub LEQI : OfTwo 178 x y (bit (le_z (pos x) (pos y)))  -- "TOS-1 <= TOS"
  pub GEQI : OfTwo 179 x y (bit (le_z (pos y) (pos x)))  -- "TOS-1 >= TOS"
  pub LEUSW : OfTwo 180 x y (bit (leb x y))  -- "unsigned comparison TOS-1 <= TOS"
  pub GEUSW : OfTwo 181 x y (bit (leb y x))  -- "unsigned comparison TOS-1 > = TOS"
  pub LAND : OfTwo 161 x y (bit_and x y)  -- "AND TOS into TOS-1."
  pub LOR : OfTwo 160 x y (bit_or x y)  -- "OR TOS into TOS-1."
  pub ABI : OfOne 224 x x  -- "Take absolute value of integer TOS."
  pub NGI : OfOne 225 x (word_of 16 (neg_ℤ (pos x)))  -- "Take the two's complement of TOS."
  pub LNOT : OfOne 229 x (65535 - x)  -- "Take one's complement of TOS."
  pub INCI : OfOne 237 x (x + 1)  -- "Add 1 to TOS."
  pub DECI : OfOne 238 x (word_of 16 (pos x -ℤ pos 1))  -- "Subtract 1 from TOS."

-- for every x and y that SLDC pushes
abbrev pub Arithmetic : Type 0
Arithmetic = (x y : ℕ) → x ≤ 31 → y ≤ 31 → Leaves x y
