-- What the opcode table says of every first byte alike: few words taken and given, and room for those that the meaning writes on the stack.
-- One test that antt computes over the bytes shows it, and past them nothing is carried. Above: Decoded; below: Opcode.
use Prim.Native.Nat.{ℕ, zero, suc, ◌<◌, ◌≤◌}
use native.Mathlib.Omega.{arith}
use native.Mathlib.Decide.{dec_lt}
use mathlib.Core.Path.{◌≡◌, refl}
use mathlib.Core.List.{List, [], ◌∷◌}
use mathlib.Core.Bool.{Bool, true, false, ◌&&◌}
use lib.Dec.{T, leb, leb→le}
use borrow.Author.Tests.{leb-true, lt-leb}
use Rattle.basis.specs.Bools.{every}
use Rattle.basis.proofs.Bools.{every_holds, and_fst, and_snd}
use Rattle.pmachine.specs.Meaning.{Meaning, constant, pool_offset, constants, load, address, store, index, indirect, unary}
use Rattle.pmachine.specs.Meaning.{binary, division, duplicate, swap, nothing, subrange, jump, jump_if, case_jump, call, return}
use Rattle.pmachine.specs.Opcode.{Row, carried, uncarried, opcode, row_in, appendix_b, consecutive, LinesConsecutive}

-- by what a test says, and by what is decided
pub either_way : {P : Type 0} (b : Bool) → (b ≡ true → P) → (b ≡ false → P) → P
either_way true f g = f refl
either_way false f g = g refl

pub decided : {A P : Type 0} → Dec A → (A → P) → ((A → ⊥) → P) → P
decided (yes a) f g = f a
decided (no n) f g = g n

-- the words that a meaning writes on the stack; those of LDC are as many as its operand says, and are counted apart
unfoldable pub pushes : Meaning → ℕ
pushes (constant v) = 1
pushes (pool_offset b) = 1
pushes (constants mode b n) = 0
pushes (load p x) = 1
pushes (address p x) = 1
pushes (store p x) = 0
pushes (index i) = 1
pushes indirect = 0
pushes (unary f) = 1
pushes (binary f) = 1
pushes (division f) = 1
pushes duplicate = 1
pushes swap = 2
pushes nothing = 0
pushes subrange = 0
pushes (jump d) = 0
pushes (jump_if b d) = 0
pushes (case_jump b) = 0
pushes (call p k) = 0
pushes (return b) = 0

-- of a row, whatever its operands
abbrev pub Roomy : Row → Type 0
Roomy (carried forms taken given does) = (taken ≤ 3) × (given ≤ 2) × ((vs : List ℕ) → pushes (does vs) ≤ given)
Roomy (uncarried forms) = Unit {0}

-- a test that passes at each number below n
abbrev pub numbers : (ℕ → Bool) → ℕ → Bool
numbers f zero = true
numbers f (suc n) = f n && numbers f n

pub at_number : (f : ℕ → Bool) (n : ℕ) → numbers f n ≡ true → (k : ℕ) → k < n → f k ≡ true
at_number f zero t k h = absurd (omega arith)
at_number f (suc n) t k h =
    decided (dec_lt k n)
    (λ l. at_number f n (and_snd (f n) (numbers f n) t) k l)
    (λ l. let e : k ≡ n = omega arith in rw e (and_fst (f n) (numbers f n) t))

abbrev roomy : List ℕ → Row → Bool
roomy vs (carried forms taken given does) = every (leb taken 3 ∷ leb given 2 ∷ leb (pushes (does vs)) given ∷ [])
roomy vs (uncarried forms) = true

roomy_row : (row : Row) → ((vs : List ℕ) → roomy vs row ≡ true) → Roomy row
roomy_row (carried forms taken given does) t =
    let a = every_holds _ (t []) in
    (leb-true _ _ a.0, leb-true _ _ a.1.0, λ vs. leb-true _ _ (every_holds _ (t vs)).1.1.0)
roomy_row (uncarried forms) t = tt

bytes_roomy : (vs : List ℕ) (b : ℕ) → b < 256 → roomy vs (opcode b) ≡ true
unfolding every opcode row_in appendix_b pushes
bytes_roomy vs b h = at_number (λ (k : ℕ). roomy vs (opcode k)) 256 refl b h

-- every number stands in one line
pub lines_consecutive : LinesConsecutive
unfolding consecutive appendix_b
lines_consecutive = refl

-- past the last byte
high : (b : ℕ) → 255 < b → opcode b ≡ uncarried []
unfolding opcode row_in appendix_b
high b h =
    let past : (n : ℕ) → T (leb n 255) → leb b n ≡ false = λ n t. lt-leb b n (omega (arith, leb→le n 255 t)) in
    let u : Unit {0} = tt in
    simp past

pub opcode_roomy : (b : ℕ) → Roomy (opcode b)
opcode_roomy b = decided (dec_lt b 256) (λ h. roomy_row (opcode b) (λ vs. bytes_roomy vs b h)) (λ h. rw (high b (omega arith)) tt)
