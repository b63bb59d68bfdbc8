-- The steps of `read`: from what the operands were fetched as to what stands there.
-- Above: the proofs of `read` and `by_row`; below: Rows and the definitions. Assumes nothing.
use Prim.Native.Nat.{ℕ, ◌+◌, ◌/◌, ◌%◌, ◌≤◌, ◌<◌}
use native.Mathlib.Omega.{arith}
use mathlib.Core.Path.{◌≡◌, refl}
use mathlib.Core.Bool.{Bool, true}
use mathlib.Core.List.{List, [], ◌∷◌}
use lib.Dec.{ltb}
use lib.ListN.{length, drop}
use Rattle.std.specs.Prelude.{Result, Ok, Err}
use borrow.Author.Tests.{ltb-true, ltb-false, lt-ltb, le-ltb}
use Rattle.basis.proofs.Bools.{cond_holds}
use Rattle.operand.specs.Bytes.{byte_at}
use Rattle.operand.specs.declared.Operand.{Operand}
use Rattle.operand.specs.declared.Missing.{Missing}
use Rattle.operand.specs.Operand.{Form, Fetched, got, out, if_there, fetched, fetched_of, operand_value, form_at}
use Rattle.pmachine.specs.Opcode.{Row, is_carried, forms_of, taken_of, given_of, opcode}
use Rattle.pmachine.specs.Decoding.{Operands, joined, and_then, operands}
use Rattle.instruction.specs.declared.Instruction.{Instruction}
use Rattle.instruction.specs.Standing.{cut_of, with_operands, by_row, standing}
use Rattle.instruction.specs.Parts.{by_digit, after}
use Rattle.instruction.proofs.Rows.{digit_of, Tells, leading, by_digit_lem}

-- ---- the operands

-- what is answered, by what was fetched last
abbrev pub shown : ℕ → Bool → ℕ → ℕ → ℕ → ℕ → Fetched → Instruction
shown first known taken given x y (got v next) =
    record { first = first; carried = known; whole = true; x = x; y = y; z = v; taken = taken; given = given; next = next }
shown first known taken given x y (out place) = cut_of first known place

abbrev pub value_of : Fetched → ℕ
value_of (got v next) = v
value_of (out place) = 0

pub value_is : (o : Result Operand Missing) → operand_value o ≡ value_of (fetched_of o)
value_is (Ok o) = refl
value_is (Err m) = refl

-- the operand of the first of these forms, after another
abbrev following : List ℕ → Fetched → List Form → Fetched
following s (got v next) forms = leading forms s next
following s (out place) forms = out place

after_is : (s : List ℕ) (o : Fetched) (forms : List Form) → after o (digit_of forms) s ≡ following s o forms
unfolding after
after_is s (got v next) forms = by_digit_lem forms s next
after_is s (out place) forms = refl

module _ (first : ℕ) (known : Bool) (taken given : ℕ) (s : List ℕ) where
  -- x, y and z as they were fetched show these operands
  abbrev Shows : Fetched → Fetched → Fetched → Operands → Type 0
  Shows x y z o = shown first known taken given (value_of x) (value_of y) z ≡ with_operands first known taken given o

  module _ (v u n m : ℕ) where
    third : (z : Fetched) → Shows (got v n) (got u m) z (joined v (joined u (and_then z (operands [] s))))
    unfolding with_operands joined and_then operands
    third (got w next) = refl
    third (out place) = refl

  module _ (v n : ℕ) where
    second : (forms : List Form) → length forms ≤ 1 → (y : Fetched) → Shows (got v n) y (following s y forms) (joined v (and_then y (operands forms s)))
    unfolding with_operands joined and_then operands leading
    second [] h (got u m) = refl
    second (k ∷ []) h (got u m) = third v u n m (fetched k s m)
    second (k ∷ (l ∷ forms)) h y = let z : ⊥ = omega arith in absurd z
    second [] h (out place) = refl
    second (k ∷ []) h (out place) = refl

  begun : (forms : List Form) → length forms ≤ 2 → (x : Fetched)
      → Shows x (following s x forms) (following s (following s x forms) (drop 1 forms)) (and_then x (operands forms s))
  unfolding with_operands joined and_then operands leading
  begun [] h (got v n) = refl
  begun (g ∷ forms) h (got v n) = second v n forms (omega arith) (fetched g s n)
  begun [] h (out place) = refl
  begun (g ∷ forms) h (out place) = refl

  all_shown : (at : ℕ) (forms : List Form) → length forms ≤ 3
      → Shows (leading forms s at) (following s (leading forms s at) (drop 1 forms))
      (following s (following s (leading forms s at) (drop 1 forms)) (drop 2 forms)) (operands forms s at)
  unfolding with_operands operands leading
  all_shown at [] h = refl
  all_shown at (f ∷ forms) h = begun forms (omega arith) (fetched f s at)

pub stands_by : (row : Row) (n first : ℕ) (s : List ℕ) (at : ℕ) (x y z : Fetched) → Tells row n → x ≡ by_digit (n / 65536 % 8) s at
    → y ≡ after x (n / 524288 % 8) s → z ≡ after y (n / 4194304 % 8) s
    → shown first (ltb n 2147483648) (n % 256) (n / 256 % 256) (value_of x) (value_of y) z ≡ by_row first row s at
unfolding by_row
stands_by row n first s at x y z t p q r =
    let fs = forms_of row in
    let a : x ≡ leading fs s at = rw (p, t.first, by_digit_lem fs s at) in
    let b : y ≡ following s x (drop 1 fs) = rw (q, t.second, after_is s x (drop 1 fs)) in
    let c : z ≡ following s y (drop 2 fs) = rw (r, t.third, after_is s y (drop 2 fs)) in
    rw (c, b, a, t.known, t.taken, t.given) (all_shown first (is_carried row) (taken_of row) (given_of row) s at fs t.few)

-- ---- the first byte

-- read as UB it is there, and the operands begin after it
pub byte_there : (s : List ℕ) (at v next : ℕ) → got v next ≡ fetched (form_at 1) s at → (at < length s) × (v ≡ byte_at s at) × (next ≡ at + 1)
unfolding fetched form_at if_there
byte_there s at v next =
    cond_holds (λ o. got v next ≡ o → (at < length s) × (v ≡ byte_at s at) × (next ≡ at + 1)) (ltb at (length s))
    (λ e (h : got v next ≡ got (byte_at s at) (at + 1)). (ltb-true at (length s) e, cc, cc))
    (λ e (h : got v next ≡ out at). let z : ◌≡◌ {A = ℕ} 0 1 = cc in let f : ⊥ = omega arith in absurd f)

pub byte_missing : (s : List ℕ) (at place : ℕ) → out place ≡ fetched (form_at 1) s at → (length s ≤ at) × (place ≡ at)
unfolding fetched form_at if_there
byte_missing s at place =
    cond_holds (λ o. out place ≡ o → (length s ≤ at) × (place ≡ at)) (ltb at (length s))
    (λ e (h : out place ≡ got (byte_at s at) (at + 1)). let z : ◌≡◌ {A = ℕ} 0 1 = cc in let f : ⊥ = omega arith in absurd f)
    (λ e (h : out place ≡ out at). (ltb-false at (length s) e, cc))

pub stands_in : (s : List ℕ) (at : ℕ) → at < length s → by_row (byte_at s at) (opcode (byte_at s at)) s (at + 1) ≡ standing s at
unfolding standing
stands_in s at h = rw (lt-ltb at (length s) h)

pub stands_out : (s : List ℕ) (at : ℕ) → length s ≤ at → cut_of 0 true at ≡ standing s at
unfolding standing
stands_out s at h = rw (le-ltb at (length s) h)
