-- What an instruction has that was decoded: a first byte in the code, the byte after it in the code too, few words taken and given; and how far a
-- step fetches. Above: Judged, Places, and the decoder's proofs; below: Decoding, Rows, and the operands' law of `operand`.
use Prim.Native.Nat.{ℕ, ◌+◌, ◌<◌, ◌≤◌}
use native.Mathlib.Omega.{arith}
use native.Mathlib.Decide.{dec_lt}
use mathlib.Core.Path.{◌≡◌}
use mathlib.Core.List.{List, [], ◌∷◌}
use mathlib.Core.Bool.{false, cond}
use lib.ListN.{length}
use Rattle.basis.specs.Bools.{inside}
use Rattle.basis.proofs.Bools.{inside_true, inside_holds, cond_holds}
use Rattle.operand.specs.Bytes.{byte_at}
use Rattle.operand.specs.Operand.{Form, Fetched, got, out, fetched}
use Rattle.operand.specs.Reading.{Lies}
use Rattle.operand.proofs.Operands.{reads}
use Rattle.pmachine.specs.Meaning.{Meaning}
use Rattle.pmachine.specs.Opcode.{Row, carried, uncarried, opcode}
use Rattle.pmachine.specs.Decoding.{Operands, all, cut, joined, and_then, operands, all_lawful, Instruction, Decoded, instruction, faulty, decoded_with, row_decoded, decode}
use Rattle.pmachine.specs.Decoding.{comes_to, row_comes_to, fetches_to}
use Rattle.pmachine.proofs.Rows.{either_way, decided, pushes, Roomy, opcode_roomy}

-- ---- the operands end in the code, and if they are cut, the first byte that is missing is the first past the segment's end

abbrev Ends : List ℕ → ℕ → Operands → Type 0
Ends s at (all vs next) = (at ≤ next) × (next ≤ length s)
Ends s at (cut place) = place ≡ length s

joined_ends : (s : List ℕ) (at n v : ℕ) (x : Operands) → at < n → Ends s n x → Ends s at (joined v x)
unfolding joined
joined_ends s at n v (all vs next) h e = (omega (arith, e.0), e.1)
joined_ends s at n v (cut place) h e = e

then_ends : (s : List ℕ) (at : ℕ) (x : Fetched) (rest : ℕ → Operands) → at ≤ length s → Lies s at x → ((n : ℕ) → n ≤ length s → Ends s n (rest n))
    → Ends s at (and_then x rest)
unfolding and_then
then_ends s at (got v n) rest h l f = joined_ends s at n v (rest n) l.0 (f n l.2)
then_ends s at (out place) rest h l f = l.3 h

operands_end : (forms : List Form) (s : List ℕ) (at : ℕ) → at ≤ length s → Ends s at (operands forms s at)
unfolding operands
operands_end [] s at h = (omega arith, h)
operands_end (f ∷ fs) s at h = then_ends s at (fetched f s at) (operands fs s) h (reads f s at) (operands_end fs s)

-- ---- the instruction

pub record Proper (s : List ℕ) (at : ℕ) (i : Instruction) : Type 0 where
  pub first : 22 ≤ at
  pub after : at < i.next
  pub end : i.next ≤ length s
  pub few_taken : i.taken ≤ 3
  pub few_given : i.given ≤ 2
  pub room : pushes i.does ≤ i.given

-- a decoder's answer: such an instruction, or fault 1 or 2
abbrev pub ProperBy : List ℕ → ℕ → Decoded → Type 0
ProperBy s at (instruction i) = Proper s at i
ProperBy s at (faulty n) = (1 ≤ n) × (n ≤ 2)

module _ (s : List ℕ) (at : ℕ) (low : 22 ≤ at) (high : at < length s) where
  with_proper : (forms : List Form) (taken given : ℕ) (does : List ℕ → Meaning) (x : Operands) → Roomy (carried forms taken given does) → Ends s (at + 1) x
      → ProperBy s at (decoded_with forms taken given does x)
  unfolding decoded_with
  with_proper forms taken given does (all vs next) r e =
      cond_holds (ProperBy s at) (all_lawful forms vs)
      (λ _. record { first = low; after = omega (arith, e.0); end = e.1; few_taken = r.0; few_given = r.1; room = r.2 vs })
      (λ _. (omega arith, omega arith))
  with_proper forms taken given does (cut place) r e = (omega arith, omega arith)

  row_proper : (row : Row) → Roomy row → ProperBy s at (row_decoded row s (at + 1))
  unfolding row_decoded
  row_proper (carried forms taken given does) r =
      with_proper forms taken given does (operands forms s (at + 1)) r (operands_end forms s (at + 1) (omega arith))
  row_proper (uncarried forms) r = (omega arith, omega arith)

pub decode_proper : (s : List ℕ) (at : ℕ) → ProperBy s at (decode s at)
unfolding decode
decode_proper s at =
    cond_holds (ProperBy s at) (inside 22 (length s) at)
    (λ e. let h = inside_true 22 (length s) at e in row_proper s at h.0 h.1 (opcode (byte_at s at)) (opcode_roomy (byte_at s at)))
    (λ e. (omega arith, omega arith))

-- ---- how far a step fetches

-- fault 1 is given at the segment's end
abbrev pub CutAt : List ℕ → ℕ → Decoded → Type 0
CutAt s byte (instruction i) = Unit {0}
CutAt s byte (faulty n) = n ≡ 1 → byte ≡ length s

-- of the bytes from `at` on: none past the segment's end is fetched
pub record Reaches (s : List ℕ) (at byte : ℕ) (x : Decoded) : Type 0 where
  pub from : at ≤ byte
  pub to : byte ≤ length s
  pub cut_at : CutAt s byte x

module _ (s : List ℕ) (at : ℕ) (h : at < length s) where
  with_reaches : (forms : List Form) (taken given : ℕ) (does : List ℕ → Meaning) (x : Operands) → Ends s (at + 1) x
      → Reaches s at (comes_to x) (decoded_with forms taken given does x)
  unfolding decoded_with comes_to
  with_reaches forms taken given does (all vs next) e =
      record {
        from = omega (arith, e.0);
        to = e.1;
        cut_at = cond_holds (CutAt s next) (all_lawful forms vs) (λ _. tt) (λ _ (one : 2 ≡ 1). absurd (omega (arith, one)));
      }
  with_reaches forms taken given does (cut place) e = record { from = omega (arith, e); to = omega (arith, e); cut_at = λ _. e }

  row_reaches : (row : Row) → Reaches s at (row_comes_to row s (at + 1)) (row_decoded row s (at + 1))
  unfolding row_decoded row_comes_to
  row_reaches (carried forms taken given does) =
      with_reaches forms taken given does (operands forms s (at + 1)) (operands_end forms s (at + 1) (omega arith))
  row_reaches (uncarried forms) = record { from = omega arith; to = omega arith; cut_at = λ one. absurd (omega (arith, one)) }

module _ (s : List ℕ) (at : ℕ) where
  -- a first byte that is not of the code
  pub outside_stays : inside 22 (length s) at ≡ false → fetches_to s at ≡ at
  unfolding fetches_to
  outside_stays e = rw e

  pub past_outside : length s ≤ at → inside 22 (length s) at ≡ false
  past_outside h =
      either_way (inside 22 (length s) at) (λ e. let f : ⊥ = omega (arith, (inside_true 22 (length s) at e).1) in absurd f) (λ e. e)

  pub reaches : 22 ≤ at → at ≤ length s → Reaches s at (fetches_to s at) (decode s at)
  unfolding decode fetches_to
  reaches low high =
      decided (dec_lt at (length s))
      (λ l. rw (inside_holds 22 (length s) at low l) (row_reaches s at l (opcode (byte_at s at))))
      (λ n. rw (past_outside (omega arith)) (record { from = omega arith; to = high; cut_at = λ _. omega arith }))
