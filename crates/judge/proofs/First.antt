-- What the first byte's answer comes to: fault 1, or the rest of the instruction, whose operands begin inside the segment.
-- Above: the proofs of `decode` and `judge`; below: the decoder of `pmachine`.
use Prim.Native.Nat.{ℕ, ◌+◌, ◌<◌, ◌≤◌}
use mathlib.Core.Path.{◌≡◌, refl, sym, ◌∙◌, ap, subst}
use mathlib.Core.Bool.{Bool, true, false, cond}
use mathlib.Core.List.{List}
use lib.Dec.{leb, ltb}
use lib.ListN.{length}
use borrow.Author.Tests.{ltb-true, le-leb, le-ltb, lt-ltb}
use Rattle.basis.specs.Bools.{inside}
use Rattle.basis.proofs.Bools.{cond_holds, and_snd}
use Rattle.operand.specs.Bytes.{byte_at}
use Rattle.pmachine.specs.Opcode.{opcode}
use Rattle.pmachine.specs.Decoding.{decode, faulty, row_decoded}
use Rattle.pmachine.specs.Step.{Outcome, judged_by, judge}
use Rattle.plan.specs.declared.Regs.{Regs}
use Rattle.plan.specs.declared.Planned.TheVariants.{Bad}
use Rattle.plan.specs.Answer.{regs_of, outcome_of}
use Rattle.plan.proofs.Arms.{bad}
use Rattle.judge.specs.declared.Byte.{Byte}
use Rattle.judge.specs.declared.Byte.TheVariants.{Decoded, Outside}
use Rattle.judge.specs.First.{first_of, rest_of}

module _ (s : List ℕ) (at : ℕ) (low : 22 ≤ at) where
  pub past : length s ≤ at → first_of s at ≡ Outside
  unfolding first_of inside
  past h = simp (le-leb _ _ low, le-ltb _ _ h)

  pub there : at < length s → first_of s at ≡ Decoded (byte_at s at)
  unfolding first_of inside
  there h = simp (le-leb _ _ low, lt-ltb _ _ h)

-- a byte that is decoded lies in the segment
abbrev In : List ℕ → ℕ → Byte → Type 0
In s at (Decoded b) = at < length s
In s at Outside = Unit {0}

pub decoded_in : (s : List ℕ) (at b : ℕ) (d : Byte) → d ≡ first_of s at → d ≡ Decoded b → at < length s
unfolding first_of inside
decoded_in s at b d e p =
    subst (In s at) (sym e ∙ p)
    (cond_holds (In s at) (inside 22 (length s) at) (λ i. ltb-true _ _ (and_snd (leb 22 at) (ltb at (length s)) i)) (λ _. tt))

module _ (s shared w : List ℕ) (q : Regs) (d : Byte) (e : d ≡ first_of s q.counter) where
  rest : judge s shared w (regs_of q) ≡ judged_by s shared w (regs_of q) (rest_of s q.counter d)
  unfolding judge decode first_of rest_of
  rest = ap (judged_by s shared w (regs_of q)) (go (inside 22 (length s) q.counter) ∙ ap (rest_of s q.counter) (sym e))
    where
      go : (b : Bool) → cond b (row_decoded (opcode (byte_at s q.counter)) s (q.counter + 1)) (faulty 1)
          ≡ rest_of s q.counter (cond b (Decoded (byte_at s q.counter)) Outside)
      go true = refl
      go false = refl

  pub stops : d ≡ Outside → outcome_of s q (Bad 1) ≡ judge s shared w (regs_of q)
  unfolding judged_by rest_of
  stops p = bad s q 1 ∙ sym (rest ∙ ap (λ (z : Byte). judged_by s shared w (regs_of q) (rest_of s q.counter z)) p)

  pub goes_on : (b : ℕ) → d ≡ Decoded b → {P : Outcome} → P ≡ judged_by s shared w (regs_of q) (row_decoded (opcode b) s (q.counter + 1)) → P ≡ judge s shared w (regs_of q)
  unfolding rest_of
  goes_on b p x = x ∙ sym (rest ∙ ap (λ (z : Byte). judged_by s shared w (regs_of q) (rest_of s q.counter z)) p)
