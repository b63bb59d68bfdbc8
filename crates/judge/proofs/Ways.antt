-- The ways through an arm of the flat match: from what its byte's row says, and what the operands were fetched as, to what is judged.
-- Above: the proof of `act`, which applies them; below: Decodes and Arms of `plan`.
use Prim.Native.Nat.{ℕ, ◌<◌, ◌≤◌}
use native.Mathlib.Omega.{arith}
use Rattle.std.specs.Prelude.{Option, Some, Result}
use mathlib.Core.Path.{◌≡◌, sym, ap, ◌∙◌}
use mathlib.Core.List.{List, [], ◌∷◌}
use mathlib.Core.Bool.{true, false}
use Rattle.operand.specs.declared.Operand.{Operand}
use Rattle.operand.specs.declared.Missing.{Missing}
use Rattle.operand.specs.Operand.{Form, UB, DB, got, fetched, fetched_of}
use Rattle.pmachine.specs.Meaning.{Meaning}
use Rattle.pmachine.specs.Opcode.{Row, carried, is_carried, opcode}
use Rattle.pmachine.specs.Decoding.{lawful, row_decoded}
use Rattle.pmachine.specs.Step.{Outcome, follow, outcome, judged_by}
use Rattle.plan.specs.declared.Regs.{Regs}
use Rattle.plan.specs.declared.Facts.{Facts}
use Rattle.plan.specs.declared.Planned.TheVariants.{Bad}
use Rattle.plan.specs.Answer.{regs_of, link_of, outcome_of}
use Rattle.plan.specs.Told.{Ready}
use Rattle.plan.proofs.Meanings.{instr}
use Rattle.plan.proofs.Decodes.{got_as, out_as, none, cut1, got1, cut2, cut3, got3, deep2, got2, came, ran_out_lem, came_high, fetched-DB, no_row, walked_high}
use Rattle.plan.proofs.Arms.{row, bad}

-- of a byte b whose row is that of a key, and whose operands stand at `at`
module _ {s shared w : List ℕ} {q : Regs} {f : Facts} (ready : Ready s f shared w q) (at : ℕ) where
  abbrev pub Says : ℕ → Outcome → Type 0
  Says b P = P ≡ judged_by s shared w (regs_of q) (row_decoded (opcode b) s at)

  says : (b : ℕ) {x : Row} → opcode b ≡ x → {P : Outcome} → P ≡ judged_by s shared w (regs_of q) (row_decoded x s at) → Says b P
  says b {x} e {P} = row s shared w (regs_of q) at P b x e

  -- a byte that is not carried, and one of a range, with no operand
  pub unknown : (b : ℕ) → is_carried (opcode b) ≡ false → Says b (outcome_of s q (Bad 2))
  unknown b e = bad s q 2 ∙ sym (no_row (opcode b) s shared w (regs_of q) at e)

  pub short : (b : ℕ) {t g : ℕ} {does : List ℕ → Meaning} → opcode b ≡ carried [] t g does → {P : Outcome}
      → P ≡ outcome s shared w (regs_of q) (instr (does []) t g at) → Says b P
  short b {t} {g} {does} e p = says b e (p ∙ sym (none s shared w (regs_of q) t g does at))

  module _ {b key : ℕ} (k : b ≡ key) {t g : ℕ} {does : List ℕ → Meaning} where
    -- no operand
    pub bare : opcode key ≡ carried [] t g does → {P : Outcome} → P ≡ outcome s shared w (regs_of q) (instr (does []) t g at) → Says b P
    bare e = short b (ap opcode k ∙ e)

    -- the first operand: cut off, or fetched and the only one
    pub cut : {form : Form} {forms : List Form} → opcode key ≡ carried (form ∷ forms) t g does → {o : Result Operand Missing} {p : ℕ} → fetched_of o ≡ fetched form s at
        → o ≡ out_as p → Says b (outcome_of s q (Bad 1))
    cut {form} {forms} e {o} {p} i x =
        says b (ap opcode k ∙ e) (bad s q 1 ∙ sym (cut1 s shared w (regs_of q) t g does at form forms p (ran_out_lem o form s at i p x)))

    pub one : {form : Form} → opcode key ≡ carried (form ∷ []) t g does → {o : Result Operand Missing} {a n : ℕ} → fetched_of o ≡ fetched form s at → o ≡ got_as a n
        → lawful form a ≡ true → {P : Outcome} → P ≡ outcome s shared w (regs_of q) (instr (does (a ∷ [])) t g n) → Says b P
    one {form} e {o} {a} {n} i x l p =
        says b (ap opcode k ∙ e) (p ∙ sym (got1 s shared w (regs_of q) t g does at form a n (came o form s at i a n x) l))

    -- a DB and a second operand
    module _ {form : Form} (e : opcode key ≡ carried (DB ∷ form ∷ []) t g does) {o : Result Operand Missing} {d m : ℕ} (i : fetched_of o ≡ fetched UB s at) (x : o ≡ got_as d m) where
      depth : fetched DB s at ≡ got d m
      depth = came o DB s at (i ∙ sym (fetched-DB s at)) d m x

      pub cut_second : {o' : Result Operand Missing} {p : ℕ} → fetched_of o' ≡ fetched form s m → o' ≡ out_as p → Says b (outcome_of s q (Bad 1))
      cut_second {o'} {p} i' x' =
          says b (ap opcode k ∙ e) (bad s q 1 ∙ sym (cut2 s shared w (regs_of q) t g does at DB form [] d m p depth (ran_out_lem o' form s m i' p x')))

      module _ {o' : Result Operand Missing} {a n : ℕ} (i' : fetched_of o' ≡ fetched form s m) (x' : o' ≡ got_as a n) where
        pub deep : 127 < d → Says b (outcome_of s q (Bad 2))
        deep h = says b (ap opcode k ∙ e) (bad s q 2 ∙ sym (deep2 s shared w (regs_of q) t g does at form d m a n depth (came o' form s m i' a n x') h))

        pub both : d ≤ 127 → lawful form a ≡ true → {P : Outcome} → P ≡ outcome s shared w (regs_of q) (instr (does (d ∷ a ∷ [])) t g n) → Says b P
        both h l p =
            says b (ap opcode k ∙ e) (p ∙ sym (got2 s shared w (regs_of q) t g does at form d m a n depth (came o' form s m i' a n x') h l))

    -- three operands
    module _ {form form' form'' : Form} (e : opcode key ≡ carried (form ∷ form' ∷ form'' ∷ []) t g does) {o : Result Operand Missing} {a n : ℕ} (i : fetched_of o ≡ fetched form s at)
        (x : o ≡ got_as a n) where
      pub cut_middle : {o' : Result Operand Missing} {p : ℕ} → fetched_of o' ≡ fetched form' s n → o' ≡ out_as p → Says b (outcome_of s q (Bad 1))
      cut_middle {o'} {p} i' x' =
          says b (ap opcode k ∙ e)
          (bad s q 1 ∙ sym (cut2 s shared w (regs_of q) t g does at form form' (form'' ∷ []) a n p (came o form s at i a n x) (ran_out_lem o' form' s n i' p x')))

      module _ {o' : Result Operand Missing} {a' n' : ℕ} (i' : fetched_of o' ≡ fetched form' s n) (x' : o' ≡ got_as a' n') {o'' : Result Operand Missing} (i'' : fetched_of o'' ≡ fetched form'' s n') where
        pub cut_third : {p : ℕ} → o'' ≡ out_as p → Says b (outcome_of s q (Bad 1))
        cut_third {p} x'' =
            says b (ap opcode k ∙ e)
            (bad s q 1 ∙ sym (cut3 s shared w (regs_of q) t g does at form form' form'' a n a' n' (came o form s at i a n x) (came o' form' s n i' a' n' x') p
            (ran_out_lem o'' form'' s n' i'' p x'')))

        pub all_three : {a'' n'' : ℕ} → o'' ≡ got_as a'' n'' → lawful form a ≡ true → lawful form' a' ≡ true → lawful form'' a'' ≡ true → {P : Outcome}
            → P ≡ outcome s shared w (regs_of q) (instr (does (a ∷ a' ∷ a'' ∷ [])) t g n'') → Says b P
        all_three {a''} {n''} x'' l l' l'' p =
            says b (ap opcode k ∙ e)
            (p ∙ sym (got3 s shared w (regs_of q) t g does at form form' form'' a n a' n' (came o form s at i a n x) (came o' form' s n i' a' n' x') a'' n''
            (came o'' form'' s n' i'' a'' n'' x'') l l' l''))

-- ---- what the helpers ask

module _ {s shared w : List ℕ} {q : Regs} {f : Facts} (ready : Ready s f shared w q) where
  -- a record that links led to
  pub rec_fits : (d : ℕ) {x : Option ℕ} {rec : ℕ} → link_of x ≡ follow w q.m d → x ≡ Some rec → rec ≤ 32768
  rec_fits d {x} {rec} e p = omega (arith, walked_high w q.m d x e rec p ready.ranged.m_high, ready.small)

  -- the byte after an operand
  pub near : (form : Form) (from : ℕ) {o : Result Operand Missing} {a n : ℕ} → fetched_of o ≡ fetched form s from → o ≡ got_as a n → n ≤ 65535
  near form from {o} {a} {n} e p = omega (arith, came_high o form s from e a n p, ready.loaded.short)
