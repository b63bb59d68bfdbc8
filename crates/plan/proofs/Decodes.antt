-- From the operands that are fetched to the instruction that is judged, for the rows of no, one, two and three operands; and what a link that
-- was followed tells. Above: the flat match of `judge`; below: Decoding and Step of `pmachine`, and the operands' laws of `operand`.
use Prim.Native.Nat.{ℕ, zero, suc, ◌+◌, ◌<◌, ◌≤◌}
use Rattle.std.specs.Prelude.{Option, Some, None, Result, Ok, Err}
use mathlib.Core.Path.{◌≡◌, refl, sym, ◌∙◌, ap, subst}
use mathlib.Core.List.{List, [], ◌∷◌}
use mathlib.Core.Bool.{true, false, false≢true}
use lib.Dec.{leb}
use lib.ListN.{length, get_or}
use borrow.Author.Tests.{le-leb, lt-leb, leb-true}
use Rattle.basis.proofs.Bools.{cond_holds, and_snd}
use Rattle.operand.specs.declared.Operand.{Operand}
use Rattle.operand.specs.declared.Missing.{Missing}
use Rattle.operand.specs.Operand.{Form, UB, DB, got, out, fetched, fetched_of}
use Rattle.operand.proofs.Operands.{got_lies}
use Rattle.pmachine.specs.State.{Registers}
use Rattle.pmachine.specs.Meaning.{globals, up, Meaning}
use Rattle.pmachine.specs.Opcode.{Row, carried, uncarried, is_carried}
use Rattle.pmachine.specs.Decoding.{joined, and_then, operands, lawful, all_lawful, decoded_with, row_decoded}
use Rattle.pmachine.specs.Step.{fault, Link as Linked, reaches, broken, pointer, follow, reached, outcome, judged_by}
use Rattle.plan.specs.Answer.{link_of}
use Rattle.plan.proofs.Meanings.{instr}

-- ---- operands

-- only a DB is judged, and it is fetched as a UB is
pub lawful-DB : (v : ℕ) → v ≤ 127 → lawful DB v ≡ true
unfolding lawful
lawful-DB v h = le-leb v 127 h

pub fetched-DB : (s : List ℕ) (at : ℕ) → fetched DB s at ≡ fetched UB s at
unfolding fetched
fetched-DB s at = refl

-- the byte after an operand lies in the segment, or at its end
pub next_high : (f : Form) (s : List ℕ) (at a n : ℕ) → fetched f s at ≡ got a n → n ≤ length s
next_high f s at a n e = (got_lies f s at a n e).2

-- the code's answer, in each of its two cases
abbrev pub got_as : ℕ → ℕ → Result Operand Missing
got_as a n = Ok (record { value = a; next = n })

abbrev pub out_as : ℕ → Result Operand Missing
out_as p = Err (record { place = p })

-- what it tells of an operand
module _ (o : Result Operand Missing) (f : Form) (s : List ℕ) (at : ℕ) (e : fetched_of o ≡ fetched f s at) where
  pub came : (a n : ℕ) → o ≡ got_as a n → fetched f s at ≡ got a n
  came a n p = sym e ∙ ap fetched_of p

  pub ran_out_lem : (p : ℕ) → o ≡ out_as p → fetched f s at ≡ out p
  ran_out_lem p q = sym e ∙ ap fetched_of q

  pub came_high : (a n : ℕ) → o ≡ got_as a n → n ≤ length s
  came_high a n p = next_high f s at a n (came a n p)

module _ (s shared w : List ℕ) (r : Registers) (t g : ℕ) (does : List ℕ → Meaning) (at : ℕ) where
  pub none : judged_by s shared w r (row_decoded (carried [] t g does) s at) ≡ outcome s shared w r (instr (does []) t g at)
  unfolding judged_by row_decoded operands decoded_with all_lawful
  none = refl

  pub cut1 : (f : Form) (fs : List Form) (p : ℕ) → fetched f s at ≡ out p → judged_by s shared w r (row_decoded (carried (f ∷ fs) t g does) s at) ≡ fault 1
  unfolding judged_by row_decoded operands and_then decoded_with
  cut1 f fs p e = rw e

  pub got1 : (f : Form) (a n : ℕ) → fetched f s at ≡ got a n → lawful f a ≡ true
      → judged_by s shared w r (row_decoded (carried (f ∷ []) t g does) s at) ≡ outcome s shared w r (instr (does (a ∷ [])) t g n)
  unfolding judged_by row_decoded operands and_then joined decoded_with all_lawful
  got1 f a n e l = rw (e, l)

  pub cut2 : (f f' : Form) (fs : List Form) (a n p : ℕ) → fetched f s at ≡ got a n → fetched f' s n ≡ out p
      → judged_by s shared w r (row_decoded (carried (f ∷ f' ∷ fs) t g does) s at) ≡ fault 1
  unfolding judged_by row_decoded operands and_then joined decoded_with
  cut2 f f' fs a n p e e' = rw (e, e')

  -- three operands, the third cut off, and all of them
  module _ (f f' f'' : Form) (a n a' n' : ℕ) (e : fetched f s at ≡ got a n) (e' : fetched f' s n ≡ got a' n') where
    pub cut3 : (p : ℕ) → fetched f'' s n' ≡ out p → judged_by s shared w r (row_decoded (carried (f ∷ f' ∷ f'' ∷ []) t g does) s at) ≡ fault 1
    unfolding judged_by row_decoded operands and_then joined decoded_with
    cut3 p e'' = rw (e, e', e'')

    pub got3 : (a'' n'' : ℕ) → fetched f'' s n' ≡ got a'' n'' → lawful f a ≡ true → lawful f' a' ≡ true → lawful f'' a'' ≡ true
        → judged_by s shared w r (row_decoded (carried (f ∷ f' ∷ f'' ∷ []) t g does) s at) ≡ outcome s shared w r (instr (does (a ∷ a' ∷ a'' ∷ [])) t g n'')
    unfolding judged_by row_decoded operands and_then joined decoded_with all_lawful
    got3 a'' n'' e'' l l' l'' = rw (e, e', e'', l, l', l'')

  -- a DB above 127, judged when both are fetched
  pub deep2 : (f' : Form) (d m a n : ℕ) → fetched DB s at ≡ got d m → fetched f' s m ≡ got a n → 127 < d
      → judged_by s shared w r (row_decoded (carried (DB ∷ f' ∷ []) t g does) s at) ≡ fault 2
  unfolding judged_by row_decoded operands and_then joined decoded_with all_lawful lawful
  deep2 f' d m a n e e' h = rw (e, e', lt-leb d 127 h)

  pub got2 : (f' : Form) (d m a n : ℕ) → fetched DB s at ≡ got d m → fetched f' s m ≡ got a n → d ≤ 127 → lawful f' a ≡ true
      → judged_by s shared w r (row_decoded (carried (DB ∷ f' ∷ []) t g does) s at) ≡ outcome s shared w r (instr (does (d ∷ a ∷ [])) t g n)
  unfolding judged_by row_decoded operands and_then joined decoded_with all_lawful
  got2 f' d m a n e e' h l = rw (e, e', lawful-DB d h, l)

-- a byte that is not carried
pub no_row : (row : Row) (s shared w : List ℕ) (r : Registers) (at : ℕ) → is_carried row ≡ false → judged_by s shared w r (row_decoded row s at) ≡ fault 2
unfolding is_carried judged_by row_decoded
no_row (carried forms taken given does) s shared w r at e = absurd (false≢true (sym e))
no_row (uncarried forms) s shared w r at e = refl

-- ---- links

abbrev High : ℕ → Linked → Type 0
High l (reaches m) = m + 5 ≤ l
High l broken = Unit {0}

all_high : (w : List ℕ) (d m : ℕ) → m + 5 ≤ length w → High (length w) (follow w m d)
unfolding follow
all_high w zero m h = h
all_high w (suc d) m h =
    cond_holds (High (length w)) (pointer w (get_or w m 0))
    (λ p. all_high w d (get_or w m 0) (leb-true _ _ (and_snd (leb 1 (get_or w m 0)) (leb (get_or w m 0 + 5) (length w)) p)))
    (λ _. tt)

-- a record that links lead to has its mark in the region, as the first has
pub follow_high : (w : List ℕ) (m d q : ℕ) → follow w m d ≡ reaches q → m + 5 ≤ length w → q + 5 ≤ length w
follow_high w m d q e h = subst (High (length w)) e (all_high w d m h)

-- whose record: the current one, the globals', the one that a walk found
pub here : (w : List ℕ) (m : ℕ) → reached w m (up 0) ≡ reaches m
unfolding reached follow
here w m = refl

pub at_globals : (w : List ℕ) (m : ℕ) → reached w m globals ≡ reaches 1
unfolding reached
at_globals w m = refl

module _ (w : List ℕ) (m d : ℕ) (x : Option ℕ) (e : link_of x ≡ follow w m d) where
  pub walked : (rec : ℕ) → x ≡ Some rec → reached w m (up d) ≡ reaches rec
  unfolding reached
  walked rec p = sym e ∙ ap link_of p

  pub strayed : x ≡ None → reached w m (up d) ≡ broken
  unfolding reached
  strayed p = sym e ∙ ap link_of p

  pub walked_high : (rec : ℕ) → x ≡ Some rec → m + 5 ≤ length w → rec + 5 ≤ length w
  walked_high rec p = follow_high w m d rec (sym e ∙ ap link_of p)
