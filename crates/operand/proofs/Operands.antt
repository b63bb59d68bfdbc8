-- What holds of every operand form: where it reads, where the bytes run out, and its number.
-- Below: the definitions. Above: the machine's counter, and faults of a fetch. Assumes nothing.
use Prim.Native.Nat.{ℕ, zero, suc, ◌+◌, ◌-◌, ◌≤◌, ◌<◌}
use native.Mathlib.Omega.{arith}
use mathlib.Core.Path.{◌≡◌, refl, sym}
use mathlib.Core.List.{List}
use mathlib.Core.Bool.{Bool, true, false, cond}
use Rattle.std.specs.Prelude.{Ok, Err}
use borrow.Author.Tests.{ltb-true, ltb-false, lt-ltb}
use lib.ListN.{length}
use lib.Dec.{ltb}
use lib.IntN.{pos, sub_ℕ}
use Rattle.basis.proofs.Bools.{cond_holds}
use Rattle.basis.specs.Integer.{modulo, integer_of, word_of}
use Rattle.operand.specs.Bytes.{byte_at, join}
use Rattle.operand.specs.Operand.{Form, UB, SB, DB, B, W, Fetched, got, out, if_there, signed, fetched, digit, form_at}
use Rattle.operand.specs.Reading.{Lies, Reads, RunsOut, Numbered}

module _ (s : List ℕ) (at : ℕ) where
  -- what `if_there` reads, if what follows the test reads so
  first : (o : Fetched) → (at < length s → Lies s at o) → Lies s at (if_there s at o)
  unfolding if_there
  first o h =
      cond_holds (Lies s at) (ltb at (length s)) (λ e. h (ltb-true at (length s) e))
      (λ e. let r = ltb-false at (length s) e in (omega arith, omega arith, r, λ (i : at ≤ length s). omega arith))

  -- the second of two bytes, behind a test of its own
  second : (v : ℕ) → at < length s → Lies s at (if_there s (at + 1) (got v (at + 2)))
  unfolding if_there
  second v l =
      cond_holds (Lies s at) (ltb (at + 1) (length s)) (λ e. let r = ltb-true (at + 1) (length s) e in (omega arith, omega arith, omega arith))
      (λ e. let r = ltb-false (at + 1) (length s) e in (omega arith, omega arith, r, λ (i : at ≤ length s). omega arith))

  -- one byte, or two
  some : (b : Bool) (v u : ℕ) → at < length s → Lies s at (cond b (got v (at + 1)) (if_there s (at + 1) (got u (at + 2))))
  some true v u l = (omega arith, omega arith, omega arith)
  some false v u l = second u l

  one : (v : ℕ) → Lies s at (if_there s at (got v (at + 1)))
  one v = first (got v (at + 1)) (λ (l : at < length s). (omega arith, omega arith, omega arith))

pub reads : Reads
unfolding fetched
reads UB s at = one s at (byte_at s at)
reads SB s at = one s at (signed (byte_at s at))
reads DB s at = one s at (byte_at s at)
reads B s at = first s at _ (some s at (ltb (byte_at s at) 128) (byte_at s at) (join (byte_at s (at + 1)) (byte_at s at - 128)))
reads W s at = first s at _ (second s at (join (byte_at s at) (byte_at s (at + 1))))

-- the same, of an answer in hand
module _ (f : Form) (s : List ℕ) (at : ℕ) where
  pub got_lies : (v n : ℕ) → fetched f s at ≡ got v n → (at < n) × (n ≤ at + 2) × (n ≤ length s)
  got_lies v n h = rw h at (reads f s at)

  pub out_lies : (p : ℕ) → fetched f s at ≡ out p → at ≤ length s → p ≡ length s
  out_lies p h l = (rw h at (reads f s at)).3 l

pub runs_out : RunsOut
runs_out f s at (Ok o) e h l = let z : ⊥ = omega (arith, h) in absurd z
runs_out f s at (Err m) e h l = out_lies f s at m.place (sym e) l

-- ---- the numbers of the forms

pub numbered : Numbered
unfolding form_at
numbered = record { form = form; number = number }
  where
    form : (f : Form) → form_at (digit f) ≡ f
    form UB = refl
    form SB = refl
    form DB = refl
    form B = refl
    form W = refl

    number : (n : ℕ) → 1 ≤ n → n ≤ 5 → digit (form_at n) ≡ n
    number zero l h = let z : ⊥ = omega (arith, l) in absurd z
    number (suc zero) l h = refl
    number (suc (suc zero)) l h = refl
    number (suc (suc (suc zero))) l h = refl
    number (suc (suc (suc (suc zero)))) l h = refl
    number (suc (suc (suc (suc (suc zero))))) l h = refl
    number (suc (suc (suc (suc (suc (suc n)))))) l h = let z : ⊥ = omega (arith, h) in absurd z

-- ---- a signed byte

-- SB gives the 16-bit word of the byte's integer
pub signed_is : (b : ℕ) → b < 256 → signed b ≡ word_of 16 (integer_of 8 b)
unfolding signed integer_of word_of modulo
signed_is b h = go (ltb b 128) refl
  where
    go : (t : Bool) → ltb b 128 ≡ t → cond t b (b + 65280) ≡ modulo 65536 (cond t (pos b) (sub_ℕ b 256))
    go true e = omega (arith, ltb-true b 128 e)
    go false e = rw (lt-ltb b 256 h) (omega (arith, ltb-false b 128 e))
