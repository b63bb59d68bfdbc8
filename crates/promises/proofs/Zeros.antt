-- Words set to zero and one record replaced, word by word and record by record.
-- Above: Openings, Closings. Below: basis's laws of a part replaced.
use mathlib.Core.Path.{◌≡◌, refl, sym, ap, ◌∙◌}
use mathlib.Core.List.{List}
use Prim.Native.Nat.{ℕ, zero, suc, ◌+◌, ◌-◌, ◌≤◌, ◌<◌}
use native.Mathlib.Omega.{arith}
use lib.ListN.{length, get_or, replicate, length-replicate}
use lib.Seq.{get_or-set_other}
use Rattle.basis.proofs.Part.{length_splice, get_d_part, part_splice, get_or_below, get_or_above}
use Rattle.sound.specs.Bench.{no_session, World}
use Rattle.sound.specs.declared.Session.{Session}
use Rattle.entry.specs.Entries.{cleared}
use Rattle.promises.specs.Words.{Zeroed, OnlyRecord}

zeros : (n k : ℕ) → ◌≡◌ {A = ℕ} (get_or (replicate n 0) k 0) 0
zeros zero k = refl
zeros (suc n) zero = refl
zeros (suc n) (suc k) = zeros n k

module _ (w : World) (i : ℕ) (se : Session) (a len : ℕ) (f : a + len ≤ length w.mem) where
  o : a ≤ a + len
  o = omega arith

  l : length {A = ℕ} (replicate len 0) ≡ a + len - a
  l = length-replicate len 0 ∙ omega arith

  in_zero : (j : ℕ) → a ≤ j → j < a + len → get_or (cleared i se a len w).mem j 0 ≡ 0
  in_zero j p q =
      let m = (cleared i se a len w).mem in
      let f' : a + len ≤ length m = rw (length_splice a (a + len) w.mem o f (replicate len 0) l) f in
      let e : a + (j - a) ≡ j = omega arith in
      rw e at
      (sym (get_d_part a (a + len) m o f' (j - a) (omega arith))
      ∙ ap (λ (ws : List ℕ). get_or ws (j - a) 0) (part_splice a (a + len) w.mem o f (replicate len 0) l)
      ∙ zeros len (j - a))

  pub zeroed : Zeroed w (cleared i se a len w) a len
  zeroed =
      record {
        zero_in = in_zero;
        same_below = λ j h. get_or_below a (a + len) w.mem o f (replicate len 0) l j h;
        same_above = λ j h. get_or_above a (a + len) w.mem o f (replicate len 0) l j h;
        as_long = length_splice a (a + len) w.mem o f (replicate len 0) l;
      }

  pub only : OnlyRecord w (cleared i se a len w) i
  only =
      record {
        same_bench = refl;
        same_others = λ j d. get_or-set_other w.bench.sessions i j se no_session d;
      }
