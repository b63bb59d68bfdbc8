-- Outputs: the first 2W bytes and no others, and an output turned back.
-- Above: whoever turns segments. Below: a segment and its turned one (Twice). Assumes nothing.
use Prim.Native.Nat.{ℕ, ◌≤◌}
use native.Mathlib.Omega.{arith}
use mathlib.Core.Path.{◌≡◌, refl, ◌∙◌}
use mathlib.Core.List.{List, ◌++◌, append-nil}
use lib.ListN.{length, take, drop, length-append, length-drop, drop_of_length-le}
use lib.Seq.{take_at, drop_at}
use Rattle.basis.specs.Checks.{Ruling, passed, refused}
use Rattle.turning.specs.Turn.{turned, turn_ruling, turned_into, output_of}
use Rattle.turning.specs.Twin.{Outputs, TurnsBack}
use Rattle.turning.proofs.Positions.{turn_good, turn_accepts}
use Rattle.turning.proofs.Twice.{twins, length_turned}

module _ (s out : List ℕ) where
  -- an accepted turn
  taken : turn_ruling s (length out) ≡ passed → output_of s out ≡ turned s ++ drop (length s) out
  unfolding output_of turned_into
  taken h = rw h refl

  pub kept : (n p : ℕ) → turn_ruling s (length out) ≡ refused n p → output_of s out ≡ out
  unfolding output_of turned_into
  kept n p h = rw h refl

  module _ (h : turn_ruling s (length out) ≡ passed) where
    whole : length (turned s) ≡ length s
    whole = length_turned s (turn_good s (length out) h).0

    sized : length (output_of s out) ≡ length out
    sized = let g = turn_good s (length out) h in let n = whole in rw (taken h) (simp (length-append, length-drop) (omega arith))

    began : take (length s) (output_of s out) ≡ turned s
    began = rw (taken h) (take_at (turned s) (drop (length s) out) (length s) whole)

    ended : drop (length s) (output_of s out) ≡ drop (length s) out
    ended = rw (taken h) (drop_at (turned s) (drop (length s) out) (length s) whole)

  by_answer : (v : Ruling) → turn_ruling s (length out) ≡ v → (length (output_of s out) ≡ length out) × (drop (length s) (output_of s out) ≡ drop (length s) out)
  by_answer passed h = (sized h, ended h)
  by_answer (refused n p) h = rw (kept n p h) (refl, refl)

  pub writes : Outputs s out
  writes = let a = by_answer (turn_ruling s (length out)) refl in record { size = a.0; first = began; rest = a.1; unchanged = kept }

-- an output of the segment's own length holds the turned segment
exact : (s out : List ℕ) → turn_ruling s (length out) ≡ passed → length out ≡ length s → output_of s out ≡ turned s
exact s out h e =
    let l : length out ≤ length s = omega arith in
    taken s out h ∙ rw (drop_of_length-le out l) (append-nil (turned s))

module _ (s a b : List ℕ) (h : turn_ruling s (length a) ≡ passed) (eb : length b ≡ length s) where
  again : (turn_ruling (turned s) (length b) ≡ passed) × (output_of (turned s) b ≡ s)
  again =
      let g = turn_good s (length a) h in
      let t = twins s g.0 g.1 in
      let ok = turn_accepts (turned s) (length b) (t.rulings ∙ g.0) (t.pools ∙ g.1) (omega arith) in
      (ok, exact (turned s) b ok (omega arith) ∙ t.again)

pub turns_back : TurnsBack
turns_back s a b h ea eb =
    let r = again s a b h eb in
    record { accepted_again = rw (exact s a h ea) r.0; restored = rw (exact s a h ea) r.1 }
