-- The laws of the two copies: one turn of a loop, and two parts put in.
-- Above it: the proofs of `slices::joined` and `shown::visible`. Below it: lists. Assumes nothing.
use Prim.Native.Nat.{ℕ, ◌+◌, ◌≤◌, ◌<◌}
use native.Mathlib.Omega.{arith}
use native.Mathlib.Numerals.{add-one}
use mathlib.Core.Path.{◌≡◌, refl, sym, ◌∙◌}
use mathlib.Core.List.{List, [], ◌∷◌, ◌++◌, map, map-append}
use lib.ListN.{length, get_or, take, drop, set, length-append}
use lib.Seq.{take-suc, take-suc-set}
use Rattle.std.proofs.Math.Seq.{take-append_seam}
use Rattle.std.proofs.lemmas.Slice.{take-put_mid}
use borrow.Rule.Slice.PartMut.{put_mid}
use borrow.Author.Tests.{le-leb, lt-leb}
use Rattle.text.specs.Seen.{seen_as}
use Rattle.text.specs.Joins.{joined_in}

-- ---- joined

-- two copies, one after the other, from the start on
pub joined_holds : (d a b x y : List ℕ) (k : ℕ) → length a + length b ≤ length d → x ≡ a → y ≡ b
    → (length a + length b ≡ length (joined_in (length d) a b)) × (take (length a + length b) (put_mid (length a) k (x ++ drop (length a) d) y) ≡ joined_in (length d) a b)
unfolding joined_in
joined_holds d a b x y k room hx hy =
    let l : length a ≤ length (a ++ drop (length a) d) = rw (length-append a (drop (length a) d)) (omega arith) in
    rw (le-leb (length a + length b) (length d) room, hx, hy)
    (sym (length-append a b), take-put_mid (length a) k (a ++ drop (length a) d) b (length a + length b) refl l ∙ rw (take-append_seam a (drop (length a) d)))

pub joined_not : (d a b : List ℕ) → length d < length a + length b → (0 ≡ length (joined_in (length d) a b)) × (take 0 d ≡ joined_in (length d) a b)
unfolding joined_in
joined_not d a b h = rw (lt-leb (length a + length b) (length d) h) (refl, refl)

-- ---- visible

pub visible_goes : (top : ℕ) (s d : List ℕ) (i x : ℕ) → i < length s → i < length d → x ≡ seen_as top (get_or s i 0) → take i d ≡ map (seen_as top) (take i s)
    → take (i + 1) (set d i x) ≡ map (seen_as top) (take (i + 1) s)
visible_goes top s d i x hs hd hx e = rw (add-one i, take-suc-set d i x hd, take-suc s i 0 hs, map-append (seen_as top) (take i s) (get_or s i 0 ∷ []), e, hx)
