-- A part of a memory and the memory with it replaced: the laws of specs/Part, which the other crates cite.
-- A section's parameters come first: a e m, a ≤ e, e ≤ length m; then ys and its length e - a.
-- Assumes nothing.
use mathlib.Core.Path.{◌≡◌, sym, ap, ◌∙◌}
use mathlib.Core.List.{List, [], ◌++◌, append_assoc}
use Prim.Native.Nat.{ℕ, ◌+◌, ◌-◌, ◌≤◌, ◌<◌}
use native.Mathlib.Omega.{arith}
use native.Mathlib.Nat.{zero-add}
use lib.ListN.{length, take, drop, get_or, length-append, length-take, length-drop, take-append-drop, drop_of_length-le, get_or-append}
use lib.Seq.{take_at, drop_at, take-append-le, drop-append-le, take-take, take-add, drop-drop, take-nil, take_all, length-take-le, get_or-take, get_or-drop, ext_get_or}
use Rattle.basis.specs.Part.{part, splice}

module _ (a e : ℕ) (m : List ℕ) (o : a ≤ e) (fits : e ≤ length m) where
  pub length_part : length (part a e m) ≡ e - a
  unfolding part
  length_part = simp (length-take, length-drop) (omega arith)

  pub get_d_part : (i : ℕ) → i < e - a → get_or (part a e m) i 0 ≡ get_or m (a + i) 0
  unfolding part
  get_d_part i h = get_or-take (e - a) (drop a m) i 0 h ∙ get_or-drop a m i 0

  pub splice_same : splice a e (part a e m) m ≡ m
  unfolding part splice
  splice_same = rw (take-append-drop (e - a) (drop a m)) (take-append-drop a m)

  module _ (ys : List ℕ) (l : length ys ≡ e - a) where
    pub length_splice : length (splice a e ys m) ≡ length m
    unfolding splice
    length_splice = simp (length-append, length-take, length-drop) (omega arith)

    pub part_splice : part a e (splice a e ys m) ≡ ys
    unfolding part splice
    part_splice =
        rw (drop_at (take a m) (ys ++ drop (e - a) (drop a m)) a (length-take-le a m (omega arith)))
        (take_at ys (drop (e - a) (drop a m)) (e - a) l)

    pub take_splice : (s : ℕ) → s ≤ a → take s (splice a e ys m) ≡ take s m
    unfolding splice
    take_splice s h =
        take-append-le s (take a m) (ys ++ drop (e - a) (drop a m)) (rw (length-take-le a m (omega arith)) h)
        ∙ take-take s a m h

    pub drop_splice : drop (e - a) (drop a (splice a e ys m)) ≡ drop (e - a) (drop a m)
    unfolding splice
    drop_splice =
        rw (drop_at (take a m) (ys ++ drop (e - a) (drop a m)) a (length-take-le a m (omega arith)))
        (drop_at ys (drop (e - a) (drop a m)) (e - a) l)

    get_or_high : (k : ℕ) → get_or (splice a e ys m) (a + ((e - a) + k)) 0 ≡ get_or m (a + ((e - a) + k)) 0
    get_or_high k =
        sym (get_or-drop a (splice a e ys m) ((e - a) + k) 0)
        ∙ sym (get_or-drop (e - a) (drop a (splice a e ys m)) k 0)
        ∙ ap (λ (l : List ℕ). get_or l k 0) drop_splice
        ∙ get_or-drop (e - a) (drop a m) k 0
        ∙ get_or-drop a m ((e - a) + k) 0

    -- a word below a, or from e on, is as it was
    pub get_or_below : (j : ℕ) → j < a → get_or (splice a e ys m) j 0 ≡ get_or m j 0
    unfolding splice
    get_or_below j h =
        get_or-append (take a m) (ys ++ drop (e - a) (drop a m)) 0 j (rw (length-take-le a m (omega arith)) h)
        ∙ get_or-take a m j 0 h

    pub get_or_above : (j : ℕ) → e ≤ j → get_or (splice a e ys m) j 0 ≡ get_or m j 0
    get_or_above j h =
        let q : j ≡ a + ((e - a) + (j - e)) = omega arith in
        rw q (get_or_high (j - e))

-- a part of a part, and a part of a part replaced: the words from a up to b of those from f up to e
module _ (f e : ℕ) (m : List ℕ) (o : f ≤ e) (fits : e ≤ length m) (a b : ℕ) (p : a ≤ b) (q : f + b ≤ e) where
  within : b ≤ length (part f e m)
  within = rw (length_part f e m o fits) (omega arith)

  pub part_part : part a b (part f e m) ≡ part (f + a) (f + b) m
  part_part =
      let inner = length_part a b (part f e m) p within in
      let outer = length_part (f + a) (f + b) m (omega arith) (omega arith) in
      ext_get_or 0 (part a b (part f e m)) (part (f + a) (f + b) m) (inner ∙ sym (outer ∙ omega arith))
      (λ i h.
      let lt : i < b - a = rw inner at h in
      let at : f + (a + i) ≡ f + a + i = omega arith in
      get_d_part a b (part f e m) p within i lt
      ∙ get_d_part f e m o fits (a + i) (omega arith)
      ∙ ap (λ (k : ℕ). get_or m k 0) at
      ∙ sym (get_d_part (f + a) (f + b) m (omega arith) (omega arith) i (omega arith)))

  front : take f m ++ take a (part f e m) ≡ take (f + a) m
  unfolding part
  front = rw (take-take a (e - f) (drop f m) (omega arith)) (sym (take-add f a m))

  back : drop (b - a) (drop a (part f e m)) ++ drop (e - f) (drop f m) ≡ drop (f + b - (f + a)) (drop (f + a) m)
  unfolding part
  back =
      let low : a + (b - a) ≡ b = omega arith in
      let high : f + a + (f + b - (f + a)) ≡ f + b = omega arith in
      rw (drop-drop (b - a) a (part f e m), low, drop-drop (f + b - (f + a)) (f + a) m, high)
      (sym (drop-append-le b (part f e m) (drop (e - f) (drop f m)) within)
      ∙ ap (drop b) (take-append-drop (e - f) (drop f m))
      ∙ drop-drop b f m)

  pub splice_part : (ys : List ℕ) → splice f e (splice a b ys (part f e m)) m ≡ splice (f + a) (f + b) ys m
  unfolding splice
  splice_part ys =
      let head = take a (part f e m) in
      let rest = drop (b - a) (drop a (part f e m)) in
      let end = drop (e - f) (drop f m) in
      ap (λ (l : List ℕ). take f m ++ l) (append_assoc head (ys ++ rest) end)
      ∙ sym (append_assoc (take f m) head (ys ++ rest ++ end))
      ∙ (λ i. front i ++ (append_assoc ys rest end ∙ ap (λ (l : List ℕ). ys ++ l) back) i)

-- the first words of a part, and a part of the first words
pub take_part : (f e : ℕ) (m : List ℕ) (n : ℕ) → f + n ≤ e → take n (part f e m) ≡ part f (f + n) m
unfolding part
take_part f e m n h = let size : f + n - f ≡ n = omega arith in rw size (take-take n (e - f) (drop f m) (omega arith))

from_zero : (s : ℕ) (m : List ℕ) → part 0 s m ≡ take s m
unfolding part
from_zero s m = let size : s - 0 ≡ s = omega arith in rw size

pub part_take : (s : ℕ) (m : List ℕ) (a b : ℕ) → a ≤ b → b ≤ s → s ≤ length m → part a b (take s m) ≡ part a b m
part_take s m a b p q fits =
    rw (from_zero s m, zero-add a, zero-add b) at (part_part 0 s m (omega arith) fits a b p (omega arith))

-- the len bytes from start on: none from the end on, all that are left where they are too few, else len of them
-- the part from 0 on, as the borrow checker has `&l[0..]`
pub part_all : (l : List ℕ) → take (length l - 0) l ≡ l
part_all l = take_all (length l - 0) l (omega arith)

pub part_none : (l : List ℕ) (start len : ℕ) → length l ≤ start → [] ≡ take len (drop start l)
part_none l start len h = rw (drop_of_length-le l h) (sym (take-nil len))

pub part_short : (l : List ℕ) (start len : ℕ) → length l - start < len → take (length l - start) (drop start l) ≡ take len (drop start l)
part_short l start len h =
    take_all (length l - start) (drop start l) (rw length-drop (omega arith))
    ∙ sym (take_all len (drop start l) (rw length-drop (omega arith)))

pub part_full : (l : List ℕ) (start len : ℕ) → take (start + len - start) (drop start l) ≡ take len (drop start l)
part_full l start len = let q : start + len - start ≡ len = omega arith in rw q
