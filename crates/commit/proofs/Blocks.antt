-- Words that lie as if pushed one after another, written from the last on: none, and one more. Above: the loop of `put_all`; below: Pool and Frame of
-- `pmachine`.
use Prim.Native.Nat.{ℕ, suc, ◌+◌, ◌-◌, ◌≤◌}
use native.Mathlib.Omega.{arith}
use mathlib.Core.Path.{◌≡◌, sym}
use mathlib.Core.List.{List, [], ◌∷◌, ◌++◌, reverse-cons}
use mathlib.Core.Bool.{Bool}
use lib.ListN.{length, set}
use Rattle.operand.specs.Bytes.{word_by}
use Rattle.pmachine.specs.Pool.{words_from, on_top}
use Rattle.pmachine.specs.Run.{written}
use Rattle.pmachine.proofs.Pool.{length_top}
use Rattle.pmachine.proofs.Frame.{written_snoc}

module _ (sex : Bool) (s w : List ℕ) (first n top : ℕ) where
  -- the words from the one with this number on
  abbrev from : ℕ → List ℕ
  from k = on_top (words_from sex s (first + k) (n - k))

  pub none_pushed : w ≡ written w (top - n) (from n)
  unfolding written on_top words_from
  none_pushed = let e : n - n ≡ 0 = omega arith in rw e

  -- the word before them lies above them
  deeper : (k : ℕ) → 1 ≤ k → k ≤ n → from (k - 1) ≡ from k ++ (word_by sex s (first + (k - 1)) ∷ [])
  unfolding on_top words_from
  deeper k low high =
      let more : n - (k - 1) ≡ suc (n - k) = omega arith in
      let next : first + (k - 1) + 1 ≡ first + k = omega arith in
      rw (more, next) (reverse-cons (word_by sex s (first + (k - 1))) (words_from sex s (first + k) (n - k)))

  pub one_pushed : (k v : ℕ) (m u : List ℕ) → 1 ≤ k → k ≤ n → n ≤ top → v ≡ word_by sex s (first + (k - 1)) → m ≡ written w (top - n) (from k)
      → u ≡ set m (top - 1 - (k - 1)) v → u ≡ written w (top - n) (from (k - 1))
  one_pushed k v m u low high room read before after =
      let long : length (from k) ≡ n - k = length_top sex s (first + k) (n - k) in
      let place : top - 1 - (k - 1) ≡ top - n + length (from k) = omega (arith, long) in
      rw (after, before, place, deeper k low high, ← read) (sym (written_snoc (from k) w (top - n) v))
