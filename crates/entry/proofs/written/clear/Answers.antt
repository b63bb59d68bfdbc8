-- `entry::written::clear` meets its contract.
use lib.ListN.{length, take, drop, replicate}
use mathlib.Core.List.{List, ◌++◌}
use mathlib.Core.Path.{◌≡◌, ◌∙◌}
use native.Mathlib.Omega.{arith}
use Prim.Native.Nat.{ℕ, ◌+◌, ◌-◌, ◌≤◌}
use Rattle.basis.specs.Part.{part, splice}
use Rattle.basis.proofs.Part.{length_part}
use Rattle.entry.proofs.written.clear.Goals as goal

part_cleared : (m l : List ℕ) (base len : ℕ) → base + len ≤ length m → l ≡ replicate (length (part base (base + len) m)) 0
    → take base m ++ (l ++ drop (base + len - base) (drop base m)) ≡ splice base (base + len) (replicate len 0) m
unfolding splice
part_cleared m l base len f h =
    let q : length (part base (base + len) m) ≡ len = length_part base (base + len) m (omega arith) f ∙ omega arith in
    rw (h, q)

pub returns : goal.returns
unfolding part
returns c =
    let a = c.args in
    λ j.
    record {
      bench = c.with_session.ensures j;
      mem = part_cleared a.memory.now c.clear_words.new.r a.base a.len c.requires.1 c.clear_words.ensures j;
    }
