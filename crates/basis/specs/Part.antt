-- A part of a memory, from word a up to word e, and the memory with that part replaced: the forms in which the borrow checker has
-- `&m[a..e]` and a `&mut m[a..e]` that came back. Regions of sessions are stated by these.
-- Nothing stands below; the laws are in proofs/Part.
use Rattle.std.specs.Prelude.{List, ◌++◌, ℕ, ◌-◌, take, drop}

unfoldable pub part : ℕ → ℕ → List ℕ → List ℕ
part a e m = take (e - a) (drop a m)

unfoldable pub splice : ℕ → ℕ → List ℕ → List ℕ → List ℕ
splice a e ys m = take a m ++ (ys ++ drop (e - a) (drop a m))
