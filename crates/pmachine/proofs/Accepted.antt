-- A segment that passes checks 1 to 8 is one that the machine takes. Above: session and bench; below: Sound, and the laws of `segment`.
use native.Mathlib.Omega.{arith}
use Prim.Native.Nat.{ℕ, ◌+◌, ◌<◌, ◌≤◌}
use mathlib.Core.Path.{◌≡◌}
use mathlib.Core.Logic.{⊎_elim}
use mathlib.Core.List.{List}
use Rattle.segment.specs.Head.{words, pool, pool_first}
use Rattle.segment.specs.Judge.{judged}
use Rattle.basis.specs.Checks.{passed}
use Rattle.segment.proofs.Laws.{GoodRoutine, all_good, reals_high}
use Rattle.pmachine.specs.Sound.{Routine, Loaded}

taken : {s : List ℕ} {k : ℕ} → GoodRoutine s k → Routine s k
taken r = record { entry_low = r.low; entry_high = r.high; size = r.size }

pub loaded : (s : List ℕ) → judged s ≡ passed → Loaded s
loaded s h =
    let g = all_good s h in
    let a = g.header in
    let low : pool s < words s =
    ⊎_elim (λ (e : pool s ≡ 0). omega arith) (λ (e : (11 ≤ pool s) × (pool s < words s) × (pool s + pool_first s < words s)). e.1) a.pools in
    record {
      even = a.even;
      long = a.long;
      short = omega arith;
      pool_high = low;
      reals_high = reals_high s a.pools;
      dict_low = a.low;
      some = a.some;
      many = a.many;
      room = a.room;
      first = taken g.first;
      routines = λ k l m some. taken (g.routines k l m some);
    }
