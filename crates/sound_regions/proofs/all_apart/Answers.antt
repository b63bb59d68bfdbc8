-- `sound_regions::all_apart` meets its contract.
use Prim.Native.Nat.{◌-◌, ◌≤◌}
use mathlib.Core.Path.{◌≡◌, sym, ap, ◌∙◌}
use mathlib.Core.List.{List, [], ◌∷◌}
use native.Mathlib.Omega.{arith}
use lib.ListN.{length, get_or, take, drop}
use Rattle.std.proofs.lemmas.List.{take_all}
use Rattle.sound.specs.declared.Session.{Session}
use Rattle.sound.specs.Bench.{no_session}
use Rattle.sound.specs.Sound.{all, apart}
use Rattle.sound.proofs.Lists.{apart_first}
use Rattle.sound_regions.proofs.all_apart.Goals as goal

-- those that the pattern leaves are those from number 1 on
from_one : (l : List Session) (d : Session) → 1 ≤ length l
    → all (apart (get_or l 0 d)) (take (length l - 1) (drop 1 l)) ≡ all (apart (get_or l 0 d)) (drop 1 l)
from_one [] d h = absurd (omega arith)
from_one (x ∷ l) d h = ap (all (apart x)) (take_all _ l (omega arith))

pub loop-left-preserved : goal.loop-left-preserved
loop-left-preserved c =
    let l = c.loop-left.left.now in
    let some = c.in-len1-up.len_at_least in
    c.loop-left.invariant ∙ apart_first l no_session some ∙ rw (from_one l no_session some ∙ sym c.is_apart.ensures ∙ c.if-not-is_apart.false)
