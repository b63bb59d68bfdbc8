-- `sound_regions::all_apart` meets its contract: the sessions before `left` are apart from all that follow them.
use mathlib.Core.Path.{◌≡◌}
use lib.ListN.{length}
use Rattle.sound.specs.Sound.{all_apart}
use Rattle.sound_regions.proofs.all_apart.Given as goal

abbrev pub invariant-loop-left : goal.invariant-loop-left
invariant-loop-left l = all_apart l.sessions ≡ all_apart l.left

abbrev pub decreases-loop-left : goal.decreases-loop-left
decreases-loop-left l = length l.left
