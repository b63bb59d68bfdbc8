-- `shown::visible` shows a slice byte by byte. The invariant: what was passed is shown. Assumes nothing.
use Rattle.std.proofs.Common.{◌≡◌, map, take}
use Rattle.text.specs.Seen.{seen_as}
use Rattle.text.proofs.shown.visible.Given as goal

abbrev pub invariant-loop-i : goal.invariant-loop-i
invariant-loop-i l = take l.i l.dst ≡ map (seen_as l.top) (take l.i l.src)
