-- `Site::turns` ends. The measure is the number of steps that are left. Assumes nothing.
use Rattle.pond_bench.proofs.site.Site.turns.Given as goal

abbrev pub decreases-loop-left : goal.decreases-loop-left
decreases-loop-left l = l.left
