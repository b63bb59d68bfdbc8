-- The measure of `plan_calls::walk`: each call has one link fewer to follow.
use Rattle.plan_calls.proofs.+walk.Given as goal

abbrev pub decreases-walk : goal.decreases-walk
decreases-walk l = l.d
