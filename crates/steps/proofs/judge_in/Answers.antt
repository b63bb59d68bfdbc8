-- `steps::judge_in` meets its contract: the region and the shared words are parts of the memory. Assumes nothing.
use Rattle.basis.specs.Part.{part}
use Rattle.steps.proofs.judge_in.Goals as goal

pub returns : goal.returns
unfolding part
returns c = c.judge.ensures
