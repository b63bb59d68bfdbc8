-- `segment::is_least` meets its contract. Assumes nothing.
use Rattle.segment.specs.Head.{least}
use Rattle.segment.proofs.is_least.Goals as goal

pub returns : goal.returns
returns c = unfold least in simp c.byte_at.ensures
