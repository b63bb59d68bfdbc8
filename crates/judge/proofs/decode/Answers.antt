-- `judge::decode` meets its contract: the byte, or that there is none. Assumes nothing.
use mathlib.Core.Path.{sym}
use Rattle.judge.proofs.First.{past, there}
use Rattle.judge.proofs.decode.Goals as goal

pub returns-then-seg-at : goal.returns-then-seg-at
returns-then-seg-at c = sym (past c.args.seg.now c.args.at c.requires c.if-seg-at.true)

pub returns : goal.returns
returns c = sym (there c.args.seg.now c.args.at c.requires c.if-seg-at.false)
