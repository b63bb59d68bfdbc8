-- `ends::code_end` is its definition: the loop has passed the words of the routines 1 to k. Assumes nothing.
use Rattle.std.proofs.Common.{◌≡◌}
use Rattle.spans.specs.Ends.{end_by}
use Rattle.spans.proofs.ends.code_end.Given as goal

abbrev pub invariant-loop-k : goal.invariant-loop-k
invariant-loop-k l = l.end ≡ end_by l.seg l.start l.k
