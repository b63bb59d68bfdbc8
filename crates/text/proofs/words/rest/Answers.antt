-- `words::rest` has the words after the first. Assumes nothing.
use Rattle.text.proofs.Runs.{rest_holds}
use Rattle.text.proofs.words.rest.Goals as goal

pub returns : goal.returns
returns c = rest_holds _ _ _ c.begun-t.ensures c.ink-n.ensures.value
