-- `words::first` is the first word. Assumes nothing.
use Rattle.text.proofs.Runs.{first_holds}
use Rattle.text.proofs.words.first.Goals as goal

pub returns : goal.returns
returns c = first_holds _ _ _ c.begun-t.ensures c.ink-n.ensures.value
