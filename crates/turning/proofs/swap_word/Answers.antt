-- `turning::swap_word` meets its contract. Assumes nothing.
use native.Mathlib.Omega.{arith}
use Rattle.turning.proofs.Swaps.{swap_word}
use Rattle.turning.proofs.swap_word.Goals as goal

pub returns : goal.returns
returns c =
    let a = c.args in
    swap_word a.seg.now a.out.now a.w (omega arith)
