-- `turning::turn_words` meets its contract. Assumes nothing.
use mathlib.Core.Path.{ap}
use native.Mathlib.Omega.{arith}
use Rattle.segment.specs.declared.Segment.{Segment}
use Rattle.segment.proofs.Laws.{all_good}
use Rattle.turning.proofs.Positions.{all_written}
use Rattle.turning.proofs.turn_words.Goals as goal

pub swap_words-requires : goal.swap_words-requires
swap_words-requires c =
    let g = (all_good c.args.seg.now c.requires.0).header in
    (omega arith, omega arith, omega arith)

pub swap_words-requires-2 : goal.swap_words-requires-2
swap_words-requires-2 c =
    let g = (all_good c.args.seg.now c.requires.0).header in
    (omega arith, omega arith, omega arith)

pub swap_words-requires-3 : goal.swap_words-requires-3
swap_words-requires-3 c =
    let g = (all_good c.args.seg.now c.requires.0).header in
    (omega arith, omega (arith, ap (λ (h : Segment). h.dict) c.head-h.ensures, ap (λ (h : Segment). h.count) c.head-h.ensures), omega arith)

pub returns : goal.returns
returns c =
    all_written c.args.seg.now c.requires.0 _ (ap (λ (h : Segment). h.dict) c.head-h.ensures) (ap (λ (h : Segment). h.count) c.head-h.ensures)
    (rw c.copy_from_slice.ensures.after) c.swap_words.ensures c.swap_words-2.ensures c.swap_words-3.ensures c.swap_frames.ensures
