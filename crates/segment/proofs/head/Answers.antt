-- `segment::head` meets its contract. Assumes nothing.
use Rattle.segment.specs.Head.{word, dict, reloc, pool, pool_first, real_pool, real, count}
use Rattle.segment.proofs.head.Goals as goal

pub returns : goal.returns
unfolding word dict reloc pool pool_first real_pool real count
returns c =
    simp (
      c.word_at-4.ensures,
      c.word_at-3.ensures,
      c.reals_of.ensures,
      c.word_at-2.ensures,
      c.word_at-pool.ensures,
      c.word_at.ensures,
      c.word_at-dict.ensures,
      c.is_least-least.ensures,
    )
