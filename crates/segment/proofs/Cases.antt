-- The document's small segment and its turned one are accepted; a segment of 33 bytes is refused. The other cases stand in the table of marked cases.
-- Below: the verdict. Assumes nothing.
use mathlib.Core.Path.{◌≡◌, refl}
use mathlib.Core.List.{◌∷◌}
use Rattle.basis.specs.Bools.{inside}
use Rattle.basis.specs.Checks.{passed, refused, ruling}
use Rattle.operand.specs.Bytes.{word_by}
use Rattle.segment.specs.Head.{least, word, dict, reloc, pool, pool_first, count, entry, linked, datasize, exitic, sex_bytes}
use Rattle.segment.specs.Judge.{head_checks, routine_checks, routines_from, checks, judged}
use Rattle.segment.specs.Small.{small, small_turned}

pub record Judgements : Type 0 where
  pub ours : judged small ≡ passed
  pub theirs : judged small_turned ≡ passed
  pub odd : judged (0 ∷ small) ≡ refused 1 0

pub judgements : Judgements
unfolding small small_turned word_by inside least word dict reloc pool pool_first count entry linked datasize exitic sex_bytes head_checks routine_checks routines_from checks ruling judged
judgements = record { ours = refl; theirs = refl; odd = refl }
