-- `fields::fields_of` ends. The measure is what is left to go through. Assumes nothing.
use Rattle.std.proofs.Common.{length}
use Rattle.pond_sheet.proofs.fields.fields_of.Given as goal

abbrev pub decreases-loop-word : goal.decreases-loop-word
decreases-loop-word l = length l.rest
