-- Every marked case holds: each side is computed.
-- Above: nothing; below: the definitions on the way, which are all opened here.
use mathlib.Core.Path.{refl}
use Rattle.basis.specs.Bools.{inside}
use Rattle.basis.specs.Integer.{modulo, integer_of, word_of, unary, binary, add_of, mul_of, quot_of, rem_of}
use Rattle.basis.specs.Cases.{minus}
use Rattle.operand.specs.Bytes.{word_by}
use Rattle.operand.specs.Operand.{if_there, signed, fetched}
use Rattle.segment.specs.Head.{least, word, dict, count, entry, linked, datasize, start, pool}
use Rattle.segment.specs.Small.{small, small_turned}
use Rattle.turning.specs.Turn.{frame, framed, position, other, list_of, swap_byte, swap_at, turned}
use Rattle.pmachine.specs.Opcode.{opcode, row_in, appendix_b}
use Rattle.pmachine.specs.Decoding.{joined, and_then, operands, lawful, all_lawful, decoded_with, row_decoded, decode, comes_to, row_comes_to, fetches_to}
use Rattle.pmachine.specs.Step.{follow, reached, word_at, target, mark_at, resumes, ground_for, first_fault, asks, effect, outcome, judged_by, judge}
use Rattle.pmachine.specs.Sound.{starting, opened}
use Rattle.pmachine.specs.Run.{is_ready, written, place_of, settled, step, run, steps_done}
use Rattle.demands.specs.Marked.{All, after, cut_short, after_cut, marked_cases}

pub cases_hold : All marked_cases
unfolding marked_cases after cut_short after_cut minus inside modulo integer_of word_of unary binary add_of mul_of quot_of rem_of word_by if_there signed
    fetched least word dict count entry linked datasize start pool small small_turned frame framed position other list_of swap_byte swap_at turned opcode row_in
    appendix_b joined and_then operands lawful all_lawful decoded_with row_decoded decode follow reached word_at target mark_at resumes ground_for first_fault
    asks effect outcome judged_by judge starting opened is_ready written comes_to row_comes_to fetches_to place_of settled step run steps_done
cases_hold =
    (refl, (refl, (refl, (refl, (refl, ((refl, refl), (refl, (refl, (refl, (refl, (refl, (refl, (refl, ((refl, refl), ((refl, refl), (refl, tt))))))))))))))))
