-- `witness` is a proof of what specs/Witness says: soundness by the promises, all else by computing the definitions.
-- Above: nothing. Below: promises, and every definition that the computation opens.
use mathlib.Core.Path.{◌≡◌, refl}
use lib.ListN.{replicate}
use Rattle.basis.specs.Bools.{every, inside}
use Rattle.basis.specs.Part.{part, splice}
use Rattle.operand.specs.Bytes.{word_by}
use Rattle.operand.specs.Operand.{if_there, fetched}
use Rattle.segment.specs.Head.{least, word, dict, reloc, pool, pool_first, real_pool, count, entry, linked, datasize, exitic, start, sex_bytes}
use Rattle.basis.specs.Checks.{passed, ruling}
use Rattle.segment.specs.Judge.{head_checks, routine_checks, routines_from, checks, judged}
use Rattle.turning.specs.Turn.{frame, framed, position, other, list_of, swap_byte, swap_at, turned}
use Rattle.pmachine.specs.Opcode.{opcode, row_in, appendix_b}
use Rattle.pmachine.specs.Decoding.{joined, and_then, operands, lawful, all_lawful, decoded_with, row_decoded, decode, comes_to, row_comes_to, fetches_to}
use Rattle.basis.specs.Integer.{modulo, integer_of, word_of, binary, truth, ordered, sub_of, leq_of}
use Rattle.pmachine.specs.Pool.{in_pool, swaps, words_from, constants_of, on_top, in_table, arm_offset}
use Rattle.pmachine.specs.Step.{word_at, target, case_target, reached, mark_at, resumes, ground_for, first_fault, asks, effect, outcome, judged_by, judge}
use Rattle.pmachine.specs.Sound.{kind_in_range, in_range, starting}
use Rattle.pmachine.specs.Run.{is_ready, written, place_of, settled, step, run, steps_done}
use Rattle.session.specs.Session.{start_of, cpu_ok, run_of, count_of}
use Rattle.sound.specs.Bench.{world_of}
use Rattle.sound.specs.Sound.{limits_ok, slot_ok, placed, apart, session_ok, sound_b, Sound}
use Rattle.entry.specs.Answer.{answer_ruling, refusing}
use Rattle.entry.specs.Entries.{new_of, load_of, len_ok, gap_at, gap_of, window_open_of, turn_of, close_of}
use Rattle.archive_records.specs.Records.{never_falls, how_many, first_of}
use Rattle.archive.specs.Archive.{range_answer, farm_open_of}
use Rattle.promises.specs.Requests.{loading, opening, turning}
use Rattle.promises.proofs.Kept.{new_sound}
use Rattle.promises.proofs.Requests.{stays_sound}
use Rattle.demands.specs.Witness.{segment, unlinked, declared, linking, calling, short, ran_out, earlier, word as byteSexed, units, pools, reporting, reported, popped, lowest_at, reads, archived, farmed, read, seeing, store, loaded, opened, ran, openings, full, Witness}

made : answer_ruling (new_of 56 4).answer ≡ passed
unfolding new_of limits_ok every
made = refl

made_sound : Sound store (world_of (new_of 56 4).bench (replicate 56 0))
made_sound = new_sound store (replicate 56 0) 56 4 made refl

ran_sound : Sound store ran
unfolding ran opened loaded
ran_sound =
    stays_sound store (turning 2 9) _
    (stays_sound store (turning 1 1) _
    (stays_sound store (opening 0 16) _
    (stays_sound store (opening 1 16) _
    (stays_sound store (opening 0 16) _
    (stays_sound store (loading 1 32 32) _
    (stays_sound store (loading 0 0 32) _ made_sound))))))

pub witness : Witness
unfolding segment unlinked declared linking calling short ran_out earlier byteSexed units pools reporting reported popped lowest_at store loaded opened
    ran openings full frame framed position other list_of swap_byte swap_at turned every inside part splice word_by if_there fetched least word dict reloc
    pool pool_first real_pool count entry linked datasize exitic start sex_bytes head_checks routine_checks routines_from checks ruling judged opcode row_in
    appendix_b joined and_then operands lawful all_lawful decoded_with row_decoded decode modulo integer_of word_of binary truth ordered sub_of leq_of in_pool
    swaps words_from constants_of on_top in_table arm_offset target case_target reached mark_at resumes ground_for first_fault asks effect outcome judged_by
    judge kind_in_range in_range starting is_ready written comes_to row_comes_to fetches_to place_of settled step run steps_done start_of cpu_ok run_of count_of
    limits_ok slot_ok placed apart session_ok sound_b refusing new_of load_of len_ok gap_at gap_of window_open_of turn_of close_of
    reads archived farmed read seeing word_at never_falls how_many first_of range_answer farm_open_of
witness =
    record {
      sound = ran_sound;
      ready = refl;
      finished = refl;
      faulted = refl;
      turn_ready = refl;
      turn_finished = refl;
      turn_faulted = refl;
      small_run = refl;
      small_words = refl;
      unlinked_loads = (refl, refl);
      unlinked_call = refl;
      twin_call = refl;
      ran_out_lem = refl;
      ran_out_counter = refl;
      earlier_turn = refl;
      earlier_place = refl;
      units_words = refl;
      twin_words = refl;
      units_finished = (refl, refl);
      real_pool_lem = refl;
      real_pool_words = refl;
      first_word = refl;
      first_word_sound = refl;
      came_back = (refl, refl);
      lowest_sound = (refl, refl);
      lowest_below = refl;
      lowest_above = (refl, refl);
      own_range = (refl, refl, refl);
      own_records_lem = (refl, refl);
      no_rival = (refl, refl);
      no_records = refl;
      all_shared_lem = refl;
      falls = (refl, refl);
      falls_unsound = refl;
      equal_farms = refl;
      bad_slot = refl;
      window_at_end = (refl, refl);
      window_past = (refl, refl);
      window_wraps = (refl, refl);
      no_bench = refl;
      not_sound = refl;
      no_session_lem = refl;
      too_many = refl;
      odd_start = refl;
      half_segment = refl;
      bad_entry = refl;
      too_short = refl;
      no_record = refl;
      no_gap = refl;
      again = refl;
    }
