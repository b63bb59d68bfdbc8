-- `demands` is a proof of the record in specs/Demands: each field is the theorem of the layer that it speaks of.
-- Above: nothing. Below: basis, operand, turning, promises, isolation, and the witness.
use mathlib.Core.Path.{◌≡◌, refl, sym, ap, ◌∙◌}
use mathlib.Core.Logic.{◌↔◌, ◌⊎◌}
use mathlib.Core.List.{List}
use mathlib.Core.Bool.{true}
use Prim.Native.Nat.{ℕ, ◌+◌, ◌≤◌, ◌<◌}
use lib.ListN.{length-set}
use Rattle.basis.specs.Checks.{ruling}
use Rattle.basis.proofs.Checks.{all_pass, pass_all, first_failing, failing_first}
use Rattle.basis.proofs.Integer.{division, remainder_smaller, remainder_sign}
use Rattle.operand.specs.Operand.{out}
use Rattle.operand.specs.Reading.{Lies}
use Rattle.operand.proofs.Operands.{reads}
use Rattle.segment.specs.Head.{words, word, pool, pool_first, pool_ok}
use Rattle.segment.specs.Judge.{checks, judged}
use Rattle.segment.proofs.Laws.{unlinked_checks, unlinked_first, unlinked_numbers, pool_check, four}
use Rattle.turning.proofs.Positions.{unlinked_words, turn_as_judged, turn_nine, turn_ten, turn_accepts}
use Rattle.turning.proofs.Twice.{once, twins}
use Rattle.turning.proofs.Outputs.{kept, writes, turns_back}
use Rattle.pmachine.proofs.Rows.{lines_consecutive}
use Rattle.pmachine.proofs.Frame.{step_kept}
use Rattle.pmachine.proofs.Places.{fault_place, fault_one, first_missing, place_outside, place_others, place_at_end}
use Rattle.pmachine.proofs.Pushed.{ldc_judged, xjp_judged, in_range_lem, stack_holds, stack_order, pool_words, ldc_reads, xjp_reads}
use Rattle.pmachine.proofs.Lowest.{step_lowest, opening_lowest, sound_lowest}
use Rattle.pmachine.proofs.Keeps.{step_keeps, run_keeps}
use Rattle.pmachine.proofs.Runs.{run_add, count_add, count_most, count_all}
use Rattle.pmachine.specs.Sound.{opened as openedOn}
use Rattle.sound.specs.declared.Window.{Window}
use Rattle.sound.specs.Bench.{World, session_at, shared_of, at_window}
use Rattle.sound.specs.Sound.{Sound}
use Rattle.sound.proofs.Facts.{window_good, outside_unsound}
use Rattle.entry.specs.Answer.{Done, Result}
use Rattle.entry.specs.Entries.{window_open_of}
use Rattle.archive_records.specs.Records.{range_of}
use Rattle.promises.specs.Words.{Zeroed, OnlyRecord}
use Rattle.promises.proofs.Kept.{new_sound, new_answers}
use Rattle.promises.proofs.Requests.{answers, unchanged, stays_sound, one_answer}
use Rattle.promises.proofs.Openings.{fifteen, thirteen, opened_is}
use Rattle.archive_records.proofs.Order.{accepted_is}
use Rattle.archive_records.proofs.Ranges.{all_and_only, words_are, empty_at_zero, inside}
use Rattle.promises.proofs.Closings.{closed}
use Rattle.isolation.proofs.Theorem.{isolation}
use Rattle.demands.specs.Demands.{OnlyThere, Opened, Demands}
use Rattle.demands.proofs.Cases.{cases, walks}
use Rattle.demands.proofs.Calls.{calls}
use Rattle.demands.proofs.Arithmetic.{arithmetic}
use Rattle.demands.proofs.Marked.{cases_hold}
use Rattle.demands.proofs.Lowest.{least_of, opening_at, least_of_all, lowest_since}
use Rattle.demands.proofs.Windows.{window_read, window_only}
use Rattle.demands.proofs.Farms.{archive_falls, farm_done, other_farms, other_farms_opened}
use Rattle.demands.proofs.Tables.{arm_offset_lem}
use Rattle.demands.proofs.Witness.{witness}

-- the parts of an opening and a closing, each found by what it says
only_there : (w v : World) (i a len : ℕ) → Zeroed w v a len → OnlyRecord w v i → OnlyThere w v i a len
only_there w v i a len z o = search

opening_done : (store : List ℕ) (w : World) (slot len : ℕ) (v : Window) (i : ℕ) → Sound store w → (window_open_of store slot len v w).answer ≡ Done i
    → Opened store slot len v w (window_open_of store slot len v w).world i
opening_done store w slot len v i g e = let o = opened_is store w slot len v g i e in search only_there

judged_is : (s : List ℕ) → judged s ≡ ruling (checks s)
unfolding judged
judged_is s = refl

pool_checked : (s : List ℕ) → (pool_ok s ≡ true) ↔ ((pool s ≡ 0) ⊎ ((11 ≤ pool s) × (pool s + word s (pool s) < words s)))
unfolding pool_first
pool_checked s = pool_check s

pub demands : Demands
demands =
    record {
      refuses_exactly = λ cs n p. (first_failing n p cs, failing_first n p cs);
      accepts_exactly = λ cs. (all_pass cs, pass_all cs);
      judged_by_lem = judged_is;
      unlinked_checks = unlinked_checks;
      unlinked_first = unlinked_first;
      unlinked_words = unlinked_words;
      unlinked_numbers = unlinked_numbers;
      pool_check = pool_checked;
      pool_refused = four;
      turned_by = turn_as_judged;
      turned_nine = turn_nine;
      turned_ten = turn_ten;
      turned_passed = turn_accepts;
      answers = answers;
      new_answers = new_answers;
      unchanged = unchanged;
      output_unchanged = kept;
      output_size = λ s o. (writes s o).size;
      output_first = λ s o. (writes s o).first;
      output_rest = λ s o. (writes s o).rest;
      new_sound = new_sound;
      stays_sound = stays_sound;
      fifteen = λ store w slot len v g. fifteen store w slot len v g;
      opened = λ store w slot len v i g e. opening_done store w slot len v i g e;
      older_opening = λ store w slot len. refl;
      window_refused = λ store w slot len v g. thirteen store w slot len v g;
      window_sound =
          λ store w i v g u. (
            λ h. outside_unsound store w g i u v
                (record { sound = h; sixteen = length-set w.bench.sessions i (at_window (session_at w i) v) ∙ g.sixteen }),
            λ h. (window_good store w g i u v h).sound,
          );
      archive_accepted = accepted_is;
      archive_falls = archive_falls;
      all_and_only = all_and_only;
      range_words = words_are;
      range_empty = empty_at_zero;
      range_inside = inside;
      farm_opened =
          λ store w slot len farm i g e.
          let f = farm_done store w slot len farm i e in
          (f.0, rw f.1 (opening_done store w slot len (range_of (shared_of w) farm) i g (ap (λ (r : Result). r.answer) (sym f.1) ∙ e)));
      closed = λ store w i g u. let o = closed store w i g u in (o.0, search only_there);
      one_answer = one_answer;
      operand_there = λ f s at v n e. rw e at (reads f s at);
      operand_cut = λ f s at p e. let l : Lies s at (out p) = rw e at (reads f s at) in l.3;
      witness = witness;
      lines_in_order = lines_consecutive;
      division = division;
      remainder_smaller = remainder_smaller;
      remainder_sign = remainder_sign;
      step_kept = step_kept;
      fault_place = fault_place;
      fault_one = fault_one;
      first_missing = first_missing;
      place_outside = place_outside;
      place_others = place_others;
      place_at_end = place_at_end;
      ldc_judged = ldc_judged;
      xjp_judged = xjp_judged;
      in_range_lem = in_range_lem;
      arm_offset_lem = arm_offset_lem;
      stack_holds = λ s shared t mode b n next high i now then.
          let h = stack_holds s shared t mode b n next high i now then in
          record { stack = h.stack; below = h.below; count = h.count; registers = h.registers };
      stack_order = stack_order;
      pool_words = pool_words;
      ldc_reads = ldc_reads;
      xjp_reads = xjp_reads;
      step_lowest = step_lowest;
      run_lowest = least_of;
      opening_lowest = λ s shared l k. (opening_at s l, least_of_all s shared k (openedOn s l) (opening_lowest s shared l k));
      sound_lowest = sound_lowest;
      window_read = λ store w i n next x g u. window_read store w g i u n next x;
      window_only = window_only;
      step_keeps = step_keeps;
      run_keeps = run_keeps;
      run_add = run_add;
      count_add = count_add;
      count_most = count_most;
      count_all = count_all;
      cases = cases;
      calls = calls;
      walks = walks;
      arithmetic = arithmetic;
      marked = cases_hold;
      other_sex = λ s ok none.
          let w = twins s ok none in
          record {
            size = w.lengths;
            lows = w.lows;
            highs = w.highs;
            others = w.others;
            sex = w.sexes;
            same_dict = w.dicts;
            same_reloc = w.relocs;
            same_pool = w.pools;
            same_real_pool = w.real_pools;
            same_real = w.reals;
            same_reserved = (w.reserved_9, w.reserved_10);
            same_count = w.counts;
            same_entry = λ k l h. (w.routines k l h).entries;
            same_datasize = λ k l h. (w.routines k l h).datasizes;
            same_exitic = λ k l h. (w.routines k l h).exitics;
            same_start = λ k l h. (w.routines k l h).starts;
            same_positions = w.positions;
            same_verdict = w.rulings;
            twice = w.again;
          };
      turns_back = λ s a b h ea eb. ((turns_back s a b h ea eb).accepted_again, (turns_back s a b h ea eb).restored);
      once = once.both_rules;
      turns_stay_sound = isolation.stays_sound;
      shared_kept = isolation.shared_kept;
      in_turn = isolation.in_turn;
      one_after_another = isolation.one_after_another;
      one_after_another_answers = isolation.one_after_another_answers;
      in_any_order = isolation.in_any_order;
      same_answers = isolation.same_answers;
      on_its_own = λ store ts w g i u. let o = isolation.on_its_own store ts w g i u in search;
      lowest_since = lowest_since;
      not_open = isolation.not_open;
      two_runs = λ store store' ts us w w' i j g h m a. isolation.two_runs store store' ts us w w' i j g h m search;
      two_ends = λ store store' ts us w w' i j g h m a. let o = isolation.two_ends store store' ts us w w' i j g h m search in search;
      other_farms = other_farms;
      other_farms_opened = other_farms_opened;
    }
