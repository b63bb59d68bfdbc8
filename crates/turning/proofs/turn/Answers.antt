-- `turning::turn` meets its contract. Assumes nothing.
use mathlib.Core.Path.{sym}
use Rattle.turning.specs.Turn.{turned_into, output_of}
use Rattle.turning.proofs.Positions.{turn_good}
use Rattle.turning.proofs.turn.Goals as goal

pub turn_words-requires : goal.turn_words-requires
turn_words-requires c = let t = turn_good _ _ (sym c.in_ok-judge_turn.ensures) in (t.0, t.2)

pub returns-in_err-judge_turn-clause-output : goal.returns-in_err-judge_turn-clause-output
unfolding output_of turned_into
returns-in_err-judge_turn-clause-output c = rw (sym c.in_err-judge_turn.ensures)

pub returns-clause-output : goal.returns-clause-output
unfolding output_of turned_into
returns-clause-output c = rw (sym c.in_ok-judge_turn.ensures) c.turn_words.ensures
