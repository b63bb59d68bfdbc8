-- `sound_test::sessions::session_ok` meets its contract: the record is not used; no slot has its number; it is judged with its slot.
use native.Mathlib.Omega.{arith}
use borrow.Author.Tests.{le-leb, lt-leb}
use Rattle.basis.specs.Bools.{every}
use Rattle.sound.specs.Bench.{no_slot}
use Rattle.sound.specs.Sound.{session_ok}
use Rattle.sound_test.proofs.sessions.session_ok.Goals as goal

pub returns-then-not-se : goal.returns-then-not-se
unfolding session_ok
returns-then-not-se c = rw c.if-not-se.true

pub returns-in_default : goal.returns-in_default
unfolding session_ok every
returns-in_default c = rw (c.if-not-se.false, lt-leb c.args.se.now.slot 15 (omega (arith, c.in_default.ensures.lookup)))

pub returns : goal.returns
unfolding session_ok every
returns c =
    rw (c.session_fits.ensures, c.if-not-se.false, le-leb c.args.se.now.slot 15 (omega (arith, c.in-Some.ensures.lookup)), ← (c.in-Some.ensures.lookup.3.1 no_slot))
