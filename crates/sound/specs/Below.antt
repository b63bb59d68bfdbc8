-- All that a bench knows of the layers below it: the verdict on a segment, the registers' ranges, the start, and the documented machine's
-- run of k steps with its count. Nothing above this file names a definition of the machine or of a segment in another way.
-- Below: session, machine, segment. The laws that go with it are in proofs/Below.
use Rattle.std.specs.Prelude.{List, ℕ}
use Rattle.session.specs.Session.{SessionState}
use Rattle.machine.specs.declared.Cpu.{Cpu}
pub use Rattle.session.specs.Session.{SessionState}
pub use Rattle.machine.specs.declared.Cpu.{Cpu}
pub use Rattle.machine.specs.declared.Turned.{Turned}
pub use Rattle.segment.specs.declared.Routine.{Routine}
pub use Rattle.segment.specs.Head.{routine_of}
unfoldable pub use Rattle.segment.specs.Judge.{checks, judged}
pub use Rattle.session.specs.Session.{floor_of, no_cpu, RanTo}
unfoldable pub use Rattle.session.specs.Session.{start_of, cpu_ok, run_of, count_of}

-- a session's state: its words, and its registers and kind
abbrev pub state_of : List ℕ → Cpu → SessionState
state_of words c = record { words = words; cpu = c }

-- the registers and kind of a state
abbrev pub cpu_of : SessionState → Cpu
cpu_of st = st.cpu
