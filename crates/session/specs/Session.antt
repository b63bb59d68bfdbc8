-- A session as a record of the bench holds it, and the documented machine on it: its ranges, its start, its run and its count.
-- Above: the bench, which names no other definition of the machine; below: `pmachine`, whose states these are in the code's types.
use Rattle.std.specs.Prelude.{◌≡◌, List, Bool, ℕ, ◌+◌}
use Rattle.basis.specs.Part.{part, splice}
use Rattle.pmachine.specs.State.{Registers, Kind as Kinds, ready, finished, faulted, State}
use Rattle.pmachine.specs.Step.{floor}
use Rattle.pmachine.specs.Sound.{kind_in_range, in_range, starting}
use Rattle.pmachine.specs.Run.{run, steps_done}
use Rattle.plan.specs.Answer.{regs_of}
use Rattle.machine.specs.declared.Kind.{Kind}
use Rattle.machine.specs.declared.Kind.TheVariants.{Ready, Finished, Faulted}
use Rattle.machine.specs.declared.Cpu.{Cpu}
use Rattle.machine.specs.declared.Turned.{Turned}
use Rattle.machine.specs.Memory.{kind_of}

-- its words, and its registers and kind
pub record SessionState : Type 0 where
  pub words : List ℕ
  pub cpu : Cpu

-- the machine's state that it is, and back
abbrev pub state_of : SessionState → State
state_of st = record { words = st.words; registers = regs_of st.cpu.regs; kind = kind_of st.cpu.kind }

abbrev pub kind_from : Kinds → Kind
kind_from ready = Ready
kind_from finished = Finished
kind_from (faulted n place) = Faulted n place

abbrev pub cpu_from : Registers → Kinds → Cpu
cpu_from r k = record { kind = kind_from k; regs = record { sp = r.sp; m = r.m; counter = r.counter; routine = r.routine; lowest = r.lowest } }

abbrev pub state_from : State → SessionState
state_from t = record { words = t.words; cpu = cpu_from t.registers t.kind }

-- the lowest stack pointer, 6+G
abbrev pub floor_of : List ℕ → ℕ
floor_of code = floor code

-- the registers of a record that is not used
abbrev pub no_cpu : Cpu
no_cpu = record { kind = Ready; regs = record { sp = 0; m = 0; counter = 0; routine = 0; lowest = 0 } }

-- the registers at the start of routine 1
unfoldable pub start_of : List ℕ → ℕ → Cpu
start_of code len = cpu_from (starting code len) ready

-- the registers and kind of a sound session with L words on this segment
unfoldable pub kind_ok : List ℕ → Kind → Bool
kind_ok code k = kind_in_range code (kind_of k)

unfoldable pub cpu_ok : List ℕ → ℕ → Cpu → Bool
cpu_ok code len c = in_range code len (regs_of c.regs) (kind_of c.kind)

-- k steps of the documented machine on this segment and these shared words, or fewer where the session is no longer ready
unfoldable pub run_of : ℕ → List ℕ → List ℕ → SessionState → SessionState
run_of k code shared st = state_from (run code shared k (state_of st))

-- the steps done
unfoldable pub count_of : ℕ → List ℕ → List ℕ → SessionState → ℕ
count_of k code shared st = steps_done code shared k (state_of st)

-- a session's state, of a memory in which its region is the words from base up to e
abbrev pub st_at : ℕ → ℕ → List ℕ → Cpu → SessionState
st_at base e m c = record { words = part base e m; cpu = c }

-- k steps, on the memory: the region is that of the run on the region alone, with the window's words for the shared words, which are `seen` words
-- from the first on; and no other word changes
pub record RanTo (code m : List ℕ) (first seen base e k : ℕ) (c : Cpu) (r : Turned) (m' : List ℕ) : Type 0 where
  pub cpu : r.cpu ≡ (run_of k code (part first (first + seen) m) (st_at base e m c)).cpu
  pub done : r.done ≡ count_of k code (part first (first + seen) m) (st_at base e m c)
  pub mem : m' ≡ splice base e (run_of k code (part first (first + seen) m) (st_at base e m c)).words m
