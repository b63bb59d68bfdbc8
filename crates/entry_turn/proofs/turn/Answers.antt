-- `entry_turn::turn` meets its contract.
use borrow.Author.Rules.{rules}
use borrow.Author.Tests.{le-leb, lt-leb}
use lib.ListN.{length, set}
use mathlib.Core.List.{List}
use mathlib.Core.Path.{◌≡◌, ap, ◌∙◌}
use native.Mathlib.Omega.{arith}
use Prim.Native.Nat.{ℕ, ◌+◌, ◌-◌, ◌≤◌}
use Rattle.basis.specs.Part.{part}
use Rattle.basis.proofs.Part.{part_take}
use Rattle.sound.specs.declared.Bench.{Bench}
use Rattle.sound.specs.declared.Session.{Session}
use Rattle.sound.specs.Below.{Turned, Cpu, state_of, RanTo}
use Rattle.sound.specs.Bench.{World, world_of, session_at, code_of, slot_of, at_sessions, at_cpu}
use Rattle.sound.proofs.Below.{count_most}
use Rattle.sound.proofs.Facts.{Opened}
use Rattle.entry.specs.Answer.{Done, done}
use Rattle.entry.specs.Entries.{done_of, ran_of, put, turn_of}
use Rattle.entry.proofs.Refusing.{none_left, passed_first, fails, holds, refuses, accepts}
use Rattle.entry.proofs.Starts.{session_guarded}
use Rattle.entry_turn.proofs.turn.Goals as goal

few_done : (code m : List ℕ) (f n base e k : ℕ) (c : Cpu) (r : Turned) (m' : List ℕ) → RanTo code m f n base e k c r m' → k ≤ 65535 → r.done ≤ 65535
few_done code m f n base e k c r m' t h = omega (arith, t.done, count_most k code (part f (f + n) m) (state_of (part base e m) c))

module _ (store : List ℕ) (w : World) (i k : ℕ) where
  ran : (code : List ℕ) (se next : Session) (r : Turned) (b : Bench) (m : List ℕ)
      → se ≡ session_at w i
      → code ≡ code_of store (slot_of w.bench.slots se)
      → Opened store w se
      → RanTo code w.mem se.window.first se.window.len se.base (se.base + se.len) k se.cpu r m
      → next ≡ at_cpu se r.cpu
      → b ≡ at_sessions w.bench (set w.bench.sessions i next)
      → record { answer = Done r.done; world = world_of b m } ≡ done (done_of store i k w) (put i (ran_of store i k w) w)
  ran code se next r b m es ec f t en eb =
      let o : w.bench.s ≤ length w.mem = omega (arith, f.above, f.inside) in
      let seen = rw es at (part_take w.bench.s w.mem se.window.first (se.window.first + se.window.len) (omega arith) f.seen o) in
      let t' = rw (ec, es) at t in
      rw (eb, en, es, t'.done, t'.cpu, t'.mem, seen)

-- ---- what the code asks

pub returns-in-Err : goal.returns-in-Err
unfolding turn_of
returns-in-Err c =
    let w = world_of c.args.b c.args.memory.now in
    let o : length c.args.b.sessions ≡ 16 = search rules in
    let g = session_guarded c.args.store.now w c.args.i _ o _ c.session_at-se.ensures c.guard.ensures in
    refuses _ _ _ _ _ (g.refuses _ _ c.in-Err.is) (c.refuse.ensures _)

pub returns-then-k-gt65535 : goal.returns-then-k-gt65535
unfolding turn_of
returns-then-k-gt65535 c =
    let w = world_of c.args.b c.args.memory.now in
    let o : length c.args.b.sessions ≡ 16 = search rules in
    let g = (session_guarded c.args.store.now w c.args.i _ o _ c.session_at-se.ensures c.guard.ensures).goes c.in_default.is in
    refuses _ _ _ _ _ (passed_first _ _ _ g.passes (fails _ _ _ _ (lt-leb _ 65535 c.if-k-gt65535.true))) (c.refuse-then-k-gt65535.ensures _)

pub overflow_add-end : goal.overflow_add-end
overflow_add-end c =
    let w = world_of c.args.b c.args.memory.now in
    let o : length c.args.b.sessions ≡ 16 = search rules in
    let g = (session_guarded c.args.store.now w c.args.i _ o _ c.session_at-se.ensures c.guard.ensures).goes c.in_default.is in
    omega (arith, g.session.inside)

pub run-ran-requires : goal.run-ran-requires
run-ran-requires c =
    let w = world_of c.args.b c.args.memory.now in
    let o : length c.args.b.sessions ≡ 16 = search rules in
    let g = (session_guarded c.args.store.now w c.args.i _ o _ c.session_at-se.ensures c.guard.ensures).goes c.in_default.is in
    let f = g.session in
    let se = c.session_at-se.result in
    let l : se.base + se.len - se.base ≡ se.len = omega arith in
    rw (c.code_of-code.ensures ∙ ap (code_of _) c.slot_at-sl.ensures, l)
    (record {
      code_value = f.checked;
      cpu_value = f.cpu_ok_lem;
      base_bound = (f.most, omega (arith, f.seen, g.few), omega (arith, f.seen, f.above), omega arith, f.inside);
    })

pub with_session-requires : goal.with_session-requires
with_session-requires c =
    let w = world_of c.args.b c.args.memory.now in
    let o : length c.args.b.sessions ≡ 16 = search rules in
    ((session_guarded c.args.store.now w c.args.i _ o _ c.session_at-se.ensures c.guard.ensures).goes c.in_default.is).low

pub overflow_cast-result : goal.overflow_cast-result
overflow_cast-result c =
    let few = c.if-k-gt65535.false in
    let done = few_done _ _ _ _ _ _ _ _ _ _ c.run-ran.ensures (omega (arith, few)) in
    omega (arith, few, done)

pub returns : goal.returns
unfolding turn_of
returns c =
    let w = world_of c.args.b c.args.memory.now in
    let o : length c.args.b.sessions ≡ 16 = search rules in
    let g = (session_guarded c.args.store.now w c.args.i _ o _ c.session_at-se.ensures c.guard.ensures).goes c.in_default.is in
    accepts _ _ _ (passed_first _ _ _ g.passes (holds _ _ _ _ _ (le-leb _ 65535 c.if-k-gt65535.false) none_left))
    (ran _ w _ _ _ _ _ c.run-ran.result _ _ c.session_at-se.ensures (c.code_of-code.ensures ∙ ap (code_of _) c.slot_at-sl.ensures)
    g.session c.run-ran.ensures c.at.ensures c.with_session.ensures)
