-- `entry_close::close` meets its contract.
use borrow.Author.Rules.{rules}
use lib.ListN.{length}
use mathlib.Core.List.{[]}
use mathlib.Core.Path.{◌≡◌}
use Prim.Native.Nat.{ℕ}
use native.Mathlib.Omega.{arith}
use Rattle.sound.specs.declared.Session.{Session}
use Rattle.sound.specs.Bench.{no_session, World, world_of, session_at}
use Rattle.entry.specs.Answer.{done}
use Rattle.entry.specs.Entries.{cleared, close_of}
use Rattle.entry.proofs.Refusing.{refuses, accepts}
use Rattle.entry.proofs.Starts.{session_guarded}
use Rattle.entry_close.proofs.close.Goals as goal

closed : (w x : World) (i : ℕ) (se none : Session) → x ≡ cleared i none se.base se.len w → none ≡ no_session → se ≡ session_at w i
    → done 0 x ≡ done 0 (cleared i no_session (session_at w i).base (session_at w i).len w)
closed w x i se none e n s = rw (e, n, s)

pub returns-in-Err : goal.returns-in-Err
unfolding close_of
returns-in-Err c =
    let w = world_of c.args.b c.args.memory.now in
    let o : length c.args.b.sessions ≡ 16 = search rules in
    let g = session_guarded c.args.store.now w c.args.i _ o _ c.session_at-se.ensures c.guard.ensures in
    refuses _ _ _ _ _ (g.refuses [] _ c.in-Err.is) (c.refuse.ensures _)

pub clear-out-requires : goal.clear-out-requires
clear-out-requires c =
    let w = world_of c.args.b c.args.memory.now in
    let o : length c.args.b.sessions ≡ 16 = search rules in
    let g = (session_guarded c.args.store.now w c.args.i _ o _ c.session_at-se.ensures c.guard.ensures).goes c.in_default.is in
    (omega (arith, g.low), omega (arith, g.session.inside))

pub returns : goal.returns
unfolding close_of
returns c =
    let w = world_of c.args.b c.args.memory.now in
    let o : length c.args.b.sessions ≡ 16 = search rules in
    let g = session_guarded c.args.store.now w c.args.i _ o _ c.session_at-se.ensures c.guard.ensures in
    accepts _ _ _ (g.goes c.in_default.is).passes (closed w _ _ _ _ c.clear-out.ensures c.no_session.ensures c.session_at-se.ensures)
