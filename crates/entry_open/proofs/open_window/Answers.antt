-- `entry_open::open_window` meets its contract.
use borrow.Author.Rules.{rules}
use borrow.Author.Tests.{le-leb, lt-leb}
use lib.ListN.{length}
use mathlib.Core.Bool.{Bool, true, ◌&&◌}
use mathlib.Core.List.{List, ◌∷◌, ◌++◌}
use mathlib.Core.Path.{◌≡◌, sym, ap, ◌∙◌}
use native.Mathlib.Omega.{arith}
use Prim.Native.Nat.{ℕ, ◌≤◌, ◌<◌}
use Rattle.basis.specs.Checks.{Check, check, Ruling, ruling}
use Rattle.sound.specs.declared.Session.{Session}
use Rattle.sound.specs.declared.Slot.{Slot}
use Rattle.sound.specs.declared.Window.{Window}
use Rattle.sound.specs.Below.{Cpu, start_of}
use Rattle.sound.specs.Bench.{World, world_of, slot_at, code_of, fresh}
use Rattle.sound.specs.Sound.{inside_shared}
use Rattle.std.specs.Prelude.{Some}
use Rattle.entry.specs.Answer.{done}
use Rattle.entry.specs.Entries.{begins, loaded_at, len_ok, unused, record_for, gap_for, found, place_in, cleared, opens, window_open_of}
use Rattle.entry.proofs.Refusing.{none_left, passed_first, fails, holds, refuses, accepts}
use Rattle.entry.proofs.Starts.{Begun, slot_guarded}
use Rattle.entry_open.proofs.Lowest.{first_some, first_none, found_inside}
use Rattle.entry_open.proofs.open_window.Goals as goal

opened : (w : World) (slot len i a : ℕ) (v : Window) (code code' : List ℕ) (c : Cpu) (se : Session) (x : World)
    → x ≡ cleared i se a len w
    → se ≡ fresh slot a len v c
    → c ≡ start_of code len
    → code ≡ code'
    → i ≡ record_for w
    → gap_for w len ≡ Some a
    → done i x ≡ opens slot len v (start_of code' len) (record_for w) (place_in (gap_for w len)) w
opened w slot len i a v code code' c se x ex es ec eo ei eg = rw (ex, es, ec, eo, ei, eg)

judged : (l i r : Bool) (code code' : List ℕ) (len s : ℕ) (v : Window) → r ≡ (l && i) → l ≡ len_ok code len → i ≡ inside_shared s v → code ≡ code'
    → r ≡ (len_ok code' len && inside_shared s v)
judged l i r code code' len s v er el ei ec = rw (er, el, ei, ec)

module _ (store : List ℕ) (w : World) (slot : ℕ) where
  -- the slot's code
  coded : {sl : Slot} {code : List ℕ} → sl ≡ slot_at w.bench.slots slot → code ≡ code_of store sl → code ≡ code_of store (slot_at w.bench.slots slot)
  coded e h = h ∙ ap (code_of store) e

  -- past 13
  past_13 : (len : ℕ) (v : Window) {r : Bool} → Begun store w (loaded_at w slot)
      → r ≡ (len_ok (code_of store (slot_at w.bench.slots slot)) len && inside_shared w.bench.s v)
      → r ≡ true
      → (ds : List Check) (q : Ruling)
      → ruling ds ≡ q
      → ruling (begins store w (loaded_at w slot) ++ (check 13 0 (len_ok (code_of store (slot_at w.bench.slots slot)) len && inside_shared w.bench.s v) ∷ ds)) ≡ q
  past_13 len v g e t ds q h = passed_first _ _ _ g.passes (holds _ _ _ _ _ (sym e ∙ t) h)

-- ---- what the code asks

pub returns-in-Err : goal.returns-in-Err
unfolding window_open_of
returns-in-Err c =
    let w = world_of c.args.b c.args.memory.now in
    let o : length c.args.b.slots ≡ 16 = search rules in
    let v = slot_guarded c.args.store.now w c.args.slot _ o _ c.slot_at-sl.ensures c.guard.ensures in
    refuses _ _ _ _ _ (v.refuses _ _ c.in-Err.is) (c.refuse.ensures _)

pub returns-then-not-both : goal.returns-then-not-both
unfolding window_open_of
returns-then-not-both c =
    let w = world_of c.args.b c.args.memory.now in
    let o : length c.args.b.slots ≡ 16 = search rules in
    let v = slot_guarded c.args.store.now w c.args.slot _ o _ c.slot_at-sl.ensures c.guard.ensures in
    let g = v.goes c.in_default.is in
    let code = coded c.args.store.now w c.args.slot c.slot_at-sl.ensures c.code_of-code.ensures in
    let sizes = judged _ _ _ _ _ c.args.len c.args.b.s c.args.window c.both.ensures c.len_ok.ensures c.ends_by-inside.ensures code in
    refuses _ _ _ _ _ (passed_first _ _ _ g.passes (fails _ _ _ _ (sym sizes ∙ c.if-not-both.true)))
    (c.refuse-then-not-both.ensures _)

pub returns-in_default-first_unused : goal.returns-in_default-first_unused
unfolding window_open_of
returns-in_default-first_unused c =
    let w = world_of c.args.b c.args.memory.now in
    let o : length c.args.b.slots ≡ 16 = search rules in
    let v = slot_guarded c.args.store.now w c.args.slot _ o _ c.slot_at-sl.ensures c.guard.ensures in
    let g = v.goes c.in_default.is in
    let code = coded c.args.store.now w c.args.slot c.slot_at-sl.ensures c.code_of-code.ensures in
    let sizes = judged _ _ _ _ _ c.args.len c.args.b.s c.args.window c.both.ensures c.len_ok.ensures c.ends_by-inside.ensures code in
    let past = past_13 c.args.store.now w c.args.slot c.args.len c.args.window g sizes c.if-not-both.false in
    let sixteen : length c.args.b.sessions ≡ 16 = search rules in
    let none : 15 < record_for w = omega (arith, first_none unused c.args.b.sessions (sym c.first_unused.ensures ∙ c.in_default-first_unused.is)) in
    refuses _ _ _ _ _ (past _ _ (fails _ _ _ _ (lt-leb _ 15 none)))
    (c.refuse-in_default-first_unused.ensures _)

pub gap_for-requires : goal.gap_for-requires
gap_for-requires c =
    let w = world_of c.args.b c.args.memory.now in
    let o : length c.args.b.slots ≡ 16 = search rules in
    let v = slot_guarded c.args.store.now w c.args.slot _ o _ c.slot_at-sl.ensures c.guard.ensures in
    let g = v.goes c.in_default.is in (g.limits.words, g.places)

pub clear-requires : goal.clear-requires
clear-requires c =
    let w = world_of c.args.b c.args.memory.now in
    let o : length c.args.b.slots ≡ 16 = search rules in
    let v = slot_guarded c.args.store.now w c.args.slot _ o _ c.slot_at-sl.ensures c.guard.ensures in
    let g = v.goes c.in_default.is in
    let f = found_inside _ _ _ _ _ (sym c.gap_for.ensures ∙ c.in-Some-gap_for.is) in
    let sixteen : length c.args.b.sessions ≡ 16 = search rules in
    let place = first_some unused c.args.b.sessions _ (sym c.first_unused.ensures ∙ c.in-Some.is) in
    (omega (arith, place), omega (arith, f, g.long))

pub returns : goal.returns
unfolding window_open_of
returns c =
    let w = world_of c.args.b c.args.memory.now in
    let o : length c.args.b.slots ≡ 16 = search rules in
    let v = slot_guarded c.args.store.now w c.args.slot _ o _ c.slot_at-sl.ensures c.guard.ensures in
    let g = v.goes c.in_default.is in
    let code = coded c.args.store.now w c.args.slot c.slot_at-sl.ensures c.code_of-code.ensures in
    let sizes = judged _ _ _ _ _ c.args.len c.args.b.s c.args.window c.both.ensures c.len_ok.ensures c.ends_by-inside.ensures code in
    let past = past_13 c.args.store.now w c.args.slot c.args.len c.args.window g sizes c.if-not-both.false in
    let sixteen : length c.args.b.sessions ≡ 16 = search rules in
    let place = first_some unused c.args.b.sessions _ (sym c.first_unused.ensures ∙ c.in-Some.is) in
    let left : record_for w ≤ 15 = omega (arith, place) in
    let gap = sym c.gap_for.ensures ∙ c.in-Some-gap_for.is in
    accepts _ _ _ (past _ _ (holds _ _ _ _ _ (le-leb _ 15 left) (holds _ _ _ _ _ (ap found gap) none_left)))
    (opened _ _ _ _ _ _ _ _ _ _ _ c.clear.ensures c.fresh-se.ensures c.start_cpu.ensures code place.0 gap)

pub returns-in_default-gap_for : goal.returns-in_default-gap_for
unfolding window_open_of
returns-in_default-gap_for c =
    let w = world_of c.args.b c.args.memory.now in
    let o : length c.args.b.slots ≡ 16 = search rules in
    let v = slot_guarded c.args.store.now w c.args.slot _ o _ c.slot_at-sl.ensures c.guard.ensures in
    let g = v.goes c.in_default.is in
    let code = coded c.args.store.now w c.args.slot c.slot_at-sl.ensures c.code_of-code.ensures in
    let sizes = judged _ _ _ _ _ c.args.len c.args.b.s c.args.window c.both.ensures c.len_ok.ensures c.ends_by-inside.ensures code in
    let past = past_13 c.args.store.now w c.args.slot c.args.len c.args.window g sizes c.if-not-both.false in
    let sixteen : length c.args.b.sessions ≡ 16 = search rules in
    let place = first_some unused c.args.b.sessions _ (sym c.first_unused.ensures ∙ c.in-Some.is) in
    let left : record_for w ≤ 15 = omega (arith, place) in
    let full = sym c.gap_for.ensures ∙ c.in_default-gap_for.is in
    refuses _ _ _ _ _ (past _ _ (holds _ _ _ _ _ (le-leb _ 15 left) (fails _ _ _ _ (ap found full)))) (c.refuse-in_default-gap_for.ensures _)
