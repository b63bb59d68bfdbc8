-- `entry_load::load` meets its contract.
use borrow.Author.Tests.{leb-true}
use lib.Dec.{leb}
use mathlib.Core.Bool.{Bool, true}
use mathlib.Core.List.{List}
use mathlib.Core.Path.{◌≡◌, sym, ap, ◌∙◌}
use Prim.Native.Nat.{ℕ, ◌≤◌}
use Rattle.basis.proofs.Bools.{and_fst}
use Rattle.basis.specs.Checks.{ruling}
use Rattle.std.specs.Prelude.{⊤, Result, Err}
use Rattle.segment.specs.declared.refusal.Refusal.{Refusal}
use Rattle.segment.specs.Judge.{judged, ruling_of}
use Rattle.sound.specs.declared.Bench.{Bench}
use Rattle.sound.specs.Bench.{World, world_of, code_of}
use Rattle.entry.specs.Answer.{done}
use Rattle.entry.specs.Entries.{begins, free_slot, range_ok, loaded_slot, load_checks, load_of}
use Rattle.entry.proofs.Refusing.{passed_first, fails, holds, refuses, accepts}
use Rattle.entry.proofs.Starts.{Begun, Guarded, guarded}
use Rattle.entry_load.proofs.load.Goals as goal

-- ---- where the guard answered, and where the bytes were judged

module _ (store : List ℕ) (w : World) (slot : ℕ) where
  told : {named : Bool} {v : Result ⊤ Refusal} → ruling_of v ≡ ruling (begins store w named) → named ≡ free_slot w slot → Guarded store w (free_slot w slot) v (Begun store w (free_slot w slot))
  told {named} {v} h e = guarded store w named (free_slot w slot) v h e

  low : Begun store w (free_slot w slot) → slot ≤ 15
  low g = leb-true slot 15 (and_fst (leb slot 15) _ g.named)

  ruled : (start len : ℕ) (v : Result ⊤ Refusal) {r : Bool} {code : List ℕ} → Begun store w (free_slot w slot)
      → r ≡ range_ok store start len
      → r ≡ true
      → code ≡ code_of store (loaded_slot start len)
      → ruling_of v ≡ judged code
      → ruling (load_checks store slot start len w) ≡ ruling_of v
  unfolding judged
  ruled start len v g er t ec ev = passed_first _ _ _ g.passes (holds _ _ _ _ _ (sym er ∙ t) (sym (ev ∙ ap judged ec)))

-- ---- what the code asks

pub returns-in-Err : goal.returns-in-Err
unfolding load_of
returns-in-Err c =
    let w = world_of c.args.b c.args.memory.now in
    let g = told c.args.store.now w c.args.slot c.guard.ensures c.is_free.ensures in
    refuses _ _ _ _ _ (g.refuses _ _ c.in-Err.is) (c.refuse.ensures _)

pub returns-then-not-range_ok : goal.returns-then-not-range_ok
unfolding load_of
returns-then-not-range_ok c =
    let w = world_of c.args.b c.args.memory.now in
    let g = (told c.args.store.now w c.args.slot c.guard.ensures c.is_free.ensures).goes c.in_default.is in
    refuses _ _ _ _ _ (passed_first _ _ _ g.passes (fails _ _ _ _ (sym c.range_ok.ensures ∙ c.if-not-range_ok.true)))
    (c.refuse-then-not-range_ok.ensures _)

pub returns-in-Err-judge : goal.returns-in-Err-judge
unfolding load_of
returns-in-Err-judge c =
    let w = world_of c.args.b c.args.memory.now in
    let g = (told c.args.store.now w c.args.slot c.guard.ensures c.is_free.ensures).goes c.in_default.is in
    let r = ruled c.args.store.now w c.args.slot c.args.start c.args.len _ g c.range_ok.ensures c.if-not-range_ok.false c.code_of.ensures c.judge.ensures in
    refuses _ _ _ _ _ (r ∙ ap ruling_of c.in-Err-judge.is ∙ ap (λ (x : Refusal). ruling_of (Err x)) (sym c.as_it_is.ensures)) (c.refuse-in-Err-judge.ensures _)

pub with_slot-requires : goal.with_slot-requires
with_slot-requires c =
    let w = world_of c.args.b c.args.memory.now in
    low c.args.store.now w c.args.slot ((told c.args.store.now w c.args.slot c.guard.ensures c.is_free.ensures).goes c.in_default.is)

pub returns : goal.returns
unfolding load_of
returns c =
    let w = world_of c.args.b c.args.memory.now in
    let g = (told c.args.store.now w c.args.slot c.guard.ensures c.is_free.ensures).goes c.in_default.is in
    let r = ruled c.args.store.now w c.args.slot c.args.start c.args.len _ g c.range_ok.ensures c.if-not-range_ok.false c.code_of.ensures c.judge.ensures in
    accepts _ _ _ (r ∙ ap ruling_of c.in_default-judge.is) (ap (λ (b : Bench). done 0 (world_of b c.args.memory.now)) c.with_slot.ensures)
