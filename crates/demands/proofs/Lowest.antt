-- The lowest stack pointer, from the machine's law to the record of a session on a bench. Above: Demands; below: Lowest of `pmachine`, promises, isolation.
use Prim.Native.Nat.{ℕ}
use mathlib.Core.Path.{◌≡◌, refl, sym, ap, ◌∙◌}
use mathlib.Core.List.{List}
use mathlib.Core.Logic.{⊎_elim, inl, inr}
use mathlib.Core.Bool.{true}
use Rattle.pmachine.specs.State.{State}
use Rattle.pmachine.specs.Sound.{starting, opened as openedOn}
use Rattle.pmachine.specs.Lowest.{Reached, Deepest}
use Rattle.pmachine.proofs.Lowest.{run_lowest, fresh_lowest}
use Rattle.interleave.specs.Interleave.{mine}
use Rattle.session.specs.Session.{state_of, start_of, run_of}
use Rattle.sound.specs.declared.Session.{Session}
use Rattle.sound.specs.declared.Window.{Window}
use Rattle.sound.specs.Bench.{World, session_at, code_at, window_at, state_at}
use Rattle.sound.specs.Sound.{Sound}
use Rattle.entry.specs.Entries.{window_open_of}
use Rattle.promises.specs.Requests.{opening_on}
use Rattle.promises.proofs.Requests.{stays_sound}
use Rattle.promises.proofs.Openings.{opened_is}
use Rattle.isolation.specs.Isolation.{Turn, steps_of}
use Rattle.isolation.proofs.Theorem.{isolation}
use Rattle.demands.specs.Demands.{CameTo, LeastOf, LeastOfAll, LowestSince}
use Rattle.entry.specs.Answer.{Done}

-- ---- the statements of `pmachine`, written out

module _ (s shared : List ℕ) (k : ℕ) (t : State) where
  came : (x : ℕ) → Reached s shared k t x → CameTo s shared k t x
  came x h = record { steps = h.steps; some = h.some; most = h.most; went_on = h.went; there = h.there }

  reached : (x : ℕ) → CameTo s shared k t x → Reached s shared k t x
  reached x h = record { steps = h.steps; some = h.some; most = h.most; went = h.went_on; there = h.there }

  pub least_of : LeastOf s shared k t
  least_of =
      let h = run_lowest s shared k t in
      record { before = h.before; each = λ x c. h.each x (reached x c); one = ⊎_elim (λ e. inl e) (λ c. inr (came _ c)) h.one }

  pub least_of_all : Deepest s shared k t → LeastOfAll s shared k t
  least_of_all h = record { each = h.each; steps = h.steps; most = h.most; there = h.there }

pub opening_at : (s : List ℕ) (l : ℕ) → (openedOn s l).registers.lowest ≡ l
unfolding openedOn starting
opening_at s l = refl

-- ---- a session of a bench

module _ (store : List ℕ) (w : World) (i : ℕ) (ts : List Turn) where
  -- its record after the turns has the registers of the machine's run, and so the machine's law
  since : Sound store w → (session_at w i).used ≡ true → (session_at w i).cpu.regs.lowest ≡ (session_at w i).cpu.regs.sp → LowestSince store ts w i
  unfolding run_of
  since g u is =
      let own = (isolation.on_its_own store ts w g i u).registers in
      let end = ap (λ (se : Session). se.cpu.regs.lowest) own in
      let h = fresh_lowest (code_at store w i) (window_at w i) (steps_of (mine i ts)) (state_of (state_at w i)) is in
      record { each = λ k m. rw end (h.each k m); steps = h.steps; most = h.most; there = h.there ∙ sym end }

pub lowest_since : (store : List ℕ) (w : World) (slot len : ℕ) (v : Window) (i : ℕ) (ts : List Turn) → Sound store w
    → (window_open_of store slot len v w).answer ≡ Done i
    → LowestSince store ts (window_open_of store slot len v w).world i
unfolding start_of starting
lowest_since store w slot len v i ts g e =
    let made = (opened_is store w slot len v g i e).made in
    since store (window_open_of store slot len v w).world i ts (stays_sound store (opening_on slot len v) w g) (ap (λ (se : Session). se.used) made)
    (ap (λ (se : Session). se.cpu.regs.lowest) made ∙ sym (ap (λ (se : Session). se.cpu.regs.sp) made))
