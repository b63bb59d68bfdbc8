-- A turn in a memory: the region goes along as the definition's run, and all other words stay.
-- Above: the proof of `run`; below: Runs and Judged of `pmachine`, parts of a memory.
use mathlib.Core.Path.{◌≡◌, refl, ap, sym, ◌∙◌, subst}
use mathlib.Core.List.{List, ◌++◌}
use mathlib.Core.Bool.{true, false, false≢true}
use Prim.Native.Nat.{ℕ, suc, ◌+◌, ◌-◌, ◌<◌, ◌≤◌}
use native.Mathlib.Omega.{arith}
use lib.ListN.{length, take}
use Rattle.basis.specs.Part.{part, splice}
use Rattle.basis.proofs.Part.{length_part, splice_same, length_splice, part_splice, take_splice, drop_splice}
use Rattle.pmachine.specs.State.{Registers, Kind, ready, finished, faulted, State}
use Rattle.pmachine.specs.Step.{Outcome, judge}
use Rattle.pmachine.specs.Run.{is_ready, settled, step, run, steps_done}
use Rattle.pmachine.specs.Sound.{Ranged}
use Rattle.pmachine.proofs.Runs.{step_length, step_ready, run_none, count_none, run_suc, run_stopped, count_stopped, count_ready}
use Rattle.pmachine.proofs.Keeps.{Whole, step_whole}
use Rattle.plan.specs.declared.Facts.{Facts}
use Rattle.plan.specs.declared.Regs.{Regs}
use Rattle.plan.specs.Answer.{regs_of}
use Rattle.steps.specs.declared.Stepped.{Stepped}
use Rattle.steps.specs.declared.Stepped.TheVariants.{Went}
use Rattle.steps.specs.Memory.{Placed, Steady, went_to, came_to, Stood}
use Rattle.machine.specs.declared.Kind.{Kind as Kinds}
use Rattle.machine.specs.declared.Kind.TheVariants.{Ready}
use Rattle.machine.specs.declared.Turned.{Turned}
use Rattle.machine.specs.Memory.{kind_of, state_at, TurnedTo}

splice_twice : (a e : ℕ) (m : List ℕ) → a ≤ e → e ≤ length m → (ys zs : List ℕ) → length ys ≡ e - a → splice a e zs (splice a e ys m) ≡ splice a e zs m
splice_twice a e m o f ys zs l =
    let x = take_splice a e m o f ys l a (omega arith) in
    let y = drop_splice a e m o f ys l in
    unfold splice in λ i. x i ++ (zs ++ y i)

module _ (s m₀ : List ℕ) (at end j k : ℕ) (r₀ : Registers) where
  -- with `left` of k steps to go: what is left of the run from here is the run from the start
  pub record Going (m : List ℕ) (r : Registers) (left : ℕ) : Type 0 where
    pub ran : run s (take j m₀) k (state_at at end m₀ r₀ ready) ≡ run s (take j m₀) left (state_at at end m r ready)
    pub counted : steps_done s (take j m₀) k (state_at at end m₀ r₀ ready) + left ≡ k + steps_done s (take j m₀) left (state_at at end m r ready)
    pub ranged : Ranged s (end - at) r
    pub held : m ≡ splice at end (part at end m) m₀
    pub size : length m ≡ length m₀
    pub most : left ≤ k

module _ {s m₀ : List ℕ} {f : Facts} {at end j : ℕ} {start : Regs} (steady : Steady s f m₀ at end j start) (k : ℕ) where
  abbrev r₀ : Registers
  r₀ = regs_of start

  abbrev pl : Placed (length m₀) at end j
  pl = steady.placed

  pub going_start : Going s m₀ at end j k r₀ m₀ r₀ k
  going_start =
      record {
        ran = refl;
        counted = omega arith;
        ranged = steady.ranged;
        held = sym (splice_same at end m₀ pl.order pl.inside);
        size = refl;
        most = omega arith;
      }

  module _ {m : List ℕ} {now : Regs} {left : ℕ} (g : Going s m₀ at end j k r₀ m (regs_of now) left) where
    abbrev r : Registers
    r = regs_of now

    inside : end ≤ length m
    inside = subst (λ (n : ℕ). end ≤ n) (sym g.size) pl.inside

    wide : length (part at end m) ≡ end - at
    wide = length_part at end m pl.order inside

    pub going_steady : Steady s f m at end j now
    going_steady =
        record {
          placed = record { below = pl.below; order = pl.order; inside = inside; shared = pl.shared; small = pl.small };
          loaded = steady.loaded;
          told = steady.told;
          ranged = g.ranged;
        }

    shared_same : take j m ≡ take j m₀
    shared_same = ap (take j) g.held ∙ take_splice at end m₀ pl.order pl.inside (part at end m) wide j pl.below

    -- the loop's test failed: no step is left
    pub going_end : left ≤ 0 → {t : Turned} → t ≡ record { cpu = record { kind = Ready; regs = now }; done = k } → TurnedTo s m₀ j at end k r₀ ready t m
    going_end l e =
        let none : left ≡ 0 = omega arith in
        let z = g.ran ∙ (ap (λ (n : ℕ). run s (take j m₀) n (state_at at end m r ready)) none ∙ run_none s (take j m₀) (state_at at end m r ready)) in
        let y = ap (λ (n : ℕ). steps_done s (take j m₀) n (state_at at end m r ready)) none ∙ count_none s (take j m₀) (state_at at end m r ready) in
        record {
          registers = ap (λ (t : Turned). regs_of t.cpu.regs) e ∙ sym (ap (λ (x : State). x.registers) z);
          kind = ap (λ (t : Turned). kind_of t.cpu.kind) e ∙ sym (ap (λ (x : State). x.kind) z);
          done = ap (λ (t : Turned). t.done) e ∙ omega (arith, g.counted, y, none);
          memory = g.held ∙ sym (ap (λ (x : State). splice at end x.words m₀) z);
        }

    module _ {q : Stepped} {m' : List ℕ} (lt : 0 < left) (st : Stood s r (judge s (take j m) (part at end m) r) at end m q m') where
      o : Outcome
      o = judge s (take j m) (part at end m) r

      v : List ℕ
      v = (settled s (part at end m) r o).words

      stepped_words : step s (take j m) (state_at at end m r ready) ≡ settled s (part at end m) r o
      unfolding o
      stepped_words = step_ready s (take j m) (state_at at end m r ready) (unfold is_ready in refl)

      long : length v ≡ end - at
      unfolding v
      long = sym (ap (λ (x : State). length x.words) stepped_words) ∙ (step_length s (take j m) (state_at at end m r ready) ∙ wide)

      now_part : part at end m' ≡ v
      unfolding v o
      now_part = ap (part at end) st.memory ∙ part_splice at end m pl.order inside v long

      now_held : m' ≡ splice at end (part at end m') m₀
      unfolding v o
      now_held =
          st.memory
          ∙ (ap (splice at end v) g.held
          ∙ (splice_twice at end m₀ pl.order pl.inside (part at end m) v wide ∙ ap (λ (x : List ℕ). splice at end x m₀) (sym now_part)))

      pub now_size : length m' ≡ length m₀
      unfolding v o
      now_size = ap length st.memory ∙ (length_splice at end m pl.order inside v long ∙ g.size)

      -- the session after the step
      abbrev next : State
      next = state_at at end m' (went_to r q) (came_to q)

      stepped : step s (take j m₀) (state_at at end m r ready) ≡ next
      unfolding v o
      stepped =
          ap (λ (x : List ℕ). step s x (state_at at end m r ready)) (sym shared_same)
          ∙ (stepped_words ∙ (λ i. record { words = sym now_part i; registers = sym st.registers i; kind = sym st.kind i }))

      one_less : left ≡ suc (left - 1)
      one_less = omega (arith, lt)

      now_ran : run s (take j m₀) k (state_at at end m₀ r₀ ready) ≡ run s (take j m₀) (left - 1) next
      now_ran =
          g.ran
          ∙ (ap (λ (n : ℕ). run s (take j m₀) n (state_at at end m r ready)) one_less
          ∙ (run_suc s (take j m₀) (left - 1) (state_at at end m r ready) ∙ ap (run s (take j m₀) (left - 1)) stepped))

      now_counted : steps_done s (take j m₀) k (state_at at end m₀ r₀ ready) + (left - 1) ≡ k + steps_done s (take j m₀) (left - 1) next
      now_counted =
          let a = ap (λ (n : ℕ). steps_done s (take j m₀) n (state_at at end m r ready)) one_less in
          let b = count_ready s (take j m₀) (left - 1) (state_at at end m r ready) (unfold is_ready in refl) in
          let d = ap (steps_done s (take j m₀) (left - 1)) stepped in
          omega (arith, g.counted, a, b, d, lt)

      -- a session that stopped
      pub going_stop : {kind : Kinds} {t : Turned} → went_to r q ≡ r → kind_of kind ≡ came_to q → is_ready (came_to q) ≡ false
          → t ≡ record { cpu = record { kind = kind; regs = now }; done = k - left + 1 } → TurnedTo s m₀ j at end k r₀ ready t m'
      going_stop still named e t =
          let z = now_ran ∙ run_stopped s (take j m₀) (left - 1) next e in
          let y = count_stopped s (take j m₀) (left - 1) next e in
          record {
            registers = ap (λ (x : Turned). regs_of x.cpu.regs) t ∙ (sym still ∙ sym (ap (λ (x : State). x.registers) z));
            kind = ap (λ (x : Turned). kind_of x.cpu.kind) t ∙ (named ∙ sym (ap (λ (x : State). x.kind) z));
            done = ap (λ (x : Turned). x.done) t ∙ omega (arith, now_counted, y, lt, g.most);
            memory = now_held ∙ sym (ap (λ (x : State). splice at end x.words m₀) z);
          }

      -- a session that goes on
      pub going_next : {then : Regs} → q ≡ Went then → Going s m₀ at end j k r₀ m' (regs_of then) (left - 1)
      going_next {then} e =
          let u : next ≡ state_at at end m' (regs_of then) ready = ap (λ (x : Stepped). state_at at end m' (went_to r x) (came_to x)) e in
          let w : Whole s (end - at) (state_at at end m r ready) = record { size = wide; registers = g.ranged; kind = tt } in
          let h = step_whole s (take j m₀) (end - at) steady.loaded (state_at at end m r ready) w in
          record {
            ran = now_ran ∙ ap (run s (take j m₀) (left - 1)) u;
            counted = now_counted ∙ ap (λ (x : State). k + steps_done s (take j m₀) (left - 1) x) u;
            ranged = subst (λ (x : State). Ranged s (end - at) x.registers) (stepped ∙ u) h.registers;
            held = now_held;
            size = now_size;
            most = omega (arith, g.most);
          }

-- ---- a session that is not ready stays, and one that is ready runs

pub not_ready : (s m : List ℕ) (at end j k : ℕ) (r : Registers) (c : Kind) → at ≤ end → end ≤ length m → is_ready c ≡ false
    → (t : Turned) → regs_of t.cpu.regs ≡ r → kind_of t.cpu.kind ≡ c → t.done ≡ 0 → TurnedTo s m j at end k r c t m
not_ready s m at end j k r c o f e t a b d =
    let z = run_stopped s (take j m) k (state_at at end m r c) e in
    record {
      registers = a ∙ sym (ap (λ (x : State). x.registers) z);
      kind = b ∙ sym (ap (λ (x : State). x.kind) z);
      done = d ∙ sym (count_stopped s (take j m) k (state_at at end m r c) e);
      memory = sym (splice_same at end m o f) ∙ sym (ap (λ (x : State). splice at end x.words m) z);
    }

ready_is : (c : Kind) → is_ready c ≡ true → ready ≡ c
unfolding is_ready
ready_is ready e = refl
ready_is finished e = absurd (false≢true e)
ready_is (faulted n place) e = absurd (false≢true e)

pub was_ready : (s m : List ℕ) (at end j k : ℕ) (r : Registers) (c : Kind) → is_ready c ≡ true → {t : Turned} {m' : List ℕ}
    → TurnedTo s m j at end k r ready t m' → TurnedTo s m j at end k r c t m'
was_ready s m at end j k r c e {t} {m'} h = subst (λ (x : Kind). TurnedTo s m j at end k r x t m') (ready_is c e) h
