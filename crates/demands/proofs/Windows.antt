-- Request 7, what a session can read: an indexed read at 32,768 or above sees the window's words and no others, and nothing else reads a shared word.
-- Above: Demands. Below: the definition of a step in `pmachine`, sound's facts of an open session, parts of a memory.
use Prim.Native.Nat.{ℕ, ◌+◌, ◌-◌, ◌≤◌, ◌<◌}
use mathlib.Core.Path.{◌≡◌, refl, ◌∙◌}
use mathlib.Core.List.{List, [], ◌∷◌}
use mathlib.Core.Bool.{Bool, true, false, ◌&&◌, cond, and-false}
use native.Mathlib.Omega.{arith}
use native.Mathlib.Decide.{dec_lt}
use lib.Dec.{leb, ltb}
use lib.ListN.{length, get_or}
use borrow.Author.Tests.{lt-ltb, le-ltb, le-leb, lt-leb, ltb-true, eq-eqb, ne_eqb}
use Rattle.basis.specs.Bools.{inside}
use Rattle.basis.specs.Part.{part}
use Rattle.basis.proofs.Bools.{both_true}
use Rattle.basis.proofs.Part.{length_part, get_d_part, part_take}
use Rattle.pmachine.specs.State.{Registers}
use Rattle.pmachine.specs.Meaning.{Meaning, constant, pool_offset, constants, load, address, store, index, indirect, unary, binary, division, duplicate, swap, nothing, subrange, jump, jump_if, case_jump, call, return}
use Rattle.pmachine.specs.Decoding.{Instruction, Decoded, instruction, faulty, decode}
use Rattle.pmachine.specs.Step.{fault, goes, floor, moved, lowered, private, word_at, readable, first_fault, ground_for, asks, effect, outcome, judged_by, judge}
use Rattle.pmachine.proofs.Ranges.{ranged}
use Rattle.pmachine.proofs.Rows.{either_way, decided}
use Rattle.plan.specs.Answer.{regs_of}
use Rattle.machine.specs.Memory.{kind_of}
use Rattle.session.specs.Session.{cpu_ok}
use Rattle.sound.specs.Bench.{World, session_at, words_of, code_at, window_at}
use Rattle.sound.specs.Sound.{Sound}
use Rattle.sound.proofs.Facts.{opened, parts, limits}
use Rattle.isolation.proofs.Acts.{own_long}

-- ---- one step

abbrev read : ℕ → ℕ → Instruction
read n next = record { does = index n; taken = 1; given = 1; next = next }

module _ (s shared w : List ℕ) (r : Registers) (n next : ℕ) where
  abbrev top : ℕ
  top = get_or w r.sp 0

  abbrev place : ℕ
  place = top + n

  -- at 32,768 or above only a shared word is there
  high : length w ≤ 32768 → length shared ≤ 32768 → 32768 ≤ place → readable w shared top n ≡ (leb 1 top && ltb place (32768 + length shared))
  unfolding inside
  high small few o =
      let out : private w place ≡ false = rw (le-ltb place (length w) (omega arith)) (and-false (leb 1 place)) in
      decided (dec_lt 0 top)
      (λ p. rw (ne_eqb top 0 (omega arith), le-leb 1 top (omega arith), out, le-leb 32768 place o)
      (decided (dec_lt place (32768 + length shared))
      (λ q. rw (lt-ltb place (32768 + length shared) q, le-leb place 65535 (omega arith)))
      (λ q. rw (le-ltb place (32768 + length shared) (omega arith)) (and-false (leb place 65535)))))
      (λ p. rw (eq-eqb top 0 (omega arith), lt-leb 1 top (omega arith)))

  read_outcome : floor s ≤ r.sp → r.sp < length w → length w ≤ 32768 → length shared ≤ 32768 → 32768 ≤ place
      → outcome s shared w r (read n next)
      ≡ cond (leb 1 top && ltb place (32768 + length shared)) (goes (lowered (moved r r.sp next)) r.sp (get_or shared (place - 32768) 0 ∷ [])) (fault 6)
  unfolding outcome asks effect ground_for first_fault word_at
  read_outcome low some small few o =
      let plus0 : r.sp + 0 ≡ r.sp = omega arith in
      let same : r.sp + 1 - 1 ≡ r.sp = omega arith in
      let there = le-ltb (length w) (r.sp + 1) (omega arith) in
      let dry = le-ltb r.sp (floor s) low in
      rw (plus0, same, there, dry, high small few o, le-ltb place 32768 o) (either_way (leb 1 top && ltb place (32768 + length shared)) (λ t. rw t) (λ t. rw t))

-- any other instruction, and a read below 32,768, is judged alike with any shared words
module _ (s shared shared' w : List ℕ) (r : Registers) where
  low_read : (n : ℕ) → get_or w r.sp 0 + n < 32768 → readable w shared (get_or w r.sp 0) n ≡ readable w shared' (get_or w r.sp 0) n
  unfolding inside
  low_read n o = rw (lt-leb 32768 (get_or w r.sp 0 + n) o)

  low_outcome : (n taken given next : ℕ) → get_or w r.sp 0 + n < 32768
      → outcome s shared w r (record { does = index n; taken = taken; given = given; next = next })
      ≡ outcome s shared' w r (record { does = index n; taken = taken; given = given; next = next })
  unfolding outcome asks effect ground_for first_fault word_at
  low_outcome n taken given next o =
      let plus0 : r.sp + 0 ≡ r.sp = omega arith in
      rw (plus0, low_read n o, lt-ltb (get_or w r.sp 0 + n) 32768 o)

  same_outcome : (does : Meaning) (taken given next : ℕ) → ((n : ℕ) → does ≡ index n → get_or w r.sp 0 + n < 32768)
      → outcome s shared w r (record { does = does; taken = taken; given = given; next = next })
      ≡ outcome s shared' w r (record { does = does; taken = taken; given = given; next = next })
  unfolding outcome asks effect
  same_outcome (constant v) t g next h = refl
  same_outcome (pool_offset b) t g next h = refl
  same_outcome (constants mode b n) t g next h = refl
  same_outcome (load p k) t g next h = refl
  same_outcome (address p k) t g next h = refl
  same_outcome (store p k) t g next h = refl
  same_outcome (index n) t g next h = low_outcome n t g next (h n refl)
  same_outcome indirect t g next h = refl
  same_outcome (unary f) t g next h = refl
  same_outcome (binary f) t g next h = refl
  same_outcome (division f) t g next h = refl
  same_outcome duplicate t g next h = refl
  same_outcome swap t g next h = refl
  same_outcome nothing t g next h = refl
  same_outcome subrange t g next h = refl
  same_outcome (jump d) t g next h = refl
  same_outcome (jump_if b d) t g next h = refl
  same_outcome (case_jump b) t g next h = refl
  same_outcome (call p k) t g next h = refl
  same_outcome (return b) t g next h = refl

  pub window_only : ((d : Instruction) (n : ℕ) → decode s r.counter ≡ instruction d → d.does ≡ index n → get_or w r.sp 0 + n < 32768)
      → judge s shared w r ≡ judge s shared' w r
  unfolding judge judged_by
  window_only h = go (decode s r.counter) refl
    where
      go : (d : Decoded) → decode s r.counter ≡ d → judged_by s shared w r d ≡ judged_by s shared' w r d
      go (instruction d) e = same_outcome d.does d.taken d.given d.next (λ n f. h d n e f)
      go (faulty k) e = refl

-- ---- on a bench

module _ (store : List ℕ) (w : World) (g : Sound store w) (i : ℕ) (u : (session_at w i).used ≡ true) where
  abbrev first : ℕ
  first = (session_at w i).window.first

  abbrev count : ℕ
  count = (session_at w i).window.len

  shared_in : w.bench.s ≤ length w.mem
  shared_in = let f = opened store w g i u in omega (arith, f.above, f.inside)

  seen_is : window_at w i ≡ part first (first + count) w.mem
  seen_is = part_take w.bench.s w.mem first (first + count) (omega arith) (opened store w g i u).seen shared_in

  window_fits : first + count ≤ length w.mem
  window_fits = omega (arith, (opened store w g i u).seen, shared_in)

  seen_long : length (window_at w i) ≡ count
  seen_long = rw seen_is (length_part first (first + count) w.mem (omega arith) window_fits ∙ omega arith)

  seen_word : (j : ℕ) → j < count → get_or (window_at w i) j 0 ≡ get_or w.mem (first + j) 0
  seen_word j o = rw seen_is (get_d_part first (first + count) w.mem (omega arith) window_fits j (omega arith))

  few : count ≤ 32768
  few = let l = limits w.bench.n w.bench.s (parts store w g).limits in omega (arith, (opened store w g i u).seen, l.few)

  pub window_read : (n next x : ℕ)
      → decode (code_at store w i) (session_at w i).cpu.regs.counter ≡ instruction (record { does = index n; taken = 1; given = 1; next = next })
      → (session_at w i).cpu.regs.sp < (session_at w i).len → x ≡ get_or (words_of w (session_at w i)) (session_at w i).cpu.regs.sp 0 → 32768 ≤ x + n
      → judge (code_at store w i) (window_at w i) (words_of w (session_at w i)) (regs_of (session_at w i).cpu.regs)
      ≡ cond (leb 1 x && ltb (x + n) (32768 + count))
      (goes (lowered (moved (regs_of (session_at w i).cpu.regs) (session_at w i).cpu.regs.sp next)) (session_at w i).cpu.regs.sp
      (get_or w.mem (first + (x + n - 32768)) 0 ∷ []))
      (fault 6)
  unfolding judge judged_by cpu_ok
  window_read n next x d some e o =
      let f = opened store w g i u in
      let r = regs_of (session_at w i).cpu.regs in
      let own = words_of w (session_at w i) in
      let long = own_long store i 0 w g u in
      let seen = window_at w i in
      let t = ranged (code_at store w i) (session_at w i).len r (kind_of (session_at w i).cpu.kind) f.cpu_ok_lem in
      let o' : 32768 ≤ get_or own r.sp 0 + n = rw (← e) o in
      let step = read_outcome (code_at store w i) seen own r n next t.sp_low (rw long some) (rw long f.most) (rw seen_long few) o' in
      rw d (rw e (step ∙ rw seen_long (there (get_or own r.sp 0 + n) (leb 1 (get_or own r.sp 0)) (lowered (moved r r.sp next)) r.sp o')))
    where
      there : (at : ℕ) (test : Bool) (q : Registers) (sp : ℕ) → 32768 ≤ at
          → cond (test && ltb at (32768 + count)) (goes q sp (get_or (window_at w i) (at - 32768) 0 ∷ [])) (fault 6)
          ≡ cond (test && ltb at (32768 + count)) (goes q sp (get_or w.mem (first + (at - 32768)) 0 ∷ [])) (fault 6)
      there at test q sp o =
          either_way (test && ltb at (32768 + count))
          (λ t. let lt = ltb-true at (32768 + count) (both_true test (ltb at (32768 + count)) t).1 in
          let j : at - 32768 < count = omega (arith, lt, o) in
          rw (t, seen_word (at - 32768) j))
          (λ t. rw t)
