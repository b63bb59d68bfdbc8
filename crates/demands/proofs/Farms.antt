-- Request 7: an opening for a farm is the opening on its range; and no session on a farm's range hears of another farm's records.
-- Above: Demands. Below: promises for what an opening does, isolation for two runs, archive's definitions.
use Prim.Native.Nat.{ℕ, suc, ◌+◌, ◌-◌, ◌%◌, ◌≤◌, ◌<◌}
use mathlib.Core.Path.{◌≡◌, refl, sym, ap, ◌∙◌}
use mathlib.Core.List.{List}
use mathlib.Core.Bool.{true, false}
use native.Mathlib.Omega.{arith}
use lib.ListN.{length, get_or, take}
use borrow.Author.Tests.{eq-eqb}
use lib.Seq.{ext_get_or, length-take-le, get_or-take}
use Rattle.basis.proofs.Part.{get_d_part}
use Rattle.interleave.specs.Interleave.{mine}
use Rattle.sound.specs.declared.Bench.{Bench}
use Rattle.sound.specs.declared.Session.{Session}
use Rattle.sound.specs.declared.Window.{Window}
use Rattle.sound.specs.Below.{start_of}
use Rattle.sound.specs.Bench.{code_of, slot_at, World, session_at, shared_of, window_in, words_of, code_at}
use Rattle.sound.specs.Sound.{Sound}
use Rattle.sound.proofs.Facts.{opened}
use Rattle.entry.specs.Answer.{Done, Result}
use Rattle.entry.specs.Entries.{window_open_of}
use Rattle.entry.proofs.Refusing.{by_checks}
use Rattle.archive_records.specs.Records.{records_in, never_falls, accepted, first_fall, range_of, records_of}
use Rattle.archive_records.proofs.Order.{never_at, first_fall_lem}
use Rattle.archive.specs.Archive.{archive_checks, farm_open_of}
use Rattle.promises.specs.Requests.{opening_on}
use Rattle.promises.specs.Words.{Opens}
use Rattle.promises.proofs.Requests.{stays_sound}
use Rattle.promises.proofs.Openings.{opened_is}
use Rattle.isolation.specs.Isolation.{Turn, after, Agree}
use Rattle.isolation.proofs.Acts.{own_long}
use Rattle.isolation.proofs.Theorem.{isolation}
use Rattle.demands.specs.Demands.{OfFarm, NoOtherFarm, FirstFall}

-- ---- the first record that falls, written out

pub archive_falls : (a : List ℕ) → length a % 4 ≡ 0 → accepted a ≡ false → FirstFall a (first_fall a (records_in a - 1))
archive_falls a whole fallen =
    let fell : never_falls a (records_in a - 1) ≡ false = rw (eq-eqb (length a % 4) 0 whole) at fallen in
    let f = first_fall_lem a (records_in a - 1) fell in
    record {
      some = f.some;
      last = omega (arith, f.some, f.most);
      falls = f.falls_there;
      first = λ q h. let up : q + 1 ≡ suc q = omega arith in rw up (never_at a (first_fall a (records_in a - 1) - 1) q f.before (omega (arith, h)));
    }

-- ---- an opening for a farm that is done

pub farm_done : (store : List ℕ) (w : World) (slot len farm i : ℕ) → (farm_open_of store slot len farm w).answer ≡ Done i
    → (accepted (shared_of w) ≡ true) × (farm_open_of store slot len farm w ≡ window_open_of store slot len (range_of (shared_of w) farm) w)
unfolding farm_open_of
farm_done store w slot len farm i =
    by_checks (λ r. r.answer ≡ Done i → (accepted (shared_of w) ≡ true) × (r ≡ window_open_of store slot len (range_of (shared_of w) farm) w)) (archive_checks store w) w _
    (λ n p e. let z : ◌≡◌ {A = ℕ} 0 1 = cc in absurd (omega arith))
    (λ p e. (p.1.0, refl))

-- ---- what a session that was just opened has: its record, its segment, zeros, and the shared words as they were

module _ (store : List ℕ) (w : World) (slot len : ℕ) (v : Window) (i : ℕ) (g : Sound store w) (e : (window_open_of store slot len v w).answer ≡ Done i) where
  abbrev new : World
  new = (window_open_of store slot len v w).world

  abbrev code : List ℕ
  code = code_of store (slot_at w.bench.slots slot)

  o : Opens store slot len v w new i
  o = opened_is store w slot len v g i e

  sound : Sound store new
  sound = stays_sound store (opening_on slot len v) w g

  used : (session_at new i).used ≡ true
  used = ap (λ (se : Session). se.used) o.made

  window : (session_at new i).window ≡ v
  window = ap (λ (se : Session). se.window) o.made

  cpu : (session_at new i).cpu ≡ start_of code len
  cpu = ap (λ (se : Session). se.cpu) o.made

  base : (session_at new i).base ≡ o.place
  base = ap (λ (se : Session). se.base) o.made

  size : (session_at new i).len ≡ len
  size = ap (λ (se : Session). se.len) o.made

  runs : code_at store new i ≡ code
  runs = λ j. code_of store (slot_at (o.only.same_bench j).slots (o.made j).slot)

  -- its region lies above the shared words
  same_s : new.bench.s ≡ w.bench.s
  same_s = ap (λ (b : Bench). b.s) o.only.same_bench

  above : w.bench.s ≤ o.place
  above = omega (arith, (opened store new sound i used).above, same_s, base)

  inside : o.place + len ≤ length w.mem
  inside = omega (arith, (opened store new sound i used).inside, base, size, o.zeroed.as_long)

  kept : shared_of new ≡ shared_of w
  kept =
      let long : w.bench.s ≤ length w.mem = omega (arith, above, inside) in
      let long' : w.bench.s ≤ length new.mem = rw o.zeroed.as_long long in
      rw same_s
      (ext_get_or 0 (take w.bench.s new.mem) (take w.bench.s w.mem)
      (length-take-le w.bench.s new.mem long' ∙ sym (length-take-le w.bench.s w.mem long))
      (λ j h.
      let lt : j < w.bench.s = rw (length-take-le w.bench.s new.mem long') at h in
      get_or-take w.bench.s new.mem j 0 lt ∙ o.zeroed.same_below j (omega (arith, lt, above)) ∙ sym (get_or-take w.bench.s w.mem j 0 lt)))

  fits : (session_at new i).base + (session_at new i).len ≤ length new.mem
  fits = (opened store new sound i used).inside

  words_long : length (words_of new (session_at new i)) ≡ len
  words_long = own_long store i 0 new sound used ∙ size

  words_zero : (k : ℕ) → k < len → get_or (words_of new (session_at new i)) k 0 ≡ 0
  words_zero k h =
      get_d_part (session_at new i).base ((session_at new i).base + (session_at new i).len) new.mem (omega arith) fits k (omega (arith, h, size))
      ∙ o.zeroed.zero_in ((session_at new i).base + k) (omega (arith, base)) (omega (arith, base, h))

-- ---- two sessions on the range of a farm

module _ (farm : ℕ) (store store' : List ℕ) (w w' : World) (i j : ℕ) where
  agree : OfFarm farm store w i store' w' j → Agree store w i store' w' j
  agree a =
      record {
        open_here = a.open_here;
        open_there = a.open_there;
        cpu = a.cpu;
        words = a.words;
        code = a.code;
        window =
            ap (λ (v : Window). window_in v (shared_of w)) a.range_here
            ∙ a.records
            ∙ sym (ap (λ (v : Window). window_in v (shared_of w')) a.range_there);
      }

-- a session's window is its farm's range after any turns, too
still_range : (farm : ℕ) (store : List ℕ) (ts : List Turn) (w : World) (i : ℕ) → Sound store w → (session_at w i).used ≡ true
    → (session_at w i).window ≡ range_of (shared_of w) farm
    → (session_at (after store ts w) i).window ≡ range_of (shared_of (after store ts w)) farm
still_range farm store ts w i g u e =
    ap (λ (se : Session). se.window) (isolation.on_its_own store ts w g i u).registers
    ∙ e
    ∙ ap (λ (a : List ℕ). range_of a farm) (sym (isolation.shared_kept store ts w g))

pub other_farms : (farm : ℕ) (store store' : List ℕ) (ts us : List Turn) (w w' : World) (i j : ℕ) → Sound store w → Sound store' w' → mine i ts ≡ mine j us
    → OfFarm farm store w i store' w' j → NoOtherFarm farm store store' ts us w w' i j
other_farms farm store store' ts us w w' i j g h m a =
    let here = agree farm store store' w w' i j a in
    let end = isolation.two_ends store store' ts us w w' i j g h m here in
    record {
      answers = isolation.two_runs store store' ts us w w' i j g h m here;
      ends =
          record {
            open_here = end.open_here;
            open_there = end.open_there;
            range_here = still_range farm store ts w i g a.open_here a.range_here;
            range_there = still_range farm store' us w' j h a.open_there a.range_there;
            records =
                ap (λ (l : List ℕ). records_of l farm) (isolation.shared_kept store ts w g)
                ∙ a.records
                ∙ sym (ap (λ (l : List ℕ). records_of l farm) (isolation.shared_kept store' us w' h));
            cpu = end.cpu;
            words = end.words;
            code = end.code;
          };
    }

-- ---- two openings

module _ (farm : ℕ) (store store' : List ℕ) (w w' : World) (slot slot' len i j : ℕ) (g : Sound store w) (h : Sound store' w')
    (segment : code_of store (slot_at w.bench.slots slot) ≡ code_of store' (slot_at w'.bench.slots slot'))
    (records : records_of (shared_of w) farm ≡ records_of (shared_of w') farm)
    (e : (window_open_of store slot len (range_of (shared_of w) farm) w).answer ≡ Done i)
    (f : (window_open_of store' slot' len (range_of (shared_of w') farm) w').answer ≡ Done j) where
  abbrev here : World
  here = (window_open_of store slot len (range_of (shared_of w) farm) w).world

  abbrev there : World
  there = (window_open_of store' slot' len (range_of (shared_of w') farm) w').world

  kept_here : shared_of here ≡ shared_of w
  kept_here = kept store w slot len (range_of (shared_of w) farm) i g e

  kept_there : shared_of there ≡ shared_of w'
  kept_there = kept store' w' slot' len (range_of (shared_of w') farm) j h f

  long_here : length (words_of here (session_at here i)) ≡ len
  long_here = words_long store w slot len (range_of (shared_of w) farm) i g e

  opened_alike : OfFarm farm store here i store' there j
  opened_alike =
      record {
        open_here = used store w slot len (range_of (shared_of w) farm) i g e;
        open_there = used store' w' slot' len (range_of (shared_of w') farm) j h f;
        range_here = window store w slot len (range_of (shared_of w) farm) i g e ∙ ap (λ (a : List ℕ). range_of a farm) (sym kept_here);
        range_there = window store' w' slot' len (range_of (shared_of w') farm) j h f ∙ ap (λ (a : List ℕ). range_of a farm) (sym kept_there);
        records =
            ap (λ (l : List ℕ). records_of l farm) kept_here
            ∙ records
            ∙ sym (ap (λ (l : List ℕ). records_of l farm) kept_there);
        cpu =
            cpu store w slot len (range_of (shared_of w) farm) i g e
            ∙ ap (λ (s : List ℕ). start_of s len) segment
            ∙ sym (cpu store' w' slot' len (range_of (shared_of w') farm) j h f);
        words =
            ext_get_or 0 (words_of here (session_at here i)) (words_of there (session_at there j))
            (long_here ∙ sym (words_long store' w' slot' len (range_of (shared_of w') farm) j h f))
            (λ k q. let lt : k < len = rw long_here at q in
            words_zero store w slot len (range_of (shared_of w) farm) i g e k lt
            ∙ sym (words_zero store' w' slot' len (range_of (shared_of w') farm) j h f k lt));
        code =
            runs store w slot len (range_of (shared_of w) farm) i g e
            ∙ segment
            ∙ sym (runs store' w' slot' len (range_of (shared_of w') farm) j h f);
      }

  pub opened_no_other : (ts us : List Turn) → mine i ts ≡ mine j us → NoOtherFarm farm store store' ts us here there i j
  opened_no_other ts us m =
      other_farms farm store store' ts us here there i j (sound store w slot len (range_of (shared_of w) farm) i g e)
      (sound store' w' slot' len (range_of (shared_of w') farm) j h f) m opened_alike

pub other_farms_opened :
    (farm : ℕ) (store store' : List ℕ) (ts us : List Turn) (w w' : World) (slot slot' len i j : ℕ) → Sound store w → Sound store' w'
    → code_of store (slot_at w.bench.slots slot) ≡ code_of store' (slot_at w'.bench.slots slot')
    → records_of (shared_of w) farm ≡ records_of (shared_of w') farm
    → (farm_open_of store slot len farm w).answer ≡ Done i → (farm_open_of store' slot' len farm w').answer ≡ Done j → mine i ts ≡ mine j us
    → NoOtherFarm farm store store' ts us (farm_open_of store slot len farm w).world (farm_open_of store' slot' len farm w').world i j
other_farms_opened farm store store' ts us w w' slot slot' len i j g h segment records e f m =
    let a = (farm_done store w slot len farm i e).1 in
    let b = (farm_done store' w' slot' len farm j f).1 in
    rw (a, b)
    (opened_no_other farm store store' w w' slot slot' len i j g h segment records (ap (λ (r : Result). r.answer) (sym a) ∙ e)
    (ap (λ (r : Result). r.answer) (sym b) ∙ f) ts us m)
