-- What holds of every request alike: its answer is the ruling of its checks, a refusal changes nothing, soundness is kept, and a contract
-- allows one answer. Above: demands. Below: Kept, entry's laws of a list of checks; a turn keeps soundness by the registers' ranges.
use mathlib.Core.Path.{◌≡◌, refl, sym, ap, ◌∙◌}
use mathlib.Core.List.{List, [], ◌∷◌, ◌++◌}
use mathlib.Core.Bool.{true}
use Prim.Native.Nat.{ℕ, ◌+◌, ◌-◌, ◌≤◌}
use native.Mathlib.Omega.{arith}
use lib.Dec.{leb}
use lib.ListN.{get_or}
use Rattle.std.specs.Prelude.{Result as Fallible, Ok, Err}
use Rattle.basis.specs.Checks.{Check, Ruling, passed, refused, ruling, followed_by}
use Rattle.basis.proofs.Bools.{and_snd}
use Rattle.basis.proofs.Checks.{never, ruling_append}
use Rattle.basis.proofs.Part.{length_part, length_splice}
use Rattle.segment.specs.declared.refusal.Refusal.{Refusal}
use Rattle.segment.specs.declared.refusal.Refusal.TheVariants.{Length, Sex, Relocation, Pool, Dictionary, Entry, Datasize, Exitic, HasPool, ShortOutput, Unsound, NotThere, RegionLength, NoRecord, NoGap, TooManySteps, Limits, NotArchive}
use Rattle.segment.specs.Refusals.{number_of, place_of}
use Rattle.sound.specs.Below.{cpu_of}
use Rattle.sound.specs.Bench.{World, session_at, code_at, window_at, state_at}
use Rattle.sound.specs.Sound.{Sound}
use Rattle.sound.specs.declared.Bench.{Bench}
use Rattle.sound.proofs.Below.{run_keeps, run_length}
use Rattle.sound.proofs.Facts.{opened, registers_good}
use Rattle.entry.specs.declared.Out.{Out}
use Rattle.entry.specs.Answer.{Answer, Done, Refused, answer_of, answer_ruling, Result, result_of, done, ruled, refusing}
use Rattle.entry.specs.Entries.{load_of, all_shared, window_open_of, ran_of, put, turn_of, close_of}
use Rattle.entry.proofs.Refusing.{by_checks}
use Rattle.archive.specs.Archive.{farm_range, farm_open_of}
use Rattle.promises.specs.Requests.{Request, loading, opening, opening_on, opening_for, turning, closing, asked, checks_for}
use Rattle.promises.proofs.Kept.{load_sound, open_sound, close_sound}

-- ---- the answer, and the world where it is a refusal

answered : (r : Ruling) (w v : World) (d : ℕ) → answer_ruling (ruled r w (done d v)).answer ≡ r
answered passed w v d = refl
answered (refused n p) w v d = refl

-- the same of checks that follow others: the archive's, and then the opening's
farm_answered : (cs ds : List Check) (w v : World) (d : ℕ) → answer_ruling (ruled (ruling cs) w (ruled (ruling ds) w (done d v))).answer ≡ ruling (cs ++ ds)
unfolding followed_by
farm_answered cs ds w v d = rw (ruling_append cs ds) (go (ruling cs))
  where
    go : (r : Ruling) → answer_ruling (ruled r w (ruled (ruling ds) w (done d v))).answer ≡ followed_by r (ruling ds)
    go passed = answered (ruling ds) w v d
    go (refused n p) = refl

pub answers : (store : List ℕ) (q : Request) (w : World) → answer_ruling (asked store q w).answer ≡ ruling (checks_for store q w)
unfolding load_of window_open_of farm_open_of turn_of close_of refusing
answers store (loading slot start len) w = answered _ w _ _
answers store (opening slot len) w = answered _ w _ _
answers store (opening_on slot len v) w = answered _ w _ _
answers store (opening_for slot len farm) w = farm_answered _ _ w _ _
answers store (turning i k) w = answered _ w _ _
answers store (closing i) w = answered _ w _ _

same : (r : Ruling) (w v : World) (d n p : ℕ) → r ≡ refused n p → (ruled r w (done d v)).world ≡ w
same passed w v d n p e = absurd (never refl e)
same (refused m q) w v d n p e = refl

farm_same : (cs ds : List Check) (w v : World) (d n p : ℕ) → ruling (cs ++ ds) ≡ refused n p → (ruled (ruling cs) w (ruled (ruling ds) w (done d v))).world ≡ w
unfolding followed_by
farm_same cs ds w v d n p e = go (ruling cs) (rw (ruling_append cs ds) at e)
  where
    go : (r : Ruling) → followed_by r (ruling ds) ≡ refused n p → (ruled r w (ruled (ruling ds) w (done d v))).world ≡ w
    go passed h = same (ruling ds) w v d n p h
    go (refused m q) h = refl

left_alone : (store : List ℕ) (q : Request) (w : World) (n p : ℕ) → ruling (checks_for store q w) ≡ refused n p → (asked store q w).world ≡ w
unfolding load_of window_open_of farm_open_of turn_of close_of refusing
left_alone store (loading slot start len) w n p e = same _ w _ _ n p e
left_alone store (opening slot len) w n p e = same _ w _ _ n p e
left_alone store (opening_on slot len v) w n p e = same _ w _ _ n p e
left_alone store (opening_for slot len farm) w n p e = farm_same _ _ w _ _ n p e
left_alone store (turning i k) w n p e = same _ w _ _ n p e
left_alone store (closing i) w n p e = same _ w _ _ n p e

pub unchanged : (store : List ℕ) (q : Request) (w : World) (n p : ℕ) → answer_ruling (asked store q w).answer ≡ refused n p → (asked store q w).world ≡ w
unchanged store q w n p e = left_alone store q w n p (sym (answers store q w) ∙ e)

-- ---- soundness

-- the machine's run, put into the session's record and region
ran_sound : (store : List ℕ) (w : World) (g : Sound store w) (i k : ℕ) → (session_at w i).used ≡ true → Sound store (put i (ran_of store i k w) w)
ran_sound store w g i k u =
    let f = opened store w g i u in
    let base = (session_at w i).base in
    let end = (session_at w i).base + (session_at w i).len in
    let o : base ≤ end = omega arith in
    let l = length_part base end w.mem o f.inside in
    let e : end - base ≡ (session_at w i).len = omega arith in
    registers_good store w g i u (cpu_of (ran_of store i k w)) (put i (ran_of store i k w) w).mem
    (length_splice base end w.mem o f.inside (ran_of store i k w).words (run_length k (code_at store w i) (window_at w i) (state_at w i) ∙ l))
    (run_keeps k (code_at store w i) (window_at w i) (session_at w i).len (state_at w i) f.checked f.most (l ∙ e) f.cpu_ok_lem)

turn_sound : (store : List ℕ) (w : World) → Sound store w → (i k : ℕ) → Sound store (turn_of store i k w).world
unfolding turn_of
turn_sound store w g i k =
    by_checks (λ r. Sound store r.world) _ w _ (λ _ _. g)
    (λ p. ran_sound store w g i k (and_snd (leb i 15) (session_at w i).used p.1.0))

farm_sound : (store : List ℕ) (w : World) → Sound store w → (slot len farm : ℕ) → Sound store (farm_open_of store slot len farm w).world
unfolding farm_open_of
farm_sound store w g slot len farm =
    by_checks (λ r. Sound store r.world) _ w _ (λ _ _. g) (λ p. open_sound store w g slot len (farm_range farm w))

pub stays_sound : (store : List ℕ) (q : Request) (w : World) → Sound store w → Sound store (asked store q w).world
stays_sound store (loading slot start len) w g = load_sound store w g slot start len
stays_sound store (opening slot len) w g = open_sound store w g slot len (all_shared w)
stays_sound store (opening_on slot len v) w g = open_sound store w g slot len v
stays_sound store (opening_for slot len farm) w g = farm_sound store w g slot len farm
stays_sound store (turning i k) w g = turn_sound store w g i k
stays_sound store (closing i) w g = close_sound store w g i

-- ---- one answer

-- the refusal of a number and a place, and the answer of what it says: both are told from what the contracts say of them
abbrev named : ℕ → ℕ → Refusal
named n p =
    get_or
    (Unsound
    ∷ Length
    ∷ Sex
    ∷ Relocation
    ∷ Pool
    ∷ Dictionary
    ∷ Entry p
    ∷ Datasize p
    ∷ Exitic p
    ∷ HasPool
    ∷ ShortOutput
    ∷ Unsound
    ∷ NotThere
    ∷ RegionLength
    ∷ NoRecord
    ∷ NoGap
    ∷ TooManySteps
    ∷ Limits
    ∷ [])
    n NotArchive

named_again : (r : Refusal) → named (number_of r) (place_of r) ≡ r
named_again Length = refl
named_again Sex = refl
named_again Relocation = refl
named_again Pool = refl
named_again Dictionary = refl
named_again (Entry k) = refl
named_again (Datasize k) = refl
named_again (Exitic k) = refl
named_again HasPool = refl
named_again ShortOutput = refl
named_again Unsound = refl
named_again NotThere = refl
named_again RegionLength = refl
named_again NoRecord = refl
named_again NoGap = refl
named_again TooManySteps = refl
named_again Limits = refl
named_again NotArchive = refl

abbrev answer_by : Answer → Fallible ℕ Refusal
answer_by (Done v) = Ok v
answer_by (Refused n p) = Err (named n p)

answer_again : (a : Fallible ℕ Refusal) → answer_by (answer_of a) ≡ a
answer_again (Ok v) = refl
answer_again (Err r) = ap Err (named_again r)

pub one_answer : (r r' : Out) (m m' : List ℕ) (x : Result) → result_of r m ≡ x → result_of r' m' ≡ x → (r ≡ r') × (m ≡ m')
one_answer r r' m m' x e e' =
    let q = e ∙ sym e' in
    let a = sym (answer_again r.answer) ∙ ap (λ (y : Result). answer_by y.answer) q ∙ answer_again r'.answer in
    let b = ap (λ (y : Result). y.world.bench) q in
    (ap (λ (f : Fallible ℕ Refusal). record { answer = f; bench = r.bench }) a ∙ ap (λ (x : Bench). record { answer = r'.answer; bench = x }) b, ap (λ (y : Result). y.world.mem) q)
