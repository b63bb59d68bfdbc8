-- MIRROR OF THE CODE, for the proofs; nobody has to believe it. What each helper answers: the definition's outcome of a meaning, test by test as
-- the code asks. proofs/Meanings shows that these are the definition's outcomes. Above: contracts of `plan` and
-- the four crates on it; below: Step of `pmachine`.
use Rattle.std.specs.Prelude.{ℕ, ◌+◌, ◌-◌, ◌%◌, List, [], ◌∷◌, Option, Some, None, Result, Ok, Err, Bool, ◌&&◌, not, cond, length, get_or, ltb, leb, eqb}
use Rattle.basis.specs.Bools.{inside}
use Rattle.basis.specs.Integer.{add_of, sub_of, mul_of, neg_of, inc_of, dec_of, mag_of, quot_of, rem_of, eq_of, ne_of, leq_of, geq_of, leu_of, geu_of, and_of, or_of, not_of}
use Rattle.segment.specs.Head.{word, pool, real_pool, count, linked, datasize, start}
use Rattle.pmachine.specs.State.{Registers}
use Rattle.pmachine.specs.Pool.{words_from, on_top}
use Rattle.pmachine.specs.Step.{Outcome, fault, finish, goes, moved, lowered, floor, new_record, target, mark_at}
use Rattle.plan.specs.declared.Unary.{Unary}
use Rattle.plan.specs.declared.Unary.TheVariants.{Abi, Ngi, Lnot, Inci, Deci}
use Rattle.plan.specs.declared.Binary.{Binary}
use Rattle.plan.specs.declared.Binary.TheVariants.{Mpi, Lor, Land, Adi, Sbi, Equi, Neqi, Leqi, Geqi, Leusw, Geusw}
use Rattle.plan.specs.declared.Division.{Division}
use Rattle.plan.specs.declared.Division.TheVariants.{Dvi, Modi}
use Rattle.plan.specs.declared.Entry.{Entry}
use Rattle.plan.specs.declared.Case.{Case}
use Rattle.plan.specs.declared.Case.TheVariants.{By, On, Unread}

-- ---- words on the stack

-- fewer than k words on the stack, or what is done with them
unfoldable pub lack : ℕ → List ℕ → Registers → Outcome → Outcome
lack k w r done = cond (ltb (length w) (r.sp + k)) (fault 3) done

unfoldable pub pushed : ℕ → Registers → ℕ → ℕ → Outcome
pushed low r next v =
    cond (ltb (r.sp - 1) low) (fault 4) (goes (lowered (moved r (r.sp - 1) next)) (r.sp - 1) (v ∷ []))

abbrev pub one : Registers → ℕ → ℕ → Outcome
one r next v = goes (moved r r.sp next) r.sp (v ∷ [])

abbrev pub two : Registers → ℕ → ℕ → Outcome
two r next v = goes (moved r (r.sp + 1) next) (r.sp + 1) (v ∷ [])

abbrev pub swapped : List ℕ → Registers → ℕ → Outcome
swapped w r next = goes (moved r r.sp next) r.sp (get_or w (r.sp + 1) 0 ∷ get_or w r.sp 0 ∷ [])

abbrev pub one_of : Unary → ℕ → ℕ
one_of Abi = mag_of
one_of Ngi = neg_of
one_of Lnot = not_of
one_of Inci = inc_of
one_of Deci = dec_of

abbrev pub two_of : Binary → ℕ → ℕ → ℕ
two_of Mpi = mul_of
two_of Lor = or_of
two_of Land = and_of
two_of Adi = add_of
two_of Sbi = sub_of
two_of Equi = eq_of
two_of Neqi = ne_of
two_of Leqi = leq_of
two_of Geqi = geq_of
two_of Leusw = leu_of
two_of Geusw = geu_of

abbrev pub division_of : Division → ℕ → ℕ → ℕ
division_of Dvi = quot_of
division_of Modi = rem_of

unfoldable pub gives : Registers → ℕ → Option ℕ → Outcome
gives r next (Some v) = one r next v
gives r next None = fault 6

unfoldable pub divided : (ℕ → ℕ → ℕ) → Registers → ℕ → ℕ → ℕ → Outcome
divided f r next x y = cond (eqb y 0) (fault 5) (two r next (f x y))

unfoldable pub checked : List ℕ → Registers → ℕ → Outcome
checked w r next =
    cond (eqb (leq_of (get_or w (r.sp + 1) 0) (get_or w (r.sp + 2) 0)) 1)
    (cond (eqb (leq_of (get_or w (r.sp + 2) 0) (get_or w r.sp 0)) 1) (goes (moved r (r.sp + 2) next) (r.sp + 2) []) (fault 10))
    (fault 10)

-- ---- words of records and addresses

unfoldable pub loaded : List ℕ → ℕ → Registers → ℕ → ℕ → ℕ → Outcome
loaded w low r rec a next =
    cond (leb (length w) (rec + 4 + a)) (fault 6) (pushed low r next (get_or w (rec + 4 + a) 0))

unfoldable pub addressed : List ℕ → ℕ → Registers → ℕ → ℕ → ℕ → Outcome
addressed w low r rec a next = cond (leb (length w) (rec + 4 + a)) (fault 6) (pushed low r next (rec + 4 + a))

unfoldable pub stored : List ℕ → Registers → ℕ → ℕ → ℕ → Outcome
stored w r rec a next =
    cond (leb (length w) (rec + 4 + a)) (fault 6) (goes (moved r (r.sp + 1) next) (rec + 4 + a) (get_or w r.sp 0 ∷ []))

unfoldable pub read_at : List ℕ → List ℕ → ℕ → ℕ → Option ℕ
read_at w shared base i =
    cond (ltb base 1) None
    (cond (ltb (base + i) (length w)) (Some (get_or w (base + i) 0))
    (cond (ltb (base + i) 32768) None
    (cond (leb (length shared) (base + i - 32768)) None (Some (get_or shared (base + i - 32768) 0)))))

unfoldable pub stored_at : List ℕ → Registers → ℕ → Outcome
stored_at w r next =
    cond (ltb (get_or w (r.sp + 1) 0) 1) (fault 6)
    (cond (leb (length w) (get_or w (r.sp + 1) 0)) (fault 6)
    (goes (moved r (r.sp + 2) next) (get_or w (r.sp + 1) 0) (get_or w r.sp 0 ∷ [])))

unfoldable pub pooled : ℕ → ℕ → ℕ → Registers → ℕ → ℕ → Outcome
pooled words pool low r next a =
    cond (eqb pool 0) (fault 6) (cond (leb words (pool + a)) (fault 6) (pushed low r next (pool + a)))

-- ---- words of the pool

unfoldable pub words_at : ℕ → ℕ → ℕ → ℕ → ℕ → ℕ → Result ℕ ℕ
words_at pool reals low sp b n =
    cond (eqb n 0) (cond (eqb pool 0) (Err 6) (Ok 0))
    (cond (ltb reals (pool + b + n)) (Err 6)
    (cond (ltb sp (low + n)) (Err 4) (Ok (pool + b))))

unfoldable pub sex_by : ℕ → ℕ → ℕ
sex_by sex mode = cond (eqb mode 2) sex 0

unfoldable pub blocked : List ℕ → ℕ → Registers → ℕ → ℕ → Result ℕ ℕ → Outcome
blocked s sex r n next (Ok first) = goes (lowered (moved r (r.sp - n) next)) (r.sp - n) (on_top (words_from (eqb sex 0) s first n))
blocked s sex r n next (Err f) = fault f

-- ---- jumps, calls and returns

-- a target that lies in the code, or 0
unfoldable pub in_code : ℕ → ℕ → ℕ
in_code len t = cond (ltb t 22) 0 (cond (leb len t) 0 t)

unfoldable pub jumped : ℕ → Registers → ℕ → ℕ → ℕ → Outcome
jumped len r sp next a =
    cond (eqb (in_code len (target next a)) 0) (fault 7) (goes (moved r sp (in_code len (target next a))) sp [])

unfoldable pub branched : List ℕ → ℕ → Registers → ℕ → ℕ → ℕ → Outcome
branched w len r want next a =
    cond (eqb (get_or w r.sp 0 % 2) want) (jumped len r (r.sp + 1) next a) (goes (moved r (r.sp + 1) next) (r.sp + 1) [])

unfoldable pub case_at : List ℕ → ℕ → ℕ → Case
case_at s i b =
    cond (ltb (real_pool s) (pool s + b + 2)) Unread
    (cond (eqb (leq_of (word s (pool s + b)) i) 1)
    (cond (eqb (leq_of i (word s (pool s + b + 1))) 1)
    (cond (leb (real_pool s) (pool s + b + 2 + sub_of i (word s (pool s + b)))) Unread (By (word s (pool s + b + 2 + sub_of i (word s (pool s + b))))))
    On)
    On)

unfoldable pub chosen : ℕ → Registers → ℕ → Case → Outcome
chosen len r next (By d) = jumped len r (r.sp + 1) next d
chosen len r next On = goes (moved r (r.sp + 1) next) (r.sp + 1) []
chosen len r next Unread = fault 6

unfoldable pub entry_fault : ℕ → ℕ → ℕ → ℕ
entry_fault e sp needed = cond (eqb e 0) 8 (cond (ltb sp needed) 4 0)

unfoldable pub entered : List ℕ → ℕ → ℕ → Result Entry ℕ
entered s sp k =
    cond (ltb k 1) (Err 8)
    (cond (ltb (count s) k) (Err 8)
    (cond (not (linked s k)) (Err 8)
    (cond (ltb sp (floor s + 5 + datasize s k)) (Err 4) (Ok (record { sp = new_record s sp k; counter = start s k })))))

unfoldable pub called : Registers → ℕ → ℕ → ℕ → Result Entry ℕ → Outcome
called r k parent next (Ok e) =
    goes (lowered (record { sp = e.sp; m = e.sp; counter = e.counter; routine = k; lowest = r.lowest })) e.sp (parent ∷ r.m ∷ next ∷ 1 ∷ r.routine ∷ [])
called r k parent next (Err f) = fault f

-- as `resumes` says, of 2W, L, n and 6+G
unfoldable pub in_order : ℕ → ℕ → ℕ → ℕ → List ℕ → ℕ → Bool
in_order len size n low mark sp =
    (leb 1 (get_or mark 1 0) && leb (get_or mark 1 0 + 5) size)
    && (inside 1 (n + 1) (get_or mark 4 0)
    && (eqb (get_or mark 3 0) 1
    && (inside 22 (len + 1) (get_or mark 2 0)
    && inside low (size + 1) sp)))

unfoldable pub returned : ℕ → ℕ → ℕ → List ℕ → Registers → ℕ → Outcome
returned len n low w r a =
    cond (eqb r.m 1) finish
    (cond (in_order len (length w) n low (mark_at w r.m) (r.m + 5 + a))
    (goes
    (lowered
    (record {
      sp = r.m + 5 + a;
      m = get_or (mark_at w r.m) 1 0;
      counter = get_or (mark_at w r.m) 2 0;
      routine = get_or (mark_at w r.m) 4 0;
      lowest = r.lowest;
    }))
    r.sp [])
    (fault 9))
