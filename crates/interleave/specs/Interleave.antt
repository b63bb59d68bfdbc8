-- Interleaved requests: what each party sees is what it sees alone. No word of benches here.
-- A world has a common part, which no request changes, and for each party (a number) a private part. A request of party i changes only
-- i's private part, by a function of the common part, the request and that private part, and so is its answer.
-- Above: isolation, which shows that a bench and its sessions are such a world. Below: nothing. The proof is in proofs/Interleave.
use Rattle.std.specs.Prelude.{◌≡◌, List, [], ◌∷◌, ◌++◌, Bool, true, false, ℕ, zero, suc, ◌<◌, eqb}

-- a request, or an answer, with the number of its party
pub record By (Q : Type 0) : Type 0 where
  pub who : ℕ
  pub what : Q

abbrev pub keep : {Q : Type 0} → Bool → Q → List Q → List Q
keep true q qs = q ∷ qs
keep false q qs = qs

-- what is party i's, in its order
abbrev pub mine : {Q : Type 0} → ℕ → List (By Q) → List Q
mine i [] = []
mine i (t ∷ ts) = keep (eqb i t.who) t.what (mine i ts)

-- these, all of party i
abbrev pub of : {Q : Type 0} → ℕ → List Q → List (By Q)
of i [] = []
of i (q ∷ qs) = record { who = i; what = q } ∷ of i qs

-- each party alone, one after another: all of party 0's, then all of party 1's, up to party n - 1
abbrev pub one_by_one : {Q : Type 0} → ℕ → List (By Q) → List (By Q)
one_by_one zero ts = []
one_by_one (suc n) ts = one_by_one n ts ++ of n (mine n ts)

-- no party numbered n or above asks anything
abbrev pub Below : {Q : Type 0} → ℕ → List (By Q) → Type 0
Below n [] = Unit {0}
Below n (t ∷ ts) = (t.who < n) × Below n ts

-- what it takes: W worlds, C common parts, P private parts, Q requests, A answers
pub record Isolated (W C P Q A : Type 0) : Type 1 where
  pub act : ℕ → Q → W → W
  pub ans : ℕ → Q → W → A
  pub Good : W → Type 0
  pub public : W → C
  pub priv : ℕ → W → P
  pub next : C → Q → P → P
  pub says : C → Q → P → A
  -- a request leads from a good world to a good one
  pub good : (i : ℕ) (q : Q) (w : W) → Good w → Good (act i q w)
  -- it leaves the common part as it was
  pub common : (i : ℕ) (q : Q) (w : W) → Good w → public (act i q w) ≡ public w
  -- its party's private part comes of that part, the request and the common part
  pub own : (i : ℕ) (q : Q) (w : W) → Good w → priv i (act i q w) ≡ next (public w) q (priv i w)
  -- every other private part is as it was
  pub other : (i j : ℕ) (q : Q) (w : W) → Good w → (j ≡ i → ⊥) → priv j (act i q w) ≡ priv j w
  -- its answer comes of the same three
  pub said : (i : ℕ) (q : Q) (w : W) → Good w → ans i q w ≡ says (public w) q (priv i w)
  -- and the parts make up the world
  pub whole : (v w : W) → Good v → Good w → public v ≡ public w → ((i : ℕ) → priv i v ≡ priv i w) → v ≡ w

module _ {W C P Q A : Type 0} (L : Isolated W C P Q A) where
  -- all the requests, in the order given
  abbrev pub acts : List (By Q) → W → W
  acts [] w = w
  acts (t ∷ ts) w = acts ts (L.act t.who t.what w)

  -- their answers, in that order
  abbrev pub answers : List (By Q) → W → List (By A)
  answers [] w = []
  answers (t ∷ ts) w =
      record { who = t.who; what = L.ans t.who t.what w } ∷ answers ts (L.act t.who t.what w)

  -- one party by itself: its own requests on its own private part, beside a common part that stays
  abbrev pub alone : C → List Q → P → P
  alone c [] p = p
  alone c (q ∷ qs) p = alone c qs (L.next c q p)

  abbrev pub alone_says : C → List Q → P → List A
  alone_says c [] p = []
  alone_says c (q ∷ qs) p = L.says c q p ∷ alone_says c qs (L.next c q p)

-- THE THEOREM, of any good world and any list of requests
pub record Interleaved {W C P Q A : Type 0} (L : Isolated W C P Q A) : Type 0 where
  -- the world stays good, and its common part the same
  pub good_kept : (ts : List (By Q)) (w : W) → L.Good w → L.Good (acts L ts w)
  pub public_kept : (ts : List (By Q)) (w : W) → L.Good w → L.public (acts L ts w) ≡ L.public w
  -- each party's private part, and each party's answers, are those of its own requests alone, in their order
  pub own_state_lem : (ts : List (By Q)) (w : W) → L.Good w → (i : ℕ) → L.priv i (acts L ts w) ≡ alone L (L.public w) (mine i ts) (L.priv i w)
  pub own_answers : (ts : List (By Q)) (w : W) → L.Good w → (i : ℕ) → mine i (answers L ts w) ≡ alone_says L (L.public w) (mine i ts) (L.priv i w)
  -- two lists with the same requests of each party, however they are mixed, end in the same world with the same answers for each party
  pub any_mix : (ts us : List (By Q)) (w : W) → L.Good w → ((i : ℕ) → mine i ts ≡ mine i us) → acts L ts w ≡ acts L us w
  pub any_mix_answers : (ts us : List (By Q)) (w : W) → L.Good w → ((i : ℕ) → mine i ts ≡ mine i us) → (i : ℕ) → mine i (answers L ts w) ≡ mine i (answers L us w)
  -- so the end is that of each party alone, one after another
  pub one_by_one_lem : (n : ℕ) (ts : List (By Q)) (w : W) → Below n ts → L.Good w → acts L ts w ≡ acts L (one_by_one n ts) w
  pub one_by_one_answers : (n : ℕ) (ts : List (By Q)) (w : W) → Below n ts → L.Good w → (i : ℕ) → mine i (answers L ts w) ≡ mine i (answers L (one_by_one n ts) w)

-- Two runs, in two worlds. What a party of the one and a party of the other see alike: requests keep it so, and are answered alike.
pub record Alike {W C P X D R Q A : Type 0} (L : Isolated W C P Q A) (M : Isolated X D R Q A) : Type 1 where
  pub Same : C → P → D → R → Type 0
  pub still : (c : C) (p : P) (d : D) (r : R) (q : Q) → Same c p d r → Same c (L.next c q p) d (M.next d q r)
  pub speak : (c : C) (p : P) (d : D) (r : R) (q : Q) → Same c p d r → L.says c q p ≡ M.says d q r

-- THE TWO-RUN THEOREM: a party that sees alike what another sees, and asks the same, is answered the same and still sees alike,
-- whatever all others hold and ask
pub record TwoRuns {W C P X D R Q A : Type 0} (L : Isolated W C P Q A) (M : Isolated X D R Q A) (S : Alike L M) : Type 0 where
  pub same_answers : (ts us : List (By Q)) (w : W) (v : X) (i j : ℕ) → L.Good w → M.Good v → mine i ts ≡ mine j us → S.Same (L.public w) (L.priv i w) (M.public v) (M.priv j v) → mine i (answers L ts w) ≡ mine j (answers M us v)
  pub same_end : (ts us : List (By Q)) (w : W) (v : X) (i j : ℕ) → L.Good w → M.Good v → mine i ts ≡ mine j us → S.Same (L.public w) (L.priv i w) (M.public v) (M.priv j v) → S.Same (L.public (acts L ts w)) (L.priv i (acts L ts w)) (M.public (acts M us v)) (M.priv j (acts M us v))
