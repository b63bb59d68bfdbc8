-- The marked cases (a) to (l) of document 01 as a single table, and what each says.
-- Above: Demands; `cases_hold` (proofs/Marked) proves all of it at once; below: every layer that a case speaks of.
use Rattle.std.specs.Prelude.{◌≡◌, List, [], ◌∷◌, ◌++◌, ℕ, take, replicate}
use Rattle.basis.specs.Integer.{add_of, mul_of, quot_of, rem_of}
use Rattle.basis.specs.Cases.{minus, Is, IsMinus}
use Rattle.operand.specs.Operand.{Form, B, W, Fetched, got, out, fetched}
use Rattle.segment.specs.Small.{small, small_turned}
use Rattle.turning.specs.Turn.{turned}
use Rattle.pmachine.specs.State.{Kind, ready, faulted, State}
use Rattle.pmachine.specs.Sound.{opened}
use Rattle.pmachine.specs.Run.{run, steps_done}

pub data Case : Type 0 where
  reads : Form → List ℕ → Fetched → Case  -- the operand that these bytes hold
  is : ℕ → ℕ → Case  -- a word, read as an integer, is k
  is_minus : ℕ → ℕ → Case  -- a word, read as an integer, is -k
  turns : List ℕ → ℕ → ℕ → State → Case  -- a turn of k steps of a segment, opened with L = 16, returns the steps done and leaves a state
  twin : List ℕ → List ℕ → Case  -- a segment's turned bytes

abbrev pub Says : Case → Type 0
Says (reads f bytes o) = fetched f bytes 0 ≡ o
Says (is x k) = Is x k
Says (is_minus x k) = IsMinus x k
Says (turns s k n t) = (steps_done s [] k (opened s 16) ≡ n) × (run s [] k (opened s 16) ≡ t)
Says (twin s t) = turned s ≡ t

abbrev pub All : List Case → Type 0
All [] = Unit {0}
All (c ∷ cs) = Says c × All cs

-- "after two steps words 15 and 14 hold 5 and 7 and SP is 14"
unfoldable pub after : Kind → State
after k =
    record {
      words = 0 ∷ 0 ∷ 0 ∷ 0 ∷ 0 ∷ 0 ∷ 0 ∷ 0 ∷ 0 ∷ 0 ∷ 0 ∷ 0 ∷ 0 ∷ 0 ∷ 7 ∷ 5 ∷ [];
      registers = record { sp = 14; m = 1; counter = 32; routine = 1; lowest = 14 };
      kind = k;
    }

-- the small segment, but for its code: 87 80 in place of 05 07, which is LDL and the first byte of a B of two bytes, at the segment's end
unfoldable pub cut_short : List ℕ
cut_short = take 30 small ++ (0x87 ∷ 0x80 ∷ [])

-- its one step faults with 1 at the byte that is missing, 2W, the counter stays at the instruction's first byte, and nothing else has changed
unfoldable pub after_cut : State
after_cut = record { words = replicate 16 0; registers = record { sp = 16; m = 1; counter = 30; routine = 1; lowest = 16 }; kind = faulted 1 32 }

unfoldable pub marked_cases : List Case
marked_cases =
    reads B (0x7F ∷ []) (got 127 1)  -- (a) B from 7F is 127
    ∷ reads B (0x80 ∷ 0x7F ∷ []) (got 127 2)  -- (b) 80 7F also 127, two bytes
    ∷ reads B (0x80 ∷ 0x80 ∷ []) (got 128 2)  -- (c) 80 80 is 128
    ∷ reads B (0xFF ∷ 0xFF ∷ []) (got 32767 2)  -- (d) FF FF is 32,767
    ∷ reads B (0x80 ∷ []) (out 1)  -- (e) B from 80 at the segment's end, fault 1
    ∷ turns cut_short 9 1 after_cut  -- request 8: "Case (e) gains its place: 2W"
    ∷ reads W (0x34 ∷ 0x12 ∷ []) (got 4660 2)  -- (f) W from 34 12 is 4,660
    ∷ is_minus (add_of 32767 1) 32768  -- (g) 32,767+1 is -32,768
    ∷ is (mul_of 300 300) 24464  -- (h) 300 times 300 is 24,464
    ∷ is_minus (quot_of (minus 7) 2) 3  -- (i) -7 by 2 is -3, remainder -1
    ∷ is_minus (rem_of (minus 7) 2) 1
    ∷ is_minus (quot_of (minus 32768) (minus 1)) 32768  -- (j) -32,768 by -1 is -32,768, remainder 0
    ∷ is (rem_of (minus 32768) (minus 1)) 0
    ∷ turns small 2 2 (after ready)  -- (k) the small run
    ∷ turns small 9 3 (after (faulted 1 32))
    ∷ twin small small_turned  -- (l) its turned bytes
    ∷ []
