-- The faults of XJP besides too few words on the stack: request 2, in document 01's order, 6 before 7.
-- Above: contracts of tables; below: Pool and Step of `pmachine`, which have the same two tests in the definition of a step.
use Rattle.std.specs.Prelude.{ℕ, List, ◌&&◌, ◌||◌, not, cond, ltb, length}
use Rattle.basis.specs.Bools.{inside}
use Rattle.segment.specs.Head.{word, real_pool}
use Rattle.pmachine.specs.Pool.{in_pool, in_table, arm_offset}
use Rattle.pmachine.specs.Step.{target, case_target}

-- 6: the table's lowest and highest index can be read, and of an index in its range the word of the table too; 7: of such an index, the target lies in 22..2W-1
unfoldable pub case_fault : List ℕ → ℕ → ℕ → ℕ → ℕ
case_fault s b next i =
    cond (in_pool s b 2 && (not (in_table s b i) || in_pool s (arm_offset s b i) 1))
    (cond (in_table s b i && not (inside 22 (length s) (case_target s b next i))) 7 0)
    6

-- MIRROR OF THE CODE: the same of an index in range, whose word of the table is word `at` of the segment
unfoldable pub arm_fault : List ℕ → ℕ → ℕ → ℕ
arm_fault s at next = cond (ltb at (real_pool s)) (cond (inside 22 (length s) (target next (word s at))) 0 7) 6
