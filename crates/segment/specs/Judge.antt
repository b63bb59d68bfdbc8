-- The verdict on a segment: checks 1 to 8 as a list, in the order in which they come.
-- Below: what each check asks (Head), and what a list of checks comes to (`basis`). Above: loading, turning (which appends checks 9 and 10)
-- and soundness. Assumes nothing.
use Rattle.std.specs.Prelude.{⊤, Result, Ok, Err, ℕ, zero, suc, ◌+◌, List, [], ◌∷◌, ◌++◌, ◌||◌, cond, eqb}
use Rattle.basis.specs.Checks.{Check, check, Ruling, passed, refused, ruling}
use Rattle.segment.specs.Head.{shape_ok, sex_ok, reloc_ok, pool_ok, dict_ok, entry_ok, data_ok, exit_ok, count, linked}
use Rattle.segment.specs.declared.refusal.Refusal.{Refusal}
use Rattle.segment.specs.Refusals.{number_of, place_of}

-- "Checks 1 to 5 come first": "a place (the routine number for 6 to 8, else 0)"
unfoldable pub head_checks : List ℕ → List Check
head_checks s =
    check 1 0 (shape_ok s)
    ∷ check 2 0 (sex_ok s)
    ∷ check 3 0 (reloc_ok s)
    ∷ check 4 0 (pool_ok s)
    ∷ check 5 0 (dict_ok s)
    ∷ []

-- "then 6, 7, 8 for routine 1". Request 1: "An entry of zero is lawful for every routine but routine 1; it has .. no checks 6 to 8." "Routine
-- 1 at zero still gets 6."
unfoldable pub routine_checks : List ℕ → ℕ → List Check
routine_checks s k =
    cond (linked s k || eqb k 1) (check 6 k (entry_ok s k) ∷ check 7 k (data_ok s k) ∷ check 8 k (exit_ok s k) ∷ []) []

-- "then routine 2, and so on": those of the `left` routines from k on
unfoldable pub routines_from : List ℕ → ℕ → ℕ → List Check
routines_from s zero k = []
routines_from s (suc left) k = routine_checks s k ++ routines_from s left (k + 1)

unfoldable pub checks : List ℕ → List Check
checks s = head_checks s ++ routines_from s (count s) 1

-- the first check that fails is the refusal
unfoldable pub judged : List ℕ → Ruling
judged s = ruling (checks s)

-- the paper's number and place of each case of the code's answer
abbrev pub ruling_of : Result ⊤ Refusal → Ruling
ruling_of (Ok u) = passed
ruling_of (Err r) = refused (number_of r) (place_of r)
