-- The first bytes in the order of appendix B: of every one the operands, as its entry in chapter 1 of 000 prints them, and, as far as it is carried, the words taken, the words given
-- and the meaning.
-- Above: Decoding reads it at the counter, and the code's packed table is held to it; below: Meaning, and the integers of `word`.
use Rattle.std.specs.Prelude.{ℕ, ◌+◌, ◌-◌, List, [], ◌∷◌, ◌≡◌, Bool, true, false, ◌&&◌, cond, leb, eqb, get_or}
use Rattle.basis.specs.Integer.{add_of, sub_of, mul_of, neg_of, inc_of, dec_of, mag_of, quot_of, rem_of, eq_of, ne_of, leq_of, geq_of, leu_of, geu_of, and_of, or_of, not_of}
use Rattle.operand.specs.Operand.{Form, UB, SB, DB, B, W}
use Rattle.pmachine.specs.Meaning.{Whose, globals, up, Meaning, constant, pool_offset, constants, load, address, store, index, indirect, unary, binary, division, duplicate, swap, nothing, subrange, jump, jump_if, case_jump, call, return}

-- "Every one of the 256 first bytes has its operand form, words taken and words given in one table (marked if not carried; calls and
-- returns take and give 0)." The meaning is of the operands, in the order in which they stand. What is not carried has its operands alone, so
-- that a listing keeps its place; the machine fetches none of them.
pub data Row : Type 0 where
  carried : List Form → ℕ → ℕ → (List ℕ → Meaning) → Row
  uncarried : List Form → Row

-- what a row says: whether it is carried, its operands, the words taken and given
unfoldable pub is_carried : Row → Bool
is_carried (carried forms taken given does) = true
is_carried (uncarried forms) = false

unfoldable pub forms_of : Row → List Form
forms_of (carried forms taken given does) = forms
forms_of (uncarried forms) = forms

unfoldable pub taken_of : Row → ℕ
taken_of (carried forms taken given does) = taken
taken_of (uncarried forms) = 0

unfoldable pub given_of : Row → ℕ
given_of (carried forms taken given does) = given
given_of (uncarried forms) = 0

-- the first, the second and the third operand
abbrev pub one : List ℕ → ℕ
one v = get_or v 0 0

abbrev pub two : List ℕ → ℕ
two v = get_or v 1 0

abbrev pub three : List ℕ → ℕ
three v = get_or v 2 0

-- A line of the table: the first bytes from one number to another, and the row of each of them.
pub record Line : Type 0 where
  pub from : ℕ
  pub to : ℕ
  pub row_of : ℕ → Row

-- one number; a range of numbers, whose meaning looks at the byte; and numbers that are not carried, or that appendix B does not use
abbrev row : ℕ → List Form → ℕ → ℕ → (List ℕ → Meaning) → Line
row n forms taken given does = record { from = n; to = n; row_of = λ b. carried forms taken given does }

abbrev rows : ℕ → ℕ → List Form → ℕ → ℕ → (ℕ → Meaning) → Line
rows n m forms taken given does = record { from = n; to = m; row_of = λ b. carried forms taken given (λ _. does b) }

abbrev other : ℕ → ℕ → List Form → Line
other n m forms = record { from = n; to = m; row_of = λ b. uncarried forms }

-- number or range, operands, words taken, words given, meaning; of what is not carried the operands
unfoldable pub appendix_b : List Line
appendix_b =
    rows 0 31 [] 0 1 (λ b. constant b)  -- SLDC
    ∷ rows 32 47 [] 0 1 (λ b. load (up 0) (b - 31))  -- SLDL
    ∷ rows 48 63 [] 0 1 (λ b. load globals (b - 47))  -- SLDO
    ∷ other 64 95 []  -- unused
    ∷ rows 96 103 [] 0 1 (λ b. address (up 0) (b - 95))  -- SLLA
    ∷ rows 104 111 [] 1 0 (λ b. store (up 0) (b - 103))  -- SSTL
    ∷ other 112 119 (UB ∷ [])  -- SCXG1 to SCXG8
    ∷ rows 120 127 [] 1 1 (λ b. index (b - 120))  -- SIND
    ∷ row 128 (UB ∷ []) 0 1 (λ v. constant (one v))  -- LDCB
    ∷ row 129 (W ∷ []) 0 1 (λ v. constant (one v))  -- LDCI
    ∷ row 130 (B ∷ []) 0 1 (λ v. pool_offset (one v))  -- LCO
    ∷ row 131 (UB ∷ B ∷ UB ∷ []) 0 0 (λ v. constants (one v) (two v) (three v))  -- LDC; it gives as many words as its last operand says
    ∷ row 132 (B ∷ []) 0 1 (λ v. address (up 0) (one v))  -- LLA
    ∷ row 133 (B ∷ []) 0 1 (λ v. load globals (one v))  -- LDO
    ∷ row 134 (B ∷ []) 0 1 (λ v. address globals (one v))  -- LAO
    ∷ row 135 (B ∷ []) 0 1 (λ v. load (up 0) (one v))  -- LDL
    ∷ row 136 (DB ∷ B ∷ []) 0 1 (λ v. address (up (one v)) (two v))  -- LDA
    ∷ row 137 (DB ∷ B ∷ []) 0 1 (λ v. load (up (one v)) (two v))  -- LOD
    ∷ row 138 (SB ∷ []) 0 0 (λ v. jump (one v))  -- UJP
    ∷ row 139 (W ∷ []) 0 0 (λ v. jump (one v))  -- JPL
    ∷ row 140 [] 2 1 (λ _. binary mul_of)  -- MPI
    ∷ row 141 [] 2 1 (λ _. division quot_of)  -- DVI
    ∷ other 142 142 (UB ∷ [])  -- STM
    ∷ row 143 [] 2 1 (λ _. division rem_of)  -- MODI
    ∷ row 144 (UB ∷ []) 0 0 (λ v. call (up 0) (one v))  -- CPL
    ∷ row 145 (UB ∷ []) 0 0 (λ v. call globals (one v))  -- CPG
    ∷ row 146 (DB ∷ UB ∷ []) 0 0 (λ v. call (up (one v)) (two v))  -- CPI
    ∷ other 147 148 (UB ∷ UB ∷ [])  -- CXL, CXG
    ∷ other 149 149 (UB ∷ DB ∷ UB ∷ [])  -- CXI
    ∷ row 150 (B ∷ []) 0 0 (λ v. return (one v))  -- RPU
    ∷ other 151 151 []  -- CPF
    ∷ row 152 [] 0 1 (λ _. constant 0)  -- LDCN: NIL is 0
    ∷ other 153 153 (DB ∷ [])  -- LSL
    ∷ other 154 155 (UB ∷ B ∷ [])  -- LDE, LAE
    ∷ row 156 [] 0 0 (λ _. nothing)  -- NOP
    ∷ other 157 159 []  -- LPR, BPT, BNOT
    ∷ row 160 [] 2 1 (λ _. binary or_of)  -- LOR
    ∷ row 161 [] 2 1 (λ _. binary and_of)  -- LAND
    ∷ row 162 [] 2 1 (λ _. binary add_of)  -- ADI
    ∷ row 163 [] 2 1 (λ _. binary sub_of)  -- SBI
    ∷ row 164 (B ∷ []) 1 0 (λ v. store (up 0) (one v))  -- STL
    ∷ row 165 (B ∷ []) 1 0 (λ v. store globals (one v))  -- SRO
    ∷ row 166 (DB ∷ B ∷ []) 1 0 (λ v. store (up (one v)) (two v))  -- STR
    ∷ other 167 168 []  -- LDB, NAT
    ∷ other 169 169 (B ∷ [])  -- NAT-INFO
    ∷ other 170 170 []  -- unused
    ∷ other 171 171 (B ∷ [])  -- CAP
    ∷ other 172 172 (UB ∷ [])  -- CSP
    ∷ row 173 (B ∷ []) 0 1 (λ v. load (up 1) (one v))  -- SLOD1
    ∷ row 174 (B ∷ []) 0 1 (λ v. load (up 2) (one v))  -- SLOD2
    ∷ other 175 175 []  -- unused
    ∷ row 176 [] 2 1 (λ _. binary eq_of)  -- EQUI
    ∷ row 177 [] 2 1 (λ _. binary ne_of)  -- NEQI
    ∷ row 178 [] 2 1 (λ _. binary leq_of)  -- LEQI
    ∷ row 179 [] 2 1 (λ _. binary geq_of)  -- GEQI
    ∷ row 180 [] 2 1 (λ _. binary leu_of)  -- LEUSW
    ∷ row 181 [] 2 1 (λ _. binary geu_of)  -- GEUSW
    ∷ other 182 184 []  -- EQPWR, LEPWR, GEPWR
    ∷ other 185 187 (UB ∷ UB ∷ B ∷ [])  -- EQBYT, LEBYT, GEBYT
    ∷ other 188 188 []  -- SRS
    ∷ row 189 [] 2 2 (λ _. swap)  -- SWAP
    ∷ other 190 195 []  -- TNC, RND, ADR, SBR, MPR, DVR
    ∷ row 196 [] 2 0 (λ _. indirect)  -- STO
    ∷ other 197 197 (UB ∷ B ∷ [])  -- MOV
    ∷ other 198 198 []  -- DUPR
    ∷ other 199 199 (UB ∷ [])  -- ADJ
    ∷ other 200 202 []  -- STB, LDP, STP
    ∷ row 203 [] 3 1 (λ _. subrange)  -- CHK
    ∷ other 204 207 []  -- FLT, EQREAL, LEREAL, GEREAL
    ∷ other 208 208 (UB ∷ [])  -- LDM
    ∷ other 209 209 []  -- SPR
    ∷ other 210 211 (SB ∷ [])  -- EFJ, NFJ
    ∷ row 212 (SB ∷ []) 1 0 (λ v. jump_if 0 (one v))  -- FJP
    ∷ row 213 (W ∷ []) 1 0 (λ v. jump_if 0 (one v))  -- FJPL
    ∷ row 214 (B ∷ []) 1 0 (λ v. case_jump (one v))  -- XJP
    ∷ other 215 215 (B ∷ [])  -- IXA
    ∷ other 216 216 (UB ∷ UB ∷ [])  -- IXP
    ∷ other 217 217 (UB ∷ B ∷ [])  -- STE
    ∷ other 218 223 []  -- INN, UNI, INT, DIF, SIGNAL, WAIT
    ∷ row 224 [] 1 1 (λ _. unary mag_of)  -- ABI
    ∷ row 225 [] 1 1 (λ _. unary neg_of)  -- NGI
    ∷ row 226 [] 1 2 (λ _. duplicate)  -- DUP1
    ∷ other 227 228 []  -- ABR, NGR
    ∷ row 229 [] 1 1 (λ _. unary not_of)  -- LNOT
    ∷ row 230 (B ∷ []) 1 1 (λ v. index (one v))  -- IND
    ∷ other 231 231 (B ∷ [])  -- INC
    ∷ other 232 235 (UB ∷ UB ∷ [])  -- EQSTR, LESTR, GESTR, ASTR
    ∷ other 236 236 []  -- CSTR
    ∷ row 237 [] 1 1 (λ _. unary inc_of)  -- INCI
    ∷ row 238 [] 1 1 (λ _. unary dec_of)  -- DECI
    ∷ row 239 (UB ∷ []) 0 0 (λ v. call (up 1) (one v))  -- SCPI1
    ∷ row 240 (UB ∷ []) 0 0 (λ v. call (up 2) (one v))  -- SCPI2
    ∷ row 241 (SB ∷ []) 1 0 (λ v. jump_if 1 (one v))  -- TJP
    ∷ other 242 242 (B ∷ [])  -- LDCRL
    ∷ other 243 244 []  -- LDRL, STRL
    ∷ other 245 249 []  -- unused
    ∷ other 250 255 []  -- RESERVE1 to RESERVE6
    ∷ []

-- The lines stand in the order of the numbers, from 0 to 255, with no number left out and none twice.
unfoldable pub consecutive : ℕ → List Line → Bool
consecutive n [] = eqb n 256
consecutive n (line ∷ lines) = eqb line.from n && (leb n line.to && consecutive (line.to + 1) lines)

-- so every byte has one row; proved by `lines_consecutive` of proofs/Rows
abbrev pub LinesConsecutive : Type 0
LinesConsecutive = consecutive 0 appendix_b ≡ true

-- the row of a byte: that of the first line that reaches it; past the last line no number is a byte
unfoldable pub row_in : List Line → ℕ → Row
row_in [] b = uncarried []
row_in (line ∷ lines) b = cond (leb b line.to) (line.row_of b) (row_in lines b)

unfoldable pub opcode : ℕ → Row
opcode b = row_in appendix_b b
