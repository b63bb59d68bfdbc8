-- What an instruction means, its operands put in: one case for each group of entries under "Individual p-Code Instructions" of 000.
-- Above: Opcode gives each first byte its meaning, Step says what each does; below: nothing.
use Rattle.std.specs.Prelude.{ℕ}

-- Whose activation record: the globals' ("the record at 1"), or the one that so many static links lead to; 0 links stay at the current one.
pub data Whose : Type 0 where
  globals : Whose
  up : ℕ → Whose

pub data Meaning : Type 0 where
  constant : ℕ → Meaning  -- push this word
  pool_offset : ℕ → Meaning  -- push the pool pointer plus this
  constants : ℕ → ℕ → ℕ → Meaning  -- by a mode, from an offset of the pool, push so many words
  load : Whose → ℕ → Meaning  -- push the word at an offset of a record
  address : Whose → ℕ → Meaning  -- push that word's address
  store : Whose → ℕ → Meaning  -- pop into that word
  index : ℕ → Meaning  -- an address becomes the word so many words on from it
  indirect : Meaning  -- pop a word and an address, store the word there
  unary : (ℕ → ℕ) → Meaning  -- of TOS
  binary : (ℕ → ℕ → ℕ) → Meaning  -- of TOS-1 and TOS
  division : (ℕ → ℕ → ℕ) → Meaning  -- the same, and TOS is a divisor
  duplicate : Meaning
  swap : Meaning
  nothing : Meaning
  subrange : Meaning  -- TOS-1 <= TOS-2 <= TOS, leaving TOS-2
  jump : ℕ → Meaning  -- by a distance, in two's complement
  jump_if : ℕ → ℕ → Meaning  -- pop, and jump where its bit 0 is this
  case_jump : ℕ → Meaning  -- pop an index, and jump by the table at an offset of the pool
  call : Whose → ℕ → Meaning  -- a routine, with that lexical parent
  return : ℕ → Meaning  -- drop the mark and so many words above it
