-- Where the code of a routine ends in a listing: before the first word, from its own first byte up, that is known to be no code.
-- Above: the contract of `code_end`. Below: the header numbers and routines of `segment`.
use Rattle.std.specs.Prelude.{ℕ, zero, suc, ◌+◌, ◌-◌, ◌*◌, List, ◌&&◌, cond, leb, ltb, length}
use Rattle.segment.specs.Head.{dict, pool, count, entry, linked}

-- word w's first byte, where that lies from `start` up and below `end`; else `end`
unfoldable pub nearer : ℕ → ℕ → ℕ → ℕ
nearer start end w = cond (leb start (2 * w) && ltb (2 * w) end) (2 * w) end

-- the words of routine k: its word of the dictionary and, if it is linked, EXITIC and DATASIZE
unfoldable pub nearer_of : List ℕ → ℕ → ℕ → ℕ → ℕ
nearer_of s start end k =
    cond (linked s k) (nearer start (nearer start (nearer start end (dict s + k)) (entry s k - 1)) (entry s k))
    (nearer start end (dict s + k))

-- the pool's first word, the dictionary's first word, and the words of the routines 1 to k
unfoldable pub end_by : List ℕ → ℕ → ℕ → ℕ
end_by s start zero = nearer start (nearer start (length s) (pool s)) (dict s)
end_by s start (suc k) = nearer_of s start (end_by s start k) (suc k)

abbrev pub code_end : List ℕ → ℕ → ℕ
code_end s start = end_by s start (count s)
