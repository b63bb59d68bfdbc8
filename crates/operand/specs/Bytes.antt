-- Bytes and words of a segment, which is a list of bytes.
-- Above: operands, the segment's header, and the machine. Assumes nothing.
use Rattle.std.specs.Prelude.{ℕ, ◌+◌, ◌*◌, List, Bool, true, false, get_or}

-- byte i, and 0 past the end
abbrev pub byte_at : List ℕ → ℕ → ℕ
byte_at s i = get_or s i 0

-- the number of two bytes, the least first
abbrev pub join : ℕ → ℕ → ℕ
join lo hi = lo + 256 * hi

-- word w of a segment of either sex: "01 00 (least byte first) or 00 01 (most first)"
unfoldable pub word_by : Bool → List ℕ → ℕ → ℕ
word_by true s w = join (byte_at s (2 * w)) (byte_at s (2 * w + 1))
word_by false s w = join (byte_at s (2 * w + 1)) (byte_at s (2 * w))
