-- Bytes of the text and its limits by name, and a search for a byte. Files of this folder quote "The replay program and its text".
use Rattle.std.specs.Prelude.{ℕ, ◌-◌, Bool, List, eqb, get_or}
use Rattle.laws.specs.Search.{first_from}

abbrev pub LF : ℕ
LF = 10

abbrev pub CR : ℕ
CR = 13

abbrev pub QUOTE_MARK : ℕ
QUOTE_MARK = 34

abbrev pub COMMA : ℕ
COMMA = 44

abbrev pub DIGIT_ZERO : ℕ
DIGIT_ZERO = 48

abbrev pub DIGIT_NINE : ℕ
DIGIT_NINE = 57

-- "At most 64 bytes before its CRLF"
abbrev pub RECORD_MOST : ℕ
RECORD_MOST = 64

-- "at most 4294967295"
abbrev pub NUMBER_MOST : ℕ
NUMBER_MOST = 4294967295

-- The byte at a place, 0 past the end: 0 is no digit, no comma, no quote mark, and neither CR nor LF.
abbrev pub byte_at : List ℕ → ℕ → ℕ
byte_at s i = get_or s i 0

abbrev pub is_byte : List ℕ → ℕ → ℕ → Bool
is_byte s x i = eqb (byte_at s i) x

-- The first place from `from` on, below `end`, at which x stands, else `end`; `from` where that is past `end`.
unfoldable pub find_of : List ℕ → ℕ → ℕ → ℕ → ℕ
find_of s from end x = first_from (is_byte s x) from (end - from)
