-- Records: where one ends, and what it holds.
use Rattle.std.specs.Prelude.{ℕ, ◌+◌, ◌-◌, Bool, Option, Some, None, Result, Ok, Err, List, [], ◌∷◌, eqb, leb, ltb, length}
use Rattle.std.specs.Prelude.{take, drop, not, option_and_then}
use Rattle.std.specs.Bool.{then_some}
use Rattle.std.specs.List.{list_any}
use Rattle.laws.specs.Choice.{pick, both}
use Rattle.laws.specs.Search.{first_from}
use Rattle.entry.specs.declared.refusals.Refusal.{Refusal}
use Rattle.entry.specs.Refusals.{accepted, malformed, number_of, unless}
use Rattle.entry.specs.Step.{step}
use Rattle.text.specs.declared.records.Parsed.{Parsed}
use Rattle.text.specs.Marks.{CR, LF, COMMA, QUOTE_MARK, RECORD_MOST, byte_at, find_of}
use Rattle.text.specs.Decimals.{field_refusal, field_of}
use Rattle.text.specs.Names.{name_refusal, named_step}

-- What a record's two cases stand for: one that is read is no refusal.
abbrev pub record_refusal : Result Parsed ℕ → ℕ
record_refusal (Ok p) = accepted
record_refusal (Err n) = n

-- the code's refusal by its number
abbrev pub numbered : Result Parsed Refusal → Result Parsed ℕ
numbered (Ok p) = Ok p
numbered (Err r) = Err (number_of r)

-- "RFC 4180 lines, CRLF"; "lone CR or LF counts as a byte of the record"
abbrev pub ends_at : List ℕ → ℕ → Bool
ends_at s i = both (eqb (byte_at s i) CR) (eqb (byte_at s (i + 1)) LF)

-- The first CRLF at or after a place, else the end of input: "the last CRLF may be missing". A place past the end is its own end.
unfoldable pub record_end : List ℕ → ℕ → ℕ
record_end s from = first_from (ends_at s) from (length s - from)

-- "At most 64 bytes before its CRLF", and no "quote mark anywhere"
unfoldable pub plain_of : List ℕ → ℕ → ℕ → Bool
plain_of s from end =
    both (leb from end) (both (leb (end - from) RECORD_MOST) (leb end (find_of s from end QUOTE_MARK)))

-- Where the four commas of a record stand.
pub record Commas : Type 0 where
  pub a : ℕ
  pub b : ℕ
  pub c : ℕ
  pub d : ℕ

-- "A record has five unquoted fields": four commas and no fifth.
unfoldable pub split_of : List ℕ → ℕ → ℕ → Option Commas
split_of s from end =
    let a = find_of s from end COMMA in
    let b = find_of s (a + 1) end COMMA in
    let c = find_of s (b + 1) end COMMA in
    let d = find_of s (c + 1) end COMMA in
    let e = find_of s (d + 1) end COMMA in
    unless (plain_of s from end) None
    (unless (ltb a end) None
    (unless (ltb b end) None
    (unless (ltb c end) None
    (unless (ltb d end) None
    (unless (leb end e) None
    (Some (record { a = a; b = b; c = c; d = d })))))))

-- The fields of a record read downwards, the number fields first: a bad one's refusal comes before that of an op that is no name.
abbrev pub parsed_of : Option ℕ → Option ℕ → Option ℕ → Option ℕ → Option ℕ → Result Parsed ℕ
parsed_of None c w v op = Err (field_refusal None)
parsed_of (Some g) None w v op = Err (field_refusal None)
parsed_of (Some g) (Some c) None v op = Err (field_refusal None)
parsed_of (Some g) (Some c) (Some w) None op = Err (field_refusal None)
parsed_of (Some g) (Some c) (Some w) (Some v) None = Err (name_refusal None)
parsed_of (Some g) (Some c) (Some w) (Some v) (Some k) = Ok (record { grant = g; step = step k c w v })

-- "The header is `grant,core,op,word,value`": the fields in this order.
abbrev pub record_in : List ℕ → ℕ → ℕ → Option Commas → Result Parsed ℕ
record_in s from end None = Err malformed
record_in s from end (Some cs) =
    parsed_of
    (field_of s from cs.a)
    (field_of s (cs.a + 1) cs.b)
    (field_of s (cs.c + 1) cs.d)
    (field_of s (cs.d + 1) end)
    (named_step s (cs.b + 1) cs.c)

-- The record of the bytes from `from` up to `end`.
unfoldable pub record_of : List ℕ → ℕ → ℕ → Result Parsed ℕ
record_of s from end = record_in s from end (split_of s from end)

-- Of a text, what stands before its first comma, and what after it.
abbrev pub cut_at : List ℕ → ℕ → Option (List ℕ × List ℕ)
cut_at t k = pick (ltb k (length t)) (Some (take k t, drop (k + 1) t)) None

unfoldable pub cut_of : List ℕ → Option (List ℕ × List ℕ)
cut_of t = cut_at t (find_of t 0 (length t) COMMA)

-- The five fields of a record by itself, cut off one after the other: `split_of` has their places.
abbrev pub has_mark : ℕ → List ℕ → Bool
has_mark x t = list_any (λ b. eqb b x) t

infixl 10 ◌>>=◌
abbrev pub ◌>>=◌ : {A B : Type 0} → Option A → (A → Option B) → Option B
o >>= f = option_and_then f o

abbrev pub cut_fields : List ℕ → Option (List (List ℕ))
cut_fields t = do
  a ← cut_of t
  b ← cut_of a.1
  c ← cut_of b.1
  d ← cut_of c.1
  then_some (not (has_mark COMMA d.1)) (a.0 ∷ b.0 ∷ c.0 ∷ d.0 ∷ d.1 ∷ [])

unfoldable pub fields_of : List ℕ → Option (List (List ℕ))
fields_of t = pick (both (leb (length t) RECORD_MOST) (not (has_mark QUOTE_MARK t))) (cut_fields t) None
