-- A number field.
use Rattle.std.specs.Prelude.{ℕ, ◌+◌, ◌*◌, ◌-◌, Option, Some, None, List, eqb, leb, ltb}
use Rattle.laws.specs.Choice.{pick}
use Rattle.laws.specs.Fold.{fold_range}
use Rattle.entry.specs.Refusals.{accepted, malformed}
use Rattle.text.specs.Marks.{DIGIT_ZERO, DIGIT_NINE, NUMBER_MOST, byte_at}

-- What a field's two cases stand for: a number that is read is no refusal, one that is not is "11".
abbrev pub field_refusal : Option ℕ → ℕ
field_refusal (Some v) = accepted
field_refusal None = malformed

-- One more digit: "numbers are decimal, at most 4294967295". A byte that is no digit, or a number above that, is bad, and stays so.
unfoldable pub push : ℕ → Option ℕ → Option ℕ
push b (Some v) =
    let w = v * 10 + (b - DIGIT_ZERO) in
    pick (ltb b DIGIT_ZERO) None
    (pick (ltb DIGIT_NINE b) None
    (pick (ltb NUMBER_MOST w) None
    (Some w)))
push b None = None

abbrev pub push_at : List ℕ → ℕ → Option ℕ → Option ℕ
push_at s i f = push (byte_at s i) f

abbrev pub digits_of : List ℕ → ℕ → ℕ → Option ℕ
digits_of s from end = fold_range (push_at s) from (end - from) (Some 0)

-- The bytes from `from` up to `end`: "at least one digit, no leading zero but for 0".
unfoldable pub field_of : List ℕ → ℕ → ℕ → Option ℕ
field_of s from end =
    pick (leb end from) None
    (pick (eqb (byte_at s from) DIGIT_ZERO) (pick (eqb (end - from) 1) (Some 0) None)
    (digits_of s from end))
