-- The steps' names.
use Rattle.std.specs.Prelude.{ℕ, ◌+◌, ◌-◌, Bool, false, not, Option, Some, None, List, [], ◌∷◌, eqb, ltb, length, get_or}
use Rattle.laws.specs.Choice.{pick}
use Rattle.laws.specs.Search.{first_from}
use Rattle.entry.specs.Refusals.{accepted, no_such_step}
use Rattle.text.specs.Marks.{byte_at}
use Rattle.text.specs.Quoted.{bytes}

-- The first of n places at which the text from `from` on and the name differ, else n.
abbrev pub unlike_at : List ℕ → ℕ → List ℕ → ℕ → Bool
unlike_at s from name i = not (eqb (byte_at s (from + i)) (byte_at name i))

unfoldable pub unlike_of : List ℕ → ℕ → ℕ → List ℕ → ℕ
unlike_of s from n name = first_from (unlike_at s from name) 0 n

-- The bytes from `from` up to `end` are the name: as many, and alike at every place.
unfoldable pub same_text : List ℕ → ℕ → ℕ → List ℕ → Bool
same_text s from end name =
    pick (ltb end from) false
    (pick (not (eqb (end - from) (length name))) false
    (eqb (unlike_of s from (length name) name) (length name)))

-- "Numbers: 0 LOAD, 1 STORE, 2 LT, 3 LTX, 4 ST, 5 COMMIT, 6 ABORT, 7 VALIDATE, 8 INTERRUPT": each name at its number
abbrev pub step_names : List (List ℕ)
step_names =
    bytes "LOAD" ∷
    bytes "STORE" ∷
    bytes "LT" ∷
    bytes "LTX" ∷
    bytes "ST" ∷
    bytes "COMMIT" ∷
    bytes "ABORT" ∷
    bytes "VALIDATE" ∷
    bytes "INTERRUPT" ∷
    []

-- The text is the name of step k.
unfoldable pub is_name : List ℕ → ℕ → ℕ → ℕ → Bool
is_name s from end k = same_text s from end (get_or step_names k [])

-- "`op` is a name above in capitals": the first step whose name the text is, else the number of names.
abbrev pub first_named : List ℕ → ℕ → ℕ → ℕ
first_named s from end = first_from (is_name s from end) 0 (length step_names)

unfoldable pub named_step : List ℕ → ℕ → ℕ → Option ℕ
named_step s from end = let k = first_named s from end in pick (ltb k (length step_names)) (Some k) None

-- What the two cases stand for: "any other text there is 6, not 11".
abbrev pub name_refusal : Option ℕ → ℕ
name_refusal (Some k) = accepted
name_refusal None = no_such_step
