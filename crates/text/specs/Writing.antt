-- Text written at a place of a lent buffer.
use Rattle.std.specs.Prelude.{ℕ, zero, suc, ◌+◌, ◌-◌, ◌/◌, ◌%◌, List, [], ◌∷◌, ◌++◌, leb, ltb, length}
use Rattle.std.proofs.lemmas.List.Edits.{sets}
use Rattle.laws.specs.Choice.{pick}
use Rattle.text.specs.Marks.{DIGIT_ZERO}

-- A place in a buffer, and what the buffer holds.
pub record Filled : Type 0 where
  pub place : ℕ
  pub held : List ℕ

abbrev pub filled : ℕ → List ℕ → Filled
filled p h = record { place = p; held = h }

-- A text at the place, the rest of the buffer kept, and the place after it. Where it does not fit, nothing is written and the place stays.
unfoldable pub put_of : List ℕ → Filled → Filled
put_of t x =
    pick (leb (x.place + length t) (length x.held))
    (filled (x.place + length t) (sets x.held x.place t))
    x

-- A number of 64 bits has at most 20 digits.
abbrev pub WIDTH_MOST : ℕ
WIDTH_MOST = 20

-- How many digits: w, where what is left of the number is below ten, else one more of what is left over ten; at most f more.
unfoldable pub width_from : ℕ → ℕ → ℕ → ℕ
width_from zero x w = w
width_from (suc f) x w = let r = width_from f (x / 10) (w + 1) in pick (ltb x 10) w r

unfoldable pub width_of : ℕ → ℕ
width_of v = width_from (WIDTH_MOST - 1) v 1

abbrev pub digit_of : ℕ → ℕ
digit_of x = DIGIT_ZERO + x % 10

-- The last w digits of v.
unfoldable pub digits : ℕ → ℕ → List ℕ
digits zero v = []
digits (suc w) v = digits w (v / 10) ++ (digit_of v ∷ [])

-- "numbers are decimal .., at least one digit, no leading zero but for 0"
unfoldable pub decimal : ℕ → List ℕ
decimal v = digits (width_of v) v
