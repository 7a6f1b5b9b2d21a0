-- A text written in pieces: lines one after the other into a bounded buffer, as many as surely fit, and again from there. Stated once over
-- what a line is.
use Rattle.std.specs.Prelude.{Bool, not, List, [], ◌++◌, ℕ, zero, suc, ◌+◌, leb, length}
use Rattle.std.proofs.lemmas.List.Edits.{sets}
use Rattle.laws.specs.Choice.{pick, both}

-- at most f turns, until a test says stop
unfoldable pub run_to : {A : Type 0} → (A → Bool) → (A → A) → ℕ → A → A
run_to stop g zero x = x
run_to stop g (suc f) x = let r = run_to stop g f (g x) in pick (stop x) x r

-- what a piece carries: where it stands, and the buffer with its first places written
pub record Filling (S : Type 0) : Type 0 where
  pub state : S
  pub used : ℕ
  pub buffer : List ℕ

abbrev pub filling : {S : Type 0} → S → ℕ → List ℕ → Filling S
filling x u o = record { state = x; used = u; buffer = o }

-- S is what stands between two lines, more whether another line comes, line that line and next what stands after it.
module _ {S : Type 0} (more : S → Bool) (line : S → List ℕ) (next : S → S) where
  -- the text of at most f lines
  unfoldable pub text_from : ℕ → S → List ℕ
  text_from zero x = []
  text_from (suc f) x = let r = line x ++ text_from f (next x) in pick (more x) r []

  -- No line is longer than most.
  module _ (most : ℕ) where
    abbrev pub stops : Filling S → Bool
    stops c = not (both (more c.state) (leb (c.used + most) (length c.buffer)))

    abbrev pub piece_turn : Filling S → Filling S
    piece_turn c = filling (next c.state) (c.used + length (line c.state)) (sets c.buffer c.used (line c.state))

    -- a piece of at most f lines
    unfoldable pub piece_of : ℕ → S → List ℕ → Filling S
    piece_of f x o = run_to stops piece_turn f (filling x 0 o)
