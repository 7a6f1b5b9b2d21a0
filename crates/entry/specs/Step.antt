-- One step, and which of its fields it uses.
use Rattle.std.specs.Prelude.{Bool, false, List, [], ◌∷◌, ℕ, eqb}
use Rattle.laws.specs.Choice.{either}
use Rattle.entry.specs.declared.step.Step.{Step}
use Rattle.entry.specs.Numbers.{LOAD, STORE, LT, LTX, ST}

-- a step by its four fields
abbrev pub step : ℕ → ℕ → ℕ → ℕ → Step
step op core word value = record { op = op; core = core; word = word; value = value }

-- one of the numbers
abbrev pub among : ℕ → List ℕ → Bool
among n [] = false
among n (x ∷ l) = either (eqb n x) (among n l)

-- "Steps 0 to 4 use a word, 1 and 4 also a value."
abbrev pub uses_word : ℕ → Bool
uses_word op = among op (LOAD ∷ STORE ∷ LT ∷ LTX ∷ ST ∷ [])

abbrev pub uses_value : ℕ → Bool
uses_value op = among op (STORE ∷ ST ∷ [])
