-- One copy of a word, as the definitions see it: its state and its tag by their numbers, the word, the data.
use Rattle.std.specs.Prelude.{ℕ}

pub record Fields : Type 0 where
  pub state : ℕ
  pub tag : ℕ
  pub word : ℕ
  pub «data» : ℕ
