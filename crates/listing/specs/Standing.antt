-- Where a replay stands between two lines of its listing, as the definitions see it: what the next line is and a refusal by their numbers,
-- 0 for none.
use Rattle.std.specs.Prelude.{ℕ, Option}

pub record Standing : Type 0 where
  pub phase : ℕ
  pub refusal : ℕ
  pub at : ℕ
  pub number : ℕ
  pub last : Option ℕ
  pub commits : ℕ
  pub cycles : ℕ
