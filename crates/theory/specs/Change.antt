-- Changes of a view: of one word in one processor's cache, of one processor's copies and flags, of nothing.
use Rattle.std.specs.Prelude.{◌≡◌, ◌≢◌, true, ℕ}
use Rattle.theory.specs.View.{Copy, View}

abbrev pub Live : View → ℕ → Type 0
Live S p = (S.active p ≡ true) × (S.status p ≡ true)

-- nothing changes but word w in the memory and in p's cache
pub record OnlyWord (p w : ℕ) (S S' : View) : Type 0 where
  pub memory_else : (u : ℕ) → u ≢ w → S'.memory u ≡ S.memory u
  pub word_else : (u : ℕ) → u ≢ w → (q : ℕ) → S'.copy u q ≡ S.copy u q
  pub proc_else : (q : ℕ) → q ≢ p → S'.copy w q ≡ S.copy w q
  pub active_same : (q : ℕ) → S'.active q ≡ S.active q
  pub status_same : (q : ℕ) → S'.status q ≡ S.status q

-- nothing changes but p's copies, each by f, and p's flags
pub record OnlyProcessor (f : Copy → Copy) (p : ℕ) (S S' : View) : Type 0 where
  pub memory_same : (u : ℕ) → S'.memory u ≡ S.memory u
  pub here : (u : ℕ) → S'.copy u p ≡ f (S.copy u p)
  pub else : (u q : ℕ) → q ≢ p → S'.copy u q ≡ S.copy u q
  pub active_else : (q : ℕ) → q ≢ p → S'.active q ≡ S.active q
  pub status_else : (q : ℕ) → q ≢ p → S'.status q ≡ S.status q

abbrev pub same : Copy → Copy
same k = k

-- nothing changes
pub record Same (S S' : View) : Type 0 where
  pub memory_same : (u : ℕ) → S'.memory u ≡ S.memory u
  pub copy_same : (u q : ℕ) → S'.copy u q ≡ S.copy u q
  pub active_same : (q : ℕ) → S'.active q ≡ S.active q
  pub status_same : (q : ℕ) → S'.status q ≡ S.status q
