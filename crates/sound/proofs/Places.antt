-- Place j is slot j % 64 of processor j / 64: place p i, read by p and i. Assumes nothing.
use mathlib.Core.Path.{◌≡◌, refl, subst}
use Prim.Native.Nat.{ℕ, ◌/◌, ◌%◌, ◌<◌}
use native.Mathlib.Omega.{arith}
use Rattle.rules.specs.State.{place}

pub place_in : (p i : ℕ) → place p i < 512
place_in p i = omega arith

pub place_processor : (p i : ℕ) → p < 8 → place p i / 64 ≡ p
place_processor p i h = omega arith

pub place_slot : (p i : ℕ) → i < 64 → place p i % 64 ≡ i
place_slot p i h = omega arith

pub place_of : (p k : ℕ) → k < 512 → k / 64 ≡ p → place p (k % 64) ≡ k
place_of p k h e = omega arith

pub place_once : (p i j : ℕ) → i < 64 → j < 64 → place p i ≡ place p j → i ≡ j
place_once p i j a b e = omega arith

-- what holds of every slot of every processor holds of every place
pub each_place : (P : ℕ → Type 0) → ((p i : ℕ) → p < 8 → i < 64 → P (place p i)) → (j : ℕ) → j < 512 → P j
each_place P f j h = subst P (place_of (j / 64) j h refl) (f (j / 64) (j % 64) (omega arith) (omega arith))
