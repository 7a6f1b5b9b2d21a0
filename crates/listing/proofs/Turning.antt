-- A loop that turns until a test says stop, with a measure that falls: enough turns give the same. Assumes nothing.
use mathlib.Core.Path.{◌≡◌, refl}
use mathlib.Core.Bool.{Bool, true, false}
use Prim.Native.Nat.{ℕ, zero, suc, ◌≤◌, ◌<◌}
use native.Mathlib.Omega.{arith}
use Rattle.laws.specs.Choice.{pick}
use Rattle.listing.specs.Pieces.{run_to}

module _ {A : Type 0} (stop : A → Bool) (g : A → A) where
  pub run_stop : (f : ℕ) (x : A) → stop x ≡ true → run_to stop g f x ≡ x
  unfolding run_to
  run_stop zero x t = refl
  run_stop (suc f) x t = rw t

  module _ (μ : A → ℕ) (falls : (x : A) → stop x ≡ false → μ (g x) < μ x) where
    pub run_fuel : (f k : ℕ) (x : A) → μ x ≤ f → μ x ≤ k → run_to stop g f x ≡ run_to stop g k x
    unfolding run_to
    run_fuel zero zero x h l = refl
    run_fuel zero (suc k) x h l = by (stop x) refl
      where
        by : (b : Bool) → stop x ≡ b → x ≡ pick b x (run_to stop g k (g x))
        by true e = refl
        by false e = absurd (omega (arith, falls x e))
    run_fuel (suc f) zero x h l = by (stop x) refl
      where
        by : (b : Bool) → stop x ≡ b → pick b x (run_to stop g f (g x)) ≡ x
        by true e = refl
        by false e = absurd (omega (arith, falls x e))
    run_fuel (suc f) (suc k) x h l =
        by (stop x) refl (λ e. run_fuel f k (g x) (omega (arith, falls x e)) (omega (arith, falls x e)))
      where
        by : (b : Bool) → stop x ≡ b → (stop x ≡ false → run_to stop g f (g x) ≡ run_to stop g k (g x)) →
            pick b x (run_to stop g f (g x)) ≡ pick b x (run_to stop g k (g x))
        by true e ih = refl
        by false e ih = ih e

    -- one turn
    pub run_turn : (x : A) → stop x ≡ false → run_to stop g (μ x) x ≡ run_to stop g (μ (g x)) (g x)
    unfolding run_to
    run_turn x t = go (μ x) refl
      where
        go : (n : ℕ) → μ x ≡ n → run_to stop g n x ≡ run_to stop g (μ (g x)) (g x)
        go zero e = absurd (omega (arith, falls x t))
        go (suc n) e = rw t (run_fuel n (μ (g x)) (g x) (omega (arith, falls x t)) (omega arith))
