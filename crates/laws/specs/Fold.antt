-- A loop over the places from i on, n of them: g i, then g (i + 1), and so on, applied to x. Assumes nothing.
use Rattle.std.specs.Prelude.{◌≡◌}
use Rattle.std.proofs.Math.Path.{refl}
use Rattle.std.proofs.Common.{◌∙◌, add-one}
use Prim.Native.Nat.{ℕ, zero, suc, ◌+◌, ◌-◌, ◌≤◌, ◌<◌}
use native.Mathlib.Omega.{arith}
use Rattle.std.proofs.Math.Decide.{ℕ_discrete}

unfoldable pub fold_range : {A : Type 0} → (ℕ → A → A) → ℕ → ℕ → A → A
fold_range g i zero x = x
fold_range g i (suc n) x = fold_range g (suc i) n (g i x)

-- What a loop's proof cites: b is where the range ends, i the loop's place.
module _ {A : Type 0} (g : ℕ → A → A) where
  pub fold_end : (i b : ℕ) (x : A) → b ≤ i → fold_range g i (b - i) x ≡ x
  unfolding fold_range
  fold_end i b x h = go (b - i) (omega arith)
    where
      go : (n : ℕ) → n ≡ 0 → fold_range g i n x ≡ x
      go zero e = refl
      go (suc n) e = absurd (omega arith)

  pub fold_turn : (i b : ℕ) (x : A) → i < b → fold_range g i (b - i) x ≡ fold_range g (i + 1) (b - (i + 1)) (g i x)
  unfolding fold_range
  fold_turn i b x h = go (b - i) (b - (i + 1)) (omega arith)
    where
      go : (n m : ℕ) → n ≡ suc m → fold_range g i n x ≡ fold_range g (i + 1) m (g i x)
      go zero m e = absurd (omega arith)
      go (suc n) m e = let k : n ≡ m = omega arith in rw (add-one, k)

-- What each turn keeps, the loop keeps: h is a field, or any view of the state.
pub fold_keeps : {A B : Type 0} (h : A → B) (g : ℕ → A → A) → ((i : ℕ) (x : A) → h (g i x) ≡ h x) →
    (i n : ℕ) (x : A) → h (fold_range g i n x) ≡ h x
unfolding fold_range
fold_keeps h g k i zero x = refl
fold_keeps h g k i (suc n) x = fold_keeps h g k (suc i) n (g i x) ∙ k i x

-- What each turn preserves, the loop preserves.
pub fold_inv : {A : Type 0} (P : A → Type 0) (g : ℕ → A → A) → ((i : ℕ) (x : A) → P x → P (g i x)) →
    (i n : ℕ) (x : A) → P x → P (fold_range g i n x)
unfolding fold_range
fold_inv P g h i zero x p = p
fold_inv P g h i (suc n) x p = fold_inv P g h (suc i) n (g i x) (h i x p)

-- What turn k makes true, and every other turn keeps, holds after the loop of every k in it. Q is what every turn preserves.
pub fold_makes : {A : Type 0} (Q : A → Type 0) (P : ℕ → A → Type 0) (g : ℕ → A → A) →
    ((i : ℕ) (x : A) → Q x → Q (g i x)) → ((k : ℕ) (x : A) → Q x → P k (g k x)) →
    ((k j : ℕ) (x : A) → Q x → P k x → P k (g j x)) →
    (i n : ℕ) (x : A) → Q x → (k : ℕ) → i ≤ k → k < i + n → P k (fold_range g i n x)
unfolding fold_range
fold_makes Q P g kq mk kp i zero x q k h l = absurd (omega arith)
fold_makes Q P g kq mk kp i (suc n) x q k h l =
    by (ℕ_discrete k i) (λ ne. fold_makes Q P g kq mk kp (suc i) n (g i x) (kq i x q) k (omega arith) (omega arith))
  where
    kept : (j : ℕ) (y : _) → (Q y) × P k y → (Q (g j y)) × P k (g j y)
    kept j y z = (kq j y z.0, kp k j y z.0 z.1)

    by : Dec (k ≡ i) → ((k ≡ i → ⊥) → P k (fold_range g (suc i) n (g i x))) → P k (fold_range g (suc i) n (g i x))
    by (yes e) ih = (fold_inv (λ y. (Q y) × P k y) g kept (suc i) n (g i x) (kq i x q, rw e (mk i x q))).1
    by (no ne) ih = ih ne
