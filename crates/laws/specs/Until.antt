-- A loop that may stop early: turn i makes x into g i x, unless stop i x. The answer is the place reached and the state there.
-- Assumes nothing.
use Rattle.std.specs.Prelude.{◌≡◌, Bool, true, false}
use Rattle.std.proofs.Math.Path.{refl}
use Prim.Native.Nat.{ℕ, zero, suc, ◌+◌, ◌-◌, ◌≤◌, ◌<◌}
use native.Mathlib.Omega.{arith}
use Rattle.std.proofs.Math.Numerals.{add-one}
use Rattle.laws.specs.Choice.{pick}

unfoldable pub until_range : {A : Type 0} → (ℕ → A → Bool) → (ℕ → A → A) → ℕ → ℕ → A → ℕ × A
until_range stop g i zero x = (i, x)
until_range stop g i (suc n) x = let r = until_range stop g (suc i) n (g i x) in pick (stop i x) (i, x) r

-- What a loop's proof cites: b is where the range ends, i the loop's place.
module _ {A : Type 0} (stop : ℕ → A → Bool) (g : ℕ → A → A) where
  pub until_end : (i b : ℕ) (x : A) → b ≤ i → until_range stop g i (b - i) x ≡ (i, x)
  unfolding until_range
  until_end i b x h = go (b - i) (omega arith)
    where
      go : (n : ℕ) → n ≡ 0 → until_range stop g i n x ≡ (i, x)
      go zero e = refl
      go (suc n) e = absurd (omega arith)

  pub until_stop : (i b : ℕ) (x : A) → i < b → stop i x ≡ true → until_range stop g i (b - i) x ≡ (i, x)
  unfolding until_range
  until_stop i b x h t = go (b - i) (omega arith)
    where
      go : (n : ℕ) → 0 < n → until_range stop g i n x ≡ (i, x)
      go zero l = absurd (omega arith)
      go (suc n) l = rw t

  pub until_turn : (i b : ℕ) (x : A) → i < b → stop i x ≡ false →
      until_range stop g i (b - i) x ≡ until_range stop g (i + 1) (b - (i + 1)) (g i x)
  unfolding until_range
  until_turn i b x h t = go (b - i) (b - (i + 1)) (omega arith)
    where
      go : (n m : ℕ) → n ≡ suc m → until_range stop g i n x ≡ until_range stop g (i + 1) m (g i x)
      go zero m e = absurd (omega arith)
      go (suc n) m e = let k : n ≡ m = omega arith in rw (t, add-one, k)

-- What each turn preserves that is taken, the loop preserves.
pub until_inv : {A : Type 0} (P : A → Type 0) (stop : ℕ → A → Bool) (g : ℕ → A → A) →
    ((i : ℕ) (x : A) → stop i x ≡ false → P x → P (g i x)) → (i n : ℕ) (x : A) → P x → P (until_range stop g i n x).1
unfolding until_range
until_inv P stop g h i zero x p = p
until_inv P stop g h i (suc n) x p = by (stop i x) refl (λ e. until_inv P stop g h (suc i) n (g i x) (h i x e p))
  where
    by : (b : Bool) → stop i x ≡ b → (stop i x ≡ false → P (until_range stop g (suc i) n (g i x)).1) →
        P (pick b (i, x) (until_range stop g (suc i) n (g i x))).1
    by true e r = p
    by false e r = r e
