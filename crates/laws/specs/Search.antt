-- A search: the first of the n places from i on at which p is true, else i + n, the place past the last. Assumes nothing.
use Rattle.std.specs.Prelude.{◌≡◌, Bool}
use Rattle.std.proofs.Math.Path.{refl}
use Rattle.std.proofs.Common.{sym, ◌∙◌, true≢false}
use Rattle.std.proofs.Math.Bool.{true, false}
use Prim.Native.Nat.{ℕ, zero, suc, ◌+◌, ◌-◌, ◌≤◌, ◌<◌}
use native.Mathlib.Omega.{arith}
use Rattle.std.proofs.Math.Numerals.{add-one}
use Rattle.std.proofs.Math.Decide.{ℕ_discrete, dec_lt}
use Rattle.laws.specs.Choice.{pick}

unfoldable pub first_from : (ℕ → Bool) → ℕ → ℕ → ℕ
first_from p i zero = i
first_from p i (suc n) = let r = first_from p (suc i) n in pick (p i) i r

-- What a loop's proof cites: b is where the range ends, i the loop's place.
module _ (p : ℕ → Bool) where
  pub first_end : (i b : ℕ) → b ≤ i → first_from p i (b - i) ≡ i
  unfolding first_from
  first_end i b h = go (b - i) (omega arith)
    where
      go : (n : ℕ) → n ≡ 0 → first_from p i n ≡ i
      go zero e = refl
      go (suc n) e = absurd (omega arith)

  pub first_hit : (i b : ℕ) → i < b → p i ≡ true → first_from p i (b - i) ≡ i
  unfolding first_from
  first_hit i b h t = go (b - i) (omega arith)
    where
      go : (n : ℕ) → 0 < n → first_from p i n ≡ i
      go zero l = absurd (omega arith)
      go (suc n) l = rw t

  pub first_miss : (i b : ℕ) → i < b → p i ≡ false → first_from p i (b - i) ≡ first_from p (i + 1) (b - (i + 1))
  unfolding first_from
  first_miss i b h t = go (b - i) (b - (i + 1)) (omega arith)
    where
      go : (n m : ℕ) → n ≡ suc m → first_from p i n ≡ first_from p (i + 1) m
      go zero m e = absurd (omega arith)
      go (suc n) m e = let k : n ≡ m = omega arith in rw (t, add-one, k)

  -- where a search ends
  pub first_range : (i n : ℕ) → (i ≤ first_from p i n) × (first_from p i n ≤ i + n)
  unfolding first_from
  first_range i zero = omega arith
  first_range i (suc n) = by (p i) (first_range (suc i) n)
    where
      by : (b : Bool) → (suc i ≤ first_from p (suc i) n) × (first_from p (suc i) n ≤ suc i + n) →
          (i ≤ pick b i (first_from p (suc i) n)) × (pick b i (first_from p (suc i) n) ≤ i + suc n)
      by true h = omega arith
      by false h = omega arith

  -- a place before the end that a search yields has what was looked for
  pub first_has : (i n : ℕ) → first_from p i n < i + n → p (first_from p i n) ≡ true
  unfolding first_from
  first_has i zero h = absurd (omega arith)
  first_has i (suc n) h = by (p i) refl (λ l. first_has (suc i) n l) h
    where
      by : (b : Bool) → p i ≡ b → (first_from p (suc i) n < suc i + n → p (first_from p (suc i) n) ≡ true) →
          pick b i (first_from p (suc i) n) < i + suc n → p (pick b i (first_from p (suc i) n)) ≡ true
      by true e ih l = e
      by false e ih l = ih (omega arith)

  -- and no place before it has
  pub first_not : (i n k : ℕ) → i ≤ k → k < first_from p i n → p k ≡ false
  unfolding first_from
  first_not i zero k h l = absurd (omega arith)
  first_not i (suc n) k h l = by (p i) refl (ℕ_discrete k i) (λ h' l'. first_not (suc i) n k h' l') l
    where
      by : (b : Bool) → p i ≡ b → Dec (k ≡ i) → (suc i ≤ k → k < first_from p (suc i) n → p k ≡ false) →
          k < pick b i (first_from p (suc i) n) → p k ≡ false
      by true e d ih l' = absurd (omega arith)
      by false e (yes d) ih l' = rw d e
      by false e (no d) ih l' = ih (omega arith) l'

-- A test of every place: none has p exactly when the search for one reaches the end.
module _ (p : ℕ → Bool) where
  pub none_at : (i n : ℕ) → first_from p i n ≡ i + n → (k : ℕ) → i ≤ k → k < i + n → p k ≡ false
  none_at i n e k h l = first_not p i n k h (omega (arith, e))

  pub none_of : (i n : ℕ) → ((k : ℕ) → i ≤ k → k < i + n → p k ≡ false) → first_from p i n ≡ i + n
  none_of i n h = by (dec_lt (first_from p i n) (i + n))
    where
      by : Dec (first_from p i n < i + n) → first_from p i n ≡ i + n
      by (yes l) =
          absurd (true≢false (sym (first_has p i n l) ∙ h (first_from p i n) (first_range p i n).0 l))
      by (no l) = omega (arith, (first_range p i n).1)
