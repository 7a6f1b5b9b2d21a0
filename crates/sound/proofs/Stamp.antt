-- A pass that writes value k at key k of a list, for each place k that is on: what stands at a key w afterwards. Assumes nothing.
use mathlib.Core.Path.{◌≡◌, sym, ◌∙◌, ap}
use mathlib.Core.Logic.{◌⊎◌, inl, inr}
use mathlib.Core.List.{List}
use Prim.Native.Nat.{ℕ, zero, suc, ◌+◌, ◌≤◌, ◌<◌}
use native.Mathlib.Omega.{arith}
use native.Mathlib.Decide.{ℕ_discrete}
use lib.ListN.{length, get_or, set, length-set}
use lib.Seq.{get_or-set_same, get_or-set_other}
use Rattle.laws.specs.Fold.{fold_range, fold_keeps}

module _ (On : ℕ → Type 0) (key value : ℕ → ℕ) (turn : ℕ → List ℕ → List ℕ)
    (turns : (k : ℕ) (l : List ℕ) → ((On k) × (turn k l ≡ set l (key k) (value k))) ⊎ ((On k → ⊥) × (turn k l ≡ l))) where
  turn_length : (k : ℕ) (l : List ℕ) → length (turn k l) ≡ length l
  turn_length k l = by (turns k l)
    where
      by : ((On k) × (turn k l ≡ set l (key k) (value k))) ⊎ ((On k → ⊥) × (turn k l ≡ l)) → length (turn k l) ≡ length l
      by (inl t) = ap length t.1 ∙ length-set l (key k) (value k)
      by (inr t) = ap length t.1

  pub stamped_length : (i n : ℕ) (l : List ℕ) → length (fold_range turn i n l) ≡ length l
  stamped_length i n l = fold_keeps length turn turn_length i n l

  module _ (P : ℕ → Type 0) (w : ℕ) where
    -- one turn: what it writes at w has P, or it leaves what stood there
    one_turn : (k : ℕ) (l : List ℕ) → w < length l → (On k → key k ≡ w → P (value k)) → ((On k → key k ≡ w → ⊥) → P (get_or l w 0)) →
        P (get_or (turn k l) w 0)
    one_turn k l h new old = by (turns k l) (ℕ_discrete (key k) w)
      where
        by : ((On k) × (turn k l ≡ set l (key k) (value k))) ⊎ ((On k → ⊥) × (turn k l ≡ l)) → Dec (key k ≡ w) → P (get_or (turn k l) w 0)
        by (inl t) (yes e) = rw (t.1, e, get_or-set_same l w (value k) 0 h) (new t.0 e)
        by (inl t) (no n) = rw (t.1, get_or-set_other l (key k) w (value k) 0 (λ z. n (sym z))) (old (λ o e. n e))
        by (inr t) d = rw t.1 (old (λ o e. t.0 o))

    -- where all that is written at w has P, and what stood there has
    pub stamped_all : (i n : ℕ) (l : List ℕ) → w < length l → P (get_or l w 0) →
        ((k : ℕ) → i ≤ k → k < i + n → On k → key k ≡ w → P (value k)) → P (get_or (fold_range turn i n l) w 0)
    unfolding fold_range
    stamped_all i zero l h p all = p
    stamped_all i (suc n) l h p all =
        stamped_all (suc i) n (turn i l) (omega (arith, h, turn_length i l)) (one_turn i l h (all i (omega arith) (omega arith)) (λ z. p))
        (λ k a b. all k (omega arith) (omega arith))

    -- where all that is written at w has P, and something is
    pub stamped_some : (i n : ℕ) (l : List ℕ) → w < length l →
        ((k : ℕ) → i ≤ k → k < i + n → On k → key k ≡ w → P (value k)) →
        (j : ℕ) → i ≤ j → j < i + n → On j → key j ≡ w → P (get_or (fold_range turn i n l) w 0)
    unfolding fold_range
    stamped_some i zero l h all j a b o e = absurd (omega arith)
    stamped_some i (suc n) l h all j a b o e =
        by (ℕ_discrete j i) (λ ne. stamped_some (suc i) n (turn i l) (omega (arith, h, turn_length i l)) rest j (omega arith) (omega arith) o e)
      where
        rest : (k : ℕ) → suc i ≤ k → k < suc i + n → On k → key k ≡ w → P (value k)
        rest k a b = all k (omega arith) (omega arith)

        by : Dec (j ≡ i) → ((j ≡ i → ⊥) → P (get_or (fold_range turn (suc i) n (turn i l)) w 0)) →
            P (get_or (fold_range turn (suc i) n (turn i l)) w 0)
        by (no ne) later = later ne
        by (yes z) later =
            stamped_all (suc i) n (turn i l) (omega (arith, h, turn_length i l))
            (one_turn i l h (all i (omega arith) (omega arith)) (λ none. absurd (none (rw (← z) o) (rw (← z) e)))) rest
