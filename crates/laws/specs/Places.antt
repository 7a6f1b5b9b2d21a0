-- A loop that applies f at the places pos i, pos (i + 1), .. of a list, n of them: said once over the element type and over where the
-- places stand, with what it leaves at each place. Assumes nothing.
use Rattle.std.specs.Prelude.{◌≡◌, ◌≢◌, List, set}
use Rattle.std.proofs.Math.Path.{refl, ap}
use Rattle.std.proofs.Common.{◌∙◌, sym, arith, get_or-set_same}
use Prim.Native.Nat.{ℕ, zero, suc, ◌+◌, ◌-◌, ◌≤◌, ◌<◌}
use Rattle.std.proofs.Math.Decide.{ℕ_discrete}
use Rattle.std.proofs.Math.ListN.{length, get_or, length-set}
use Rattle.std.proofs.Math.Seq.{get_or-set_other}
use Rattle.laws.specs.Fold.{fold_range, fold_end, fold_turn, fold_keeps}

module _ {A : Type 0} (pos : ℕ → ℕ) (f : A → A) (d : A) where
  abbrev pub apply_at : ℕ → List A → List A
  apply_at i l = set l (pos i) (f (get_or l (pos i) d))

  unfoldable pub apply_from : ℕ → ℕ → List A → List A
  apply_from i n l = fold_range apply_at i n l

  -- what a loop's proof cites: b is where the range ends, i the loop's place
  pub apply_end : (i b : ℕ) (l : List A) → b ≤ i → apply_from i (b - i) l ≡ l
  unfolding apply_from
  apply_end i b l h = fold_end apply_at i b l h

  pub apply_turn : (i b : ℕ) (l : List A) → i < b → apply_from i (b - i) l ≡ apply_from (i + 1) (b - (i + 1)) (apply_at i l)
  unfolding apply_from
  apply_turn i b l h = fold_turn apply_at i b l h

  pub apply_length : (i n : ℕ) (l : List A) → length (apply_from i n l) ≡ length l
  unfolding apply_from
  apply_length i n l = fold_keeps length apply_at (λ k x. length-set x (pos k) _) i n l

  -- a place that is none of them keeps what stood there
  pub apply_other : (i n k : ℕ) (l : List A) → ((j : ℕ) → i ≤ j → j < i + n → pos j ≢ k) →
      get_or (apply_from i n l) k d ≡ get_or l k d
  unfolding apply_from fold_range
  apply_other i zero k l ne = refl
  apply_other i (suc n) k l ne =
      apply_other (suc i) n k (apply_at i l) (λ j a b. ne j (omega arith) (omega arith)) ∙
      get_or-set_other l (pos i) k _ d (λ e. ne i (omega arith) (omega arith) (sym e))

  -- at each of them, where no two are one, stands f of what stood there
  pub apply_in : (i n j : ℕ) (l : List A) → i ≤ j → j < i + n → pos j < length l →
      ((a : ℕ) → i ≤ a → a < i + n → pos a ≡ pos j → a ≡ j) → get_or (apply_from i n l) (pos j) d ≡ f (get_or l (pos j) d)
  unfolding apply_from fold_range
  apply_in i zero j l lo hi h one = absurd (omega arith)
  apply_in i (suc n) j l lo hi h one =
      by (ℕ_discrete i j)
      (λ ne.
      apply_in (suc i) n j (apply_at i l) (omega arith) (omega arith) (omega (arith, h, length-set l (pos i) (f (get_or l (pos i) d))))
      (λ a b c. one a (omega arith) (omega arith)))
    where
      by : Dec (i ≡ j) → (i ≢ j → get_or (apply_from (suc i) n (apply_at i l)) (pos j) d ≡ f (get_or (apply_at i l) (pos j) d)) →
          get_or (apply_from (suc i) n (apply_at i l)) (pos j) d ≡ f (get_or l (pos j) d)
      by (yes e) ih =
          apply_other (suc i) n (pos j) (apply_at i l) (λ a b c q. omega (arith, one a (omega arith) (omega arith) q)) ∙
          rw (← e) (get_or-set_same l (pos i) _ d (rw (← e) at h))
      by (no ne) ih =
          ih ne ∙ ap f (get_or-set_other l (pos i) (pos j) _ d (λ q. ne (one i (omega arith) (omega arith) (sym q))))
