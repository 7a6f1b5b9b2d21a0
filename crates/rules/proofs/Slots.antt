-- "So no slot for a tentative entry exists exactly when every entry is tentative."
use mathlib.Core.Path.{◌≡◌, refl, ◌∙◌, sym}
use mathlib.Core.Logic.{◌≢◌}
use mathlib.Core.Bool.{Bool, true, false, not, true≢false}
use mathlib.Core.List.{List}
use Prim.Native.Nat.{ℕ, ◌<◌, ◌≤◌}
use native.Mathlib.Omega.{arith}
use lib.Dec.{eqb, ltb}
use borrow.Author.Tests.{eq-eqb, ne_eqb, ltb-true, ltb-false, le-ltb}
use Rattle.laws.specs.Choice.{pick, both}
use Rattle.laws.specs.Search.{first_range, none_at, none_of}
use Rattle.entry.specs.Numbers.{INVALID, NORMAL, BACKUP, TENTATIVE}
use Rattle.rules.specs.State.{copy_at}
use Rattle.rules.specs.Own.{is_free, lowest, free_slot}

-- every one of p's n entries is tentative
pub AllTentative : List ℕ → ℕ → ℕ → Type 0
AllTentative es p n = (i : ℕ) → i < n → (copy_at es p i).tag ≡ TENTATIVE

-- an entry that none of three searches finds is tentative
last_tag : (t : ℕ) → t < 4 → t ≢ INVALID → t ≢ NORMAL → t ≢ BACKUP → t ≡ TENTATIVE
last_tag t h a b c = omega arith

module _ (es : List ℕ) (p n : ℕ) where
  -- a search that takes no slot finds none exactly when no entry has the tag
  found_none : (tag i : ℕ) → lowest es p n tag n ≡ n → i < n → (copy_at es p i).tag ≢ tag
  unfolding lowest
  found_none tag i e h q =
      let t = none_at (is_free es p tag n) 0 n (omega (arith, e)) i (omega arith) (omega arith) in
      true≢false (rw (ne_eqb i n (λ z. omega arith), eq-eqb _ _ q) at t)

  finds_none : (tag : ℕ) → ((i : ℕ) → i < n → (copy_at es p i).tag ≢ tag) → lowest es p n tag n ≡ n
  unfolding lowest
  finds_none tag h =
      let e = none_of (is_free es p tag n) 0 n (λ k a b. rw (ne_eqb _ _ (h k (omega arith))) (zero (not (eqb k n)))) in omega (arith, e)
    where
      zero : (b : Bool) → both b false ≡ false
      zero true = refl
      zero false = refl

  lowest_most : (tag : ℕ) → lowest es p n tag n ≤ n
  unfolding lowest
  lowest_most tag = omega (arith, (first_range (is_free es p tag n) 0 n).1)

  pub no_slot : free_slot es p n n ≡ n → AllTentative es p n
  unfolding free_slot AllTentative
  no_slot e i h =
      last_tag (copy_at es p i).tag (omega arith) (found_none INVALID i first.0 h) (found_none NORMAL i first.1 h)
      (found_none BACKUP i first.2 h)
    where
      by : (a b c : ℕ) → a ≤ n → b ≤ n → c ≤ n → pick (ltb a n) a (pick (ltb b n) b c) ≡ n → (a ≡ n) × (b ≡ n) × (c ≡ n)
      by a b c ha hb hc z = at (ltb a n) (ltb b n) refl refl z
        where
          at : (x y : Bool) → ltb a n ≡ x → ltb b n ≡ y → pick x a (pick y b c) ≡ n → (a ≡ n) × (b ≡ n) × (c ≡ n)
          at true y tx ty q = absurd (omega (arith, ltb-true a n tx, q))
          at false true tx ty q = absurd (omega (arith, ltb-true b n ty, q))
          at false false tx ty q = (omega (arith, ltb-false a n tx), omega (arith, ltb-false b n ty), q)

      first : (lowest es p n INVALID n ≡ n) × (lowest es p n NORMAL n ≡ n) × (lowest es p n BACKUP n ≡ n)
      first =
          by (lowest es p n INVALID n) (lowest es p n NORMAL n) (lowest es p n BACKUP n) (lowest_most INVALID) (lowest_most NORMAL)
          (lowest_most BACKUP) e

  pub only_tentative : AllTentative es p n → free_slot es p n n ≡ n
  unfolding free_slot AllTentative
  only_tentative h =
      rw (
        finds_none INVALID (λ i l. other i l INVALID (λ z. omega arith)),
        finds_none NORMAL (λ i l. other i l NORMAL (λ z. omega arith)),
        le-ltb n n (omega arith),
      )
      (finds_none BACKUP (λ i l. other i l BACKUP (λ z. omega arith)))
    where
      other : (i : ℕ) → i < n → (tag : ℕ) → tag ≢ TENTATIVE → (copy_at es p i).tag ≢ tag
      other i l tag ne q = ne (sym q ∙ h i l)
