-- Where a record ends: not before it starts nor past the input; a CRLF stands there unless the input ends; none stands before. Assumes
-- nothing.
use mathlib.Core.Path.{◌≡◌, refl, sym, ◌∙◌, ap}
use mathlib.Core.Bool.{Bool, true, false, ◌&&◌}
use mathlib.Core.List.{List, [], ◌∷◌}
use Prim.Native.Nat.{ℕ, ◌+◌, ◌-◌, ◌≤◌, ◌<◌, max}
use native.Mathlib.Omega.{arith}
use native.Mathlib.Nat.{add-zero}
use native.Mathlib.Decide.{dec_lt}
use lib.Dec.{eqb}
use lib.ListN.{length, get_or, drop}
use Rattle.std.specs.Prelude.{Option, Some, None, MatchOption, unwrap_or, slice_range}
use Rattle.std.specs.List.{starts_with}
use Rattle.std.proofs.Common.{true≢false}
use Rattle.std.proofs.lemmas.Bool.Decides.{nat_tests}
use Rattle.std.proofs.lemmas.List.{get_or-drop}
use Rattle.std.proofs.lemmas.Slice.{between_to_end}
use Rattle.laws.specs.Choice.{both}
use Rattle.laws.specs.Search.{first_from, first_range, first_has, first_not, none_of}
use Rattle.text.specs.Records.{ends_at, record_end}

module _ (s : List ℕ) (from : ℕ) where
  pub end_range : from ≤ length s → (from ≤ record_end s from) × (record_end s from ≤ length s)
  unfolding record_end
  end_range h = let r = first_range (ends_at s) from (length s - from) in (r.0, omega (arith, r.1))

  pub end_has : record_end s from < length s → ends_at s (record_end s from) ≡ true
  unfolding record_end
  end_has h =
      let r = first_range (ends_at s) from (length s - from) in
      first_has (ends_at s) from (length s - from) (omega (arith, r.0))

  pub end_not : (k : ℕ) → from ≤ k → k < record_end s from → ends_at s k ≡ false
  unfolding record_end
  end_not k h l = first_not (ends_at s) from (length s - from) k h l

-- The place that a search from the front yields, by what is known of it and of those before it.
pub first_at : (p : ℕ → Bool) (i n k : ℕ) → i ≤ k → k < i + n → p k ≡ true → ((j : ℕ) → i ≤ j → j < k → p j ≡ false) → first_from p i n ≡ k
first_at p i n k h l t f = by (dec_lt (first_from p i n) k) (dec_lt k (first_from p i n))
  where
    r : ℕ
    r = first_from p i n

    by : Dec (r < k) → Dec (k < r) → r ≡ k
    by (yes a) b = absurd (true≢false (sym (first_has p i n (omega arith)) ∙ f r (first_range p i n).0 a))
    by (no a) (yes b) = absurd (true≢false (sym t ∙ first_not p i n k h b))
    by (no a) (no b) = omega arith

pub end_found : (s : List ℕ) (from : ℕ) (r : Option ℕ) →
    MatchOption r
    ((k : ℕ) → from ≤ k → k < length s → ends_at s k ≡ false)
    (λ i. (from ≤ i) × (i < length s) × (ends_at s i ≡ true) × ((k : ℕ) → from ≤ k → k < i → ends_at s k ≡ false)) →
    unwrap_or r (max from (length s)) ≡ record_end s from
unfolding record_end
end_found s from None h = omega (arith, none_of (ends_at s) from (length s - from) (λ k a b. h k a (omega arith)))
end_found s from (Some i) h = sym (first_at (ends_at s) from (length s - from) i h.0 (omega (arith, h.0, h.1)) h.2 h.3)

pub eqb_turned : (a b : ℕ) → eqb a b ≡ eqb b a
eqb_turned a b = grind (arith, nat_tests)

-- A CRLF stands at the front of what is left of the text.
pub crlf_first : (l : List ℕ) → starts_with eqb l (13 ∷ 10 ∷ []) ≡ both (eqb (get_or l 0 0) 13) (eqb (get_or l 1 0) 10)
crlf_first [] = refl
crlf_first (a ∷ []) = rw (eqb_turned 13 a) (nor (eqb a 13))
  where
    nor : (t : Bool) → (t && false) ≡ both t false
    nor true = refl
    nor false = refl
crlf_first (a ∷ (b ∷ l)) = rw (eqb_turned 13 a, eqb_turned 10 b) (two (eqb a 13) (eqb b 10))
  where
    two : (t u : Bool) → (t && (u && true)) ≡ both t u
    two true true = refl
    two true false = refl
    two false u = refl

pub crlf_at : (s : List ℕ) (i : ℕ) → starts_with eqb (slice_range s i (length s)) (13 ∷ 10 ∷ []) ≡ ends_at s i
crlf_at s i =
    let first : get_or (drop i s) 0 0 ≡ get_or s i 0 = get_or-drop i s 0 0 ∙ ap (λ (k : ℕ). get_or s k 0) (add-zero i) in
    rw (between_to_end s i (length s) (omega arith), crlf_first (drop i s), first, get_or-drop i s 1 0) refl
