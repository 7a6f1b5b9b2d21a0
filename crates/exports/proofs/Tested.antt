-- The test of a range of places, of a slice and as a fact.
use mathlib.Core.Path.{◌≡◌, sym, ap, ◌∙◌}
use mathlib.Core.Bool.{true}
use mathlib.Core.List.{List}
use Prim.Native.Nat.{ℕ, zero, suc, ◌+◌, ◌-◌, ◌<◌, ◌≤◌}
use native.Mathlib.Omega.{arith}
use lib.Dec.{eqb, leb}
use lib.ListN.{length, get_or, take, drop}
use borrow.Author.Tests.{le-ltb, ltb-false, eq-eqb, eqb-true}
use Rattle.std.specs.List.{list_all}
use Rattle.std.proofs.lemmas.Bool.Decides.{nat_tests}
use Rattle.std.proofs.lemmas.List.{get_or_default}
use Rattle.laws.specs.Search.{first_from, none_at, none_of}
use Rattle.rules.specs.State.{true_flag}
use Rattle.exports.specs.Array.{part, flags_from, flags_end, memory_from, lines_from, entries_end, state_end, exceeds, none_above, most_value, held_ok}
use Rattle.exports.proofs.Copied.{part_length, part_at, part_mid}

module _ (s : List ℕ) (most from to : ℕ) where
  abbrev found : ℕ
  found = first_from (exceeds most s) from (to - from)

  -- the test as a fact, and back
  pub none_above_at : from ≤ to → none_above most from to s ≡ true → (i : ℕ) → from ≤ i → i < to → get_or s i 0 ≤ most
  unfolding none_above
  none_above_at h t i a b =
      ltb-false most (get_or s i 0)
      (none_at (exceeds most s) from (to - from) (omega (arith, eqb-true found to t)) i a (omega arith))

  pub none_above_of : from ≤ to → ((i : ℕ) → from ≤ i → i < to → get_or s i 0 ≤ most) → none_above most from to s ≡ true
  unfolding none_above
  none_above_of h f =
      eq-eqb found to
      (omega (arith, none_of (exceeds most s) from (to - from) (λ k a b. le-ltb most (get_or s k 0) (f k a (omega arith)))))

-- the test of each number of a part, and of a slice
none_above_part : (s : List ℕ) (most from n to : ℕ) → from + n ≡ to →
    list_all (λ x. leb x most) (part from n s) ≡ eqb (first_from (exceeds most s) from n) to
unfolding part first_from
none_above_part s most from zero to e = sym (eq-eqb from to (omega arith))
none_above_part s most from (suc n) to e =
    let rest = none_above_part s most (suc from) n to (omega arith) in
    grind (arith, nat_tests)

pub none_above_mid : (s : List ℕ) (most from n to : ℕ) → from + n ≡ to → to ≤ length s →
    list_all (λ x. leb x most) (take n (drop from s)) ≡ none_above most from to s
unfolding none_above
none_above_mid s most from n to e h =
    let k : to - from ≡ n = omega arith in
    ap (λ (p : List ℕ). list_all (λ x. leb x most) p) (part_mid s from n (omega arith)) ∙ rw k (none_above_part s most from n to e)

-- and as a fact of each
pub none_above_in : (s : List ℕ) (most from n : ℕ) → from + n ≤ length s → none_above most from (from + n) s ≡ true →
    (i d : ℕ) → i < length (take n (drop from s)) → get_or (take n (drop from s)) i d ≤ most
none_above_in s most from n h t i d l =
    let e = part_mid s from n h in
    let k : i < n = omega (arith, ap length e, part_length from n s) in
    omega (
      arith,
      get_or_default (take n (drop from s)) i d 0 l,
      ap (λ (p : List ℕ). get_or p i 0) e,
      part_at from n s i k,
      none_above_at s most from (from + n) (omega arith) t (from + i) (omega arith) (omega arith),
    )

-- what the test of an array says of it
pub record Held (s : List ℕ) : Type 0 where
  pub long : length s ≡ state_end
  pub first : none_above 0 4 flags_from s ≡ true
  pub flags : none_above true_flag flags_from flags_end s ≡ true
  pub between : none_above 0 flags_end memory_from s ≡ true
  pub memory : none_above most_value memory_from lines_from s ≡ true
  pub last : none_above 0 entries_end state_end s ≡ true

pub held : (s : List ℕ) → held_ok s ≡ true → Held s
unfolding held_ok
held s h = record {
  long = grind (arith, nat_tests);
  first = grind (arith, nat_tests);
  flags = grind (arith, nat_tests);
  between = grind (arith, nat_tests);
  memory = grind (arith, nat_tests);
  last = grind (arith, nat_tests);
}
