use mathlib.Core.Path.{◌≡◌, subst}
use mathlib.Core.List.{List, []}
use mathlib.Core.Bool.{false}
use Prim.Native.Nat.{ℕ, zero, suc, ◌+◌, ◌-◌, ◌*◌, ◌/◌, ◌≤◌, ◌<◌}
use native.Mathlib.Omega.{arith}
use native.Mathlib.Decide.{dec_lt}
use lib.ListN.{length, get_or, take, drop}
use Rattle.std.specs.List.{All, AllWithin, HoldsAt}
use Rattle.std.specs.Simd.{first_chunks}
use Rattle.std.specs.Option.{unwrap_or}
use Rattle.std.proofs.Common.{Option, Some, None, MatchOption}
use Rattle.std.proofs.lemmas.Iterator.{IsFirst-from_position, YieldsList-from_slice}
use Rattle.std.proofs.lemmas.List.{get_or-take, get_or-drop, length-take-le, length-drop}
use borrow.Author.Rules.{rules}
use Rattle.caches.proofs.eights_over.Goals as goal

module _ {X : Type 0} (P : X → Type 0) where
  behind : (n m : ℕ) (xs : List X) → All P (take n xs) → n ≤ length xs → AllWithin P (drop n xs) 0 m → AllWithin P xs 0 (n + m)
  behind n m xs front room back k d a b = by (dec_lt k n)
    where
      by : Dec (k < n) → P (get_or xs k d)
      by (yes l) = rw (← get_or-take n xs k d l) (front k d (omega (arith, length-take-le n xs room)))
      by (no l) =
          let at : n + (k - n) ≡ k = omega arith in
          rw (← at, ← get_or-drop n xs (k - n) d) (back (k - n) d (omega arith) (omega arith))

  -- each of the first j lists has it throughout
  abbrev EachHas : List (List X) → ℕ → Type 0
  EachHas xss j = AllWithin (All P) xss 0 j

  of_eights : (n j : ℕ) (xs : List X) → 8 * n ≤ length xs → j ≤ n → EachHas (first_chunks 8 n xs) j → AllWithin P xs 0 (8 * j)
  of_eights n zero xs room le h = λ k d a b. absurd (omega arith)
  of_eights zero (suc j) xs room le h = absurd (omega arith)
  of_eights (suc n) (suc j) xs room le h =
      let rest : EachHas (first_chunks 8 n (drop 8 xs)) j = λ i d s t. h (suc i) d (omega arith) (omega arith) in
      let back = of_eights n j (drop 8 xs) (omega (arith, length-drop 8 xs)) (omega arith) rest in
      let more : 8 + 8 * j ≡ 8 * suc j = omega arith in
      subst (AllWithin P xs 0) more (behind 8 (8 * j) xs (h 0 [] (omega arith) (omega arith)) (omega arith) back)

  -- the eights before the one that is found, or all of them
  before_found : (xs : List X) (xss : List (List X)) (r : Option ℕ) → xss ≡ first_chunks 8 (length xs / 8) xs → length xss ≡ length xs / 8 →
      MatchOption r (EachHas xss (length xss)) (λ i. (i < length xss) × HoldsAt (λ ys. Unit {0}) xss i × EachHas xss i) →
      AllWithin P xs 0 (8 * unwrap_or r (length xss))
  before_found xs xss None e long h = of_eights (length xs / 8) (length xss) xs (omega arith) (omega arith) (subst (λ l. EachHas l (length xss)) e h)
  before_found xs xss (Some i) e long h = of_eights (length xs / 8) i xs (omega arith) (omega (arith, h.0)) (subst (λ l. EachHas l i) e h.2)

pub returns-clause-none : goal.returns-clause-none
returns-clause-none g c =
    let x = c.args in
    let P : ℕ → Type 0 = λ y. goal.F-post g x.test.now y x.key false in
    let found = IsFirst-from_position _ _ _ (λ ys. Unit {0}) (All P) c.position-found.ensures.ran
    (YieldsList-from_slice _ c.iter.ensures.rest) (λ y q k. tt) (λ y q k. search rules) in
    let eights = c.as_chunks.ensures in
    λ k b. (search rules, before_found P x.own.now _ _ eights.front eights.front_len found k 0 (omega arith) (omega (arith, b, c.unwrap_or.ensures)))
