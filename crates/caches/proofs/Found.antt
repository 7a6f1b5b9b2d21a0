-- What the library says of a search, `find` over a range of places or `position` in a slice of copies, as the definitions say it. Assumes
-- nothing.
use mathlib.Core.Path.{◌≡◌, refl, sym, ◌∙◌}
use mathlib.Core.Bool.{Bool, true, false, false≢true}
use mathlib.Core.List.{List}
use Prim.Native.Nat.{ℕ, min, ◌+◌, ◌-◌, ◌*◌, ◌%◌, ◌≤◌, ◌<◌}
use native.Mathlib.Omega.{arith}
use native.Mathlib.Decide.{dec_lt}
use borrow.Author.Tests.{lt-ltb, le-ltb, ltb-true, ltb-false}
use lib.Dec.{ltb}
use lib.ListN.{length, get_or, take, drop}
use Rattle.std.proofs.Math.Nat.{min-le_left, min-le_right}
use Rattle.std.proofs.lemmas.List.{get_or-take, get_or-drop, length-take-le, length-drop}
use Rattle.rules.specs.State.{place}
use Rattle.std.proofs.Common.{Option, Some, None, MatchOption}
use Rattle.std.specs.List.{AllWithin, HoldsAt}
use Rattle.laws.specs.Choice.{pick}
use Rattle.laws.specs.Search.{first_from, first_has, first_not, none_of}
use Rattle.caches.specs.Own.{below}

-- what a search that found says, and one that did not
pub some_below : (n i k : ℕ) → Some k ≡ below n i → (i < n) × (i ≡ k)
some_below n i k = by (ltb i n) refl
  where
    by : (b : Bool) → ltb i n ≡ b → Some k ≡ pick b (Some i) None → (i < n) × (i ≡ k)
    by true t e = (ltb-true i n t, cc)
    by false t e = absurd (cc)

pub none_below : (n i : ℕ) → None ≡ below n i → n ≤ i
none_below n i = by (ltb i n) refl
  where
    by : (b : Bool) → ltb i n ≡ b → None ≡ pick b (Some i) None → n ≤ i
    by true t e = absurd (cc)
    by false t e = ltb-false i n t

module _ (p : ℕ → Bool) where
  abbrev pub HasNone : ℕ → ℕ → Type 0
  HasNone i j = (k : ℕ) → i ≤ k → k < j → p k ≡ false

  none_on : (i j n : ℕ) → HasNone i j → HasNone j n → HasNone i n
  none_on i j n h g k a b = by (dec_lt k j)
    where
      by : Dec (k < j) → p k ≡ false
      by (yes z) = h k a z
      by (no z) = g k (omega arith) b

  pub first_at : (i n : ℕ) → i < n → p i ≡ true → HasNone 0 i → first_from p 0 n ≡ i
  first_at i n h has no_other = by (dec_lt (first_from p 0 n) i) (dec_lt i (first_from p 0 n))
    where
      by : Dec (first_from p 0 n < i) → Dec (i < first_from p 0 n) → first_from p 0 n ≡ i
      by (yes l) z = absurd (false≢true (sym (no_other (first_from p 0 n) (omega arith) l) ∙ first_has p 0 n (omega arith)))
      by (no l) (yes k) = absurd (false≢true (sym (first_not p 0 n i (omega arith) k) ∙ has))
      by (no l) (no k) = omega arith

  pub nowhere : (n : ℕ) → HasNone 0 n → None ≡ below n (first_from p 0 n)
  nowhere n h =
      let e : first_from p 0 n ≡ n = none_of p 0 n (λ k a b. h k a (omega arith)) ∙ omega arith in
      rw (e, le-ltb n n (omega arith)) refl

  there : (i n : ℕ) → i < n → p i ≡ true → HasNone 0 i → Some i ≡ below n (first_from p 0 n)
  there i n l has h = rw (first_at i n l has h, lt-ltb i n l) refl

  -- `find` over the places from `from` on, none before which has what is looked for
  pub found : (from n : ℕ) (r : Option ℕ) → HasNone 0 from →
      MatchOption r ((k : ℕ) → from ≤ k → k < n → p k ≡ false)
      (λ i. (from ≤ i) × (i < n) × (p i ≡ true) × ((k : ℕ) → from ≤ k → k < i → p k ≡ false)) → r ≡ below n (first_from p 0 n)
  found from n None before h = nowhere n (none_on 0 from n before h)
  found from n (Some i) before h = there i n h.1 h.2 (none_on 0 from i before h.3)

-- `position` in the slice of p's first entries, of n at most 64, since places go round after that, behind those that were passed over
module _ (es : List ℕ) (p n base j : ℕ) (start : base ≡ p % 8 * 64) (whole : length es ≡ 512) (size : j ≡ min n 64) (test : ℕ → Bool) where
  abbrev own : List ℕ
  own = take j (drop base es)

  abbrev at_place : ℕ → Bool
  at_place i = test (get_or es (place p i) 0)

  own_length : length own ≡ j
  own_length = length-take-le j (drop base es) (omega (arith, start, whole, size, length-drop base es, min-le_right n 64))

  own_at : (i : ℕ) → i < length own → at_place i ≡ test (get_or own i 0)
  own_at i h =
      let small : i % 64 ≡ i = omega (arith, h, own_length, size, min-le_right n 64) in
      rw (get_or-take j (drop base es) i 0 (omega (arith, h, own_length)), get_or-drop base es i 0, start, small) refl

  own_round : (i : ℕ) → at_place i ≡ at_place (i % 64)
  own_round i = let e : i % 64 % 64 ≡ i % 64 = omega arith in rw e refl

  wrapped : (i : ℕ) → i < n → i % 64 < length own
  wrapped i h = omega (arith, own_length, size, h)

  -- the slice of them from place i on
  abbrev from_on : ℕ → List ℕ
  from_on i = take (length own - i) (drop i own)

  on_length : (i : ℕ) → length (from_on i) ≡ length own - i
  on_length i = length-take-le (length own - i) (drop i own) (omega (arith, length-drop i own))

  on_at : (i k : ℕ) → i ≤ k → k < length own → at_place k ≡ test (get_or (from_on i) (k - i) 0)
  on_at i k a b =
      let at : i + (k - i) ≡ k = omega arith in
      own_at k b ∙ rw (get_or-take (length own - i) (drop i own) (k - i) 0 (omega arith), get_or-drop i own (k - i) 0, at) refl

  none_behind : (i k : ℕ) → HasNone at_place 0 i → i + k ≤ length own → ((l : ℕ) → l < k → test (get_or (from_on i) l 0) ≡ false) →
      HasNone at_place 0 (i + k)
  none_behind i k before room h = none_on at_place 0 i (i + k) before (λ l a b. on_at i l a (omega arith) ∙ h (l - i) (omega arith))

  abbrev AllFail : List ℕ → ℕ → Type 0
  AllFail xs k = AllWithin (λ x. test x ≡ false) xs 0 k

  abbrev IsFound : List ℕ → Option ℕ → Type 0
  IsFound xs r = MatchOption r (AllFail xs (length xs)) (λ k. (k < length xs) × HoldsAt (λ x. test x ≡ true) xs k × AllFail xs k)

  -- r of those from place i on, none before which passes; s the place itself
  found_on : (i : ℕ) (r s : Option ℕ) → HasNone at_place 0 i → i ≤ length own → IsFound (from_on i) r →
      MatchOption r (s ≡ None) (λ k. s ≡ Some (i + k)) → s ≡ below n (first_from at_place 0 n)
  found_on i None s before room h e =
      let all = none_behind i (length own - i) before (omega arith) (λ l b. h l 0 (omega arith) (omega (arith, on_length i))) in
      e ∙ nowhere at_place n (λ k a b. own_round k ∙ all (k % 64) (omega arith) (omega (arith, wrapped k b)))
  found_on i (Some k) s before room h e =
      let low : i + k < length own = omega (arith, h.0, on_length i) in
      let at : i + k - i ≡ k = omega arith in
      let here : at_place (i + k) ≡ true = on_at i (i + k) (omega arith) low ∙ rw at (h.1 0) in
      let none = none_behind i k before (omega arith) (λ l b. h.2 l 0 (omega arith) b) in
      e ∙ there at_place (i + k) n (omega (arith, own_length, size, min-le_left n 64)) here none

  -- none before `from`, and none of those passed over behind it
  pub placed : (from over : ℕ) (r s : Option ℕ) → HasNone at_place 0 from → from + over ≤ length own →
      ((k : ℕ) → k < over → test (get_or (from_on from) k 0) ≡ false) → IsFound (from_on (from + over)) r →
      MatchOption r (s ≡ None) (λ k. s ≡ Some (from + over + k)) → s ≡ below n (first_from at_place 0 n)
  placed from over r s before room passed h e = found_on (from + over) r s (none_behind from over before room passed) room h e
