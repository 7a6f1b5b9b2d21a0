-- What a processor's first NORMAL or tentative entry of a word says of its entries of either tag. Assumes nothing.
use mathlib.Core.Path.{◌≡◌, refl, ◌∙◌, sym}
use mathlib.Core.Bool.{Bool, true, false, false≢true}
use mathlib.Core.List.{List}
use Prim.Native.Nat.{ℕ, ◌≤◌, ◌<◌}
use native.Mathlib.Omega.{arith}
use borrow.Author.Tests.{eq-eqb, eqb-true, lt-ltb, le-ltb}
use lib.Dec.{eqb}
use Rattle.laws.specs.Choice.{both, either, both_left, both_right}
use Rattle.laws.specs.Search.{first_from, first_has, first_not, none_of}
use Rattle.entry.specs.Numbers.{NORMAL, TENTATIVE}
use Rattle.rules.specs.State.{copy_at}
use Rattle.rules.specs.Own.{has_entry, has_live, find_entry, live_entry}
use Rattle.caches.specs.declared.Own.TheVariants.{Tentative, Normal, Nowhere}
use Rattle.caches.specs.Own.{own_entry}
use Rattle.caches.proofs.Found.{first_at}

not_left : (a b c : Bool) → both (either a b) c ≡ false → both a c ≡ false
not_left true b c e = e
not_left false b c e = refl

not_right : (a b c : Bool) → both (either a b) c ≡ false → both b c ≡ false
not_right true true c e = e
not_right false true c e = e
not_right a false c e = refl

only_left : (a b : Bool) → b ≡ false → either a b ≡ true → a ≡ true
only_left true b e h = refl
only_left false b e h = absurd (false≢true (sym e ∙ h))

module _ (es : List ℕ) (p n word : ℕ) where
  never_tentative : (k : ℕ) → has_live es p word k ≡ false → has_entry es p TENTATIVE word k ≡ false
  never_tentative k e =
      let t = (copy_at es p k).tag in
      not_right (eqb t NORMAL) (eqb t TENTATIVE) (eqb (copy_at es p k).word word) e

  never_normal : (k : ℕ) → has_live es p word k ≡ false → has_entry es p NORMAL word k ≡ false
  never_normal k e =
      let t = (copy_at es p k).tag in
      not_left (eqb t NORMAL) (eqb t TENTATIVE) (eqb (copy_at es p k).word word) e

  -- no entry of a tag whose entries all take part
  none_live : (tag : ℕ) → ((k : ℕ) → has_live es p word k ≡ false → has_entry es p tag word k ≡ false) →
      n ≤ live_entry es p n word → find_entry es p n tag word ≡ n
  unfolding live_entry find_entry
  none_live tag never h =
      none_of (has_entry es p tag word) 0 n (λ k a b. never k (first_not (has_live es p word) 0 n k a (omega arith))) ∙ omega arith

  -- the first that takes part is the first of its own tag
  first_live : (tag : ℕ) → ((k : ℕ) → has_live es p word k ≡ false → has_entry es p tag word k ≡ false) →
      live_entry es p n word < n → (copy_at es p (live_entry es p n word)).tag ≡ tag → find_entry es p n tag word ≡ live_entry es p n word
  unfolding live_entry find_entry
  first_live tag never h t =
      let i = first_from (has_live es p word) 0 n in
      let e = copy_at es p i in
      let tagged = either (eqb e.tag NORMAL) (eqb e.tag TENTATIVE) in
      let w = both_right tagged (eqb e.word word) (first_has (has_live es p word) 0 n (omega arith)) in
      first_at (has_entry es p tag word) i n h (rw (eq-eqb e.tag tag t) w)
      (λ k a b. never k (first_not (has_live es p word) 0 n k a b))

  pub none_tentative : n ≤ live_entry es p n word → find_entry es p n TENTATIVE word ≡ n
  none_tentative h = none_live TENTATIVE never_tentative h

  pub first_tentative : live_entry es p n word < n → (copy_at es p (live_entry es p n word)).tag ≡ TENTATIVE →
      find_entry es p n TENTATIVE word ≡ live_entry es p n word
  first_tentative h t = first_live TENTATIVE never_tentative h t

  pub before_live : (k : ℕ) → k < live_entry es p n word → has_entry es p TENTATIVE word k ≡ false
  unfolding live_entry
  before_live k h = never_tentative k (first_not (has_live es p word) 0 n k (omega arith) h)

  normal_tag : live_entry es p n word < n → eqb (copy_at es p (live_entry es p n word)).tag TENTATIVE ≡ false →
      (copy_at es p (live_entry es p n word)).tag ≡ NORMAL
  unfolding live_entry
  normal_tag h ne =
      let t = (copy_at es p (first_from (has_live es p word) 0 n)).tag in
      let tagged = both_left (either (eqb t NORMAL) (eqb t TENTATIVE)) _ (first_has (has_live es p word) 0 n (omega arith)) in
      eqb-true t NORMAL (only_left (eqb t NORMAL) (eqb t TENTATIVE) ne tagged)

  pub own_none : n ≤ live_entry es p n word → own_entry es p n word ≡ Nowhere
  unfolding own_entry
  own_none h =
      rw (none_live TENTATIVE never_tentative h, none_live NORMAL never_normal h, le-ltb n n (omega arith))

  module _ (i : ℕ) (low : i < n) (at : live_entry es p n word ≡ i) where
    pub own_tentative : (copy_at es p i).tag ≡ TENTATIVE → own_entry es p n word ≡ Tentative i
    unfolding own_entry
    own_tentative t = rw (first_tentative (omega (arith, at)) (rw at t), at, lt-ltb i n low)

    pub own_normal : eqb (copy_at es p i).tag TENTATIVE ≡ false → n ≤ find_entry es p n TENTATIVE word → own_entry es p n word ≡ Normal i
    unfolding own_entry
    own_normal ne none =
        rw (
          le-ltb (find_entry es p n TENTATIVE word) n none,
          first_live NORMAL never_normal (omega (arith, at)) (normal_tag (omega (arith, at)) (rw at ne)),
          at,
          lt-ltb i n low,
        )

  -- a tentative one behind a NORMAL one
  pub own_behind : find_entry es p n TENTATIVE word < n → own_entry es p n word ≡ Tentative (find_entry es p n TENTATIVE word)
  unfolding own_entry
  own_behind h = rw (lt-ltb (find_entry es p n TENTATIVE word) n h)
