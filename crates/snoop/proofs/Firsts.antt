-- What a processor's first NORMAL or tentative entry of a word says of whether it opposes a request. Assumes nothing.
use mathlib.Core.Path.{◌≡◌, refl}
use mathlib.Core.Logic.{◌≢◌}
use mathlib.Core.Bool.{Bool, true, false, not}
use mathlib.Core.List.{List}
use Prim.Native.Nat.{ℕ, ◌<◌}
use native.Mathlib.Omega.{arith}
use borrow.Author.Tests.{ne_eqb, lt-ltb, le-ltb}
use lib.Dec.{eqb}
use Rattle.std.specs.Prelude.{Some, None}
use Rattle.laws.specs.Choice.{pick, both, either}
use Rattle.entry.specs.Numbers.{TENTATIVE}
use Rattle.entry.specs.Entry.{reserved_or_dirty, takes}
use Rattle.caches.specs.Own.{below}
use Rattle.caches.proofs.Found.{some_below, none_below}
use Rattle.caches.proofs.Live.{none_tentative, first_tentative}
use Rattle.rules.specs.declared.Dims.{Dims}
use Rattle.rules.specs.State.{copy_at}
use Rattle.rules.specs.Own.{live_entry}
use Rattle.rules.specs.Snoop.{opposes, other_opposes}
use Rattle.snoop.specs.Firsts.{first_of, first_found}

-- the first entry of another than p
pub first_other : (n p word : ℕ) (es : List ℕ) (q : ℕ) → q ≢ p → first_found n p word es q ≡ below n (live_entry es q n word)
unfolding first_of
first_other n p word es q h = rw (ne_eqb q p h)

module _ (d : Dims) (p word cycle : ℕ) (es : List ℕ) (q : ℕ) where
  pub none_opposes : None ≡ first_found d.entries p word es q → other_opposes d p word cycle es q ≡ false
  unfolding first_of opposes
  none_opposes h = by (eqb q p) h
    where
      by : (b : Bool) → None ≡ below d.entries (pick b d.entries (live_entry es q d.entries word)) →
          both (not b) (opposes d word cycle q es) ≡ false
      by true e = refl
      by false e = rw (none_tentative es q d.entries word (none_below _ _ e), le-ltb d.entries d.entries (omega arith))

  module _ (i : ℕ) (at : Some i ≡ first_found d.entries p word es q) where
    some_first : (eqb q p ≡ false) × (i < d.entries) × (live_entry es q d.entries word ≡ i)
    unfolding first_of
    some_first = by (eqb q p) at
      where
        by : (b : Bool) → Some i ≡ below d.entries (pick b d.entries (live_entry es q d.entries word)) →
            (b ≡ false) × (i < d.entries) × (live_entry es q d.entries word ≡ i)
        by true e = let f = some_below d.entries d.entries i e in absurd (omega (arith, f.0))
        by false e = let f = some_below d.entries (live_entry es q d.entries word) i e in (refl, omega (arith, f.0, f.1), f.1)

    pub some_opposes : other_opposes d p word cycle es q ≡ opposes d word cycle q es
    some_opposes = rw some_first.0

    pub first_opposes : (copy_at es q i).tag ≡ TENTATIVE →
        other_opposes d p word cycle es q ≡ either (takes cycle) (reserved_or_dirty (copy_at es q i).state)
    unfolding opposes
    first_opposes t =
        let f = some_first in
        let l = first_tentative es q d.entries word (omega (arith, f.1, f.2)) (rw f.2 t) in
        rw (f.0, l, f.2, lt-ltb i d.entries f.1)
