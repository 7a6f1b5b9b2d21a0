-- What refusals that pass say of the dimensions.
use mathlib.Core.Path.{◌≡◌}
use mathlib.Core.Bool.{true}
use mathlib.Core.List.{List}
use Prim.Native.Nat.{ℕ, ◌≤◌}
use native.Mathlib.Omega.{arith}
use lib.ListN.{length}
use Rattle.std.proofs.lemmas.Bool.Decides.{nat_tests}
use Rattle.rules.specs.declared.Dims.{Dims}
use Rattle.rules.specs.declared.Caches.{Caches}
use Rattle.rules.specs.Making.{dims_refusal, make_refusal}
use Rattle.entry.specs.Refusals.{accepted}
use Rattle.rules.specs.SoundTest.{sound_of}

-- what dimensions that are accepted say
pub record Fit (d : Dims) : Type 0 where
  pub processors : d.processors ≤ 8
  pub words : d.words ≤ 256

pub dims_fit : (d : Dims) → dims_refusal d ≡ accepted → Fit d
unfolding dims_refusal
dims_fit d h = record { processors = grind (arith, nat_tests); words = grind (arith, nat_tests) }

-- and a state that is sound has such
pub sound_fit : (d : Dims) (s : Caches) → sound_of d s ≡ true → Fit d
unfolding sound_of
sound_fit d s h = dims_fit d (grind (arith, nat_tests))

-- what a making that is not refused says
pub make_fit : (d : Dims) (memory : List ℕ) → make_refusal d memory ≡ accepted → (length memory ≤ 256) × (d.processors ≤ 8)
unfolding make_refusal
make_fit d memory h = let f : dims_refusal d ≡ accepted = grind (arith, nat_tests) in let t = dims_fit d f in (grind (arith, nat_tests), t.processors)
