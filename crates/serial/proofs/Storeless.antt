-- LT and LTX store nothing: their value is not used.
use mathlib.Core.Path.{◌≡◌, refl}
use Prim.Native.Nat.{ℕ}
use Rattle.entry.specs.Numbers.{LT, LTX}
use Rattle.rules.specs.declared.Dims.{Dims}
use Rattle.rules.specs.declared.Caches.{Caches}
use Rattle.rules.specs.Transact.{finish, hit, fill, request, miss_at, miss, seek, transact}

module _ (d : Dims) (p w v v' : ℕ) (s : Caches) where
  pub lt_unused : transact d LT p w v s ≡ transact d LT p w v' s
  unfolding transact seek hit miss miss_at request fill finish
  lt_unused = refl

  pub ltx_unused : transact d LTX p w v s ≡ transact d LTX p w v' s
  unfolding transact seek hit miss miss_at request fill finish
  ltx_unused = refl
