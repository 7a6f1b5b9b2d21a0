-- "An unused field is ignored": where a step uses no value, or no word, another one gives the same answer, counts and state.
use mathlib.Core.Path.{◌≡◌, refl}
use mathlib.Core.Bool.{Bool, true, false, true≢false}
use Prim.Native.Nat.{ℕ}
use lib.Dec.{eqb}
use Rattle.laws.specs.Choice.{pick, either}
use Rattle.entry.specs.Numbers.{LOAD, STORE, LT, LTX, ST}
use Rattle.entry.specs.Step.{step, uses_word, uses_value}
use Rattle.rules.specs.declared.Dims.{Dims}
use Rattle.rules.specs.declared.Machine.{Machine}
use Rattle.rules.specs.declared.Caches.{Caches}
use Rattle.rules.specs.State.{caches_of, Outcome}
use Rattle.rules.specs.Step.{operands_refusal, narrowed, take_step, step_of}
use Rattle.serial.proofs.Storeless.{lt_unused, ltx_unused}

module _ (d : Dims) (op p : ℕ) where
  operands_unused : uses_word op ≡ false → (w w' v : ℕ) → operands_refusal d (step op p w v) ≡ operands_refusal d (step op p w' v)
  unfolding operands_refusal
  operands_unused e w w' v = rw e

  module _ (s : Caches) where
    pub unused_value : uses_value op ≡ false → (w v v' : ℕ) → take_step d (step op p w v) s ≡ take_step d (step op p w v') s
    unfolding take_step operands_refusal
    unused_value e w v v' =
        rw (lt_unused d p (narrowed w) v v' s, ltx_unused d p (narrowed w) v v' s)
        (by (eqb op LOAD) (eqb op STORE) (eqb op LT) (eqb op LTX) (eqb op ST) e _ _ _ _ _ _ _ _)
      where
        by : (a b c f g : Bool) → either b (either g false) ≡ false → (A B B' C F G G' R : Outcome)
            → pick a A (pick b B (pick c C (pick f F (pick g G R)))) ≡ pick a A (pick b B' (pick c C (pick f F (pick g G' R))))
        by a true c f g e A B B' C F G G' R = absurd (true≢false e)
        by a false c f true e A B B' C F G G' R = absurd (true≢false e)
        by a false c f false e A B B' C F G G' R = refl

    pub unused_word : uses_word op ≡ false → (w w' v : ℕ) → take_step d (step op p w v) s ≡ take_step d (step op p w' v) s
    unfolding take_step
    unused_word e w w' v =
        rw (operands_unused e w w' v) (by (eqb op LOAD) (eqb op STORE) (eqb op LT) (eqb op LTX) (eqb op ST) e _ _ _ _ _ _ _ _ _ _ _)
      where
        by : (a b c f g : Bool) → either a (either b (either c (either f (either g false)))) ≡ false → (A A' B B' C C' F F' G G' R : Outcome)
            → pick a A (pick b B (pick c C (pick f F (pick g G R)))) ≡ pick a A' (pick b B' (pick c C' (pick f F' (pick g G' R))))
        by true b c f g e A A' B B' C C' F F' G G' R = absurd (true≢false e)
        by false true c f g e A A' B B' C C' F F' G G' R = absurd (true≢false e)
        by false false true f g e A A' B B' C C' F F' G G' R = absurd (true≢false e)
        by false false false true g e A A' B B' C C' F F' G G' R = absurd (true≢false e)
        by false false false false true e A A' B B' C C' F F' G G' R = absurd (true≢false e)
        by false false false false false e A A' B B' C C' F F' G G' R = refl

-- the machine's step too
module _ (m : Machine) (op p : ℕ) where
  pub machine_unused_value : uses_value op ≡ false → (w v v' : ℕ) → step_of m (step op p w v) ≡ step_of m (step op p w v')
  unfolding step_of
  machine_unused_value e w v v' = rw (unused_value m.dims op p (caches_of m) e w v v')

  pub machine_unused_word : uses_word op ≡ false → (w w' v : ℕ) → step_of m (step op p w v) ≡ step_of m (step op p w' v)
  unfolding step_of
  machine_unused_word e w w' v = rw (unused_word m.dims op p (caches_of m) e w w' v)
