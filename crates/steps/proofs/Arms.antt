-- The arm of the match that a step's number chooses, the step itself left as it stands.
use mathlib.Core.Path.{◌≡◌, ap}
use Prim.Native.Nat.{ℕ}
use lib.Dec.{eqb}
use Rattle.laws.specs.Choice.{pick}
use Rattle.entry.specs.declared.step.Step.{Step}
use Rattle.entry.specs.Numbers.{LOAD, STORE, LT, LTX, ST, COMMIT, ABORT, VALIDATE, INTERRUPT}
use Rattle.entry.specs.Refusals.{no_such_step}
use Rattle.rules.specs.declared.Dims.{Dims}
use Rattle.rules.specs.declared.Caches.{Caches}
use Rattle.rules.specs.State.{Outcome}
use Rattle.rules.specs.Load.{load}
use Rattle.rules.specs.Store.{store}
use Rattle.rules.specs.Transact.{transact}
use Rattle.rules.specs.Ends.{commit, abort, validate, interrupt}
use Rattle.rules.specs.Step.{refused, allowed, narrowed, take_step}

module _ (d : Dims) (x : Step) (s : Caches) where
  abbrev arms : ℕ → Outcome
  arms n =
      let p = x.core in
      let w = narrowed x.word in
      let v = x.value in
      pick (eqb n LOAD) (allowed d x s (load d p w s))
      (pick (eqb n STORE) (allowed d x s (store d p w v s))
      (pick (eqb n LT) (allowed d x s (transact d LT p w v s))
      (pick (eqb n LTX) (allowed d x s (transact d LTX p w v s))
      (pick (eqb n ST) (allowed d x s (transact d ST p w v s))
      (pick (eqb n COMMIT) (allowed d x s (commit d p s))
      (pick (eqb n ABORT) (allowed d x s (abort d p s))
      (pick (eqb n VALIDATE) (allowed d x s (validate p s))
      (pick (eqb n INTERRUPT) (allowed d x s (interrupt d p s)) (refused no_such_step s)))))))))

  pub chosen : (n : ℕ) → x.op ≡ n → take_step d x s ≡ arms n
  unfolding take_step
  chosen n e = ap arms e
