-- THE THEOREM for document 01's steps: what a machine of n processors answers, from fresh, the plain machine answers.
use mathlib.Core.Path.{◌≡◌}
use mathlib.Core.List.{List, [], ◌++◌}
use Prim.Native.Nat.{ℕ}
use Rattle.theory.specs.View.{View}
use Rattle.theory.specs.Event.{Event}
use Rattle.theory.proofs.Moves.{Run, done, quietly, showing}
use Rattle.theory.specs.Plain.{Plain, Serial, Opaque, after_events, unlogged}
use Rattle.theory.proofs.Invariant.{Inv, serial}
use Rattle.theory.proofs.Settled.{Within, settled, Coherent, Bare, bare_inv, serializable}
use Rattle.theory.specs.Protocol.{Step}
use Rattle.theory.proofs.Refine.{step_run}

-- steps one after the other, and the events that they show
pub data History (n : ℕ) : View → List Event → View → Type 0 where
  nothing : {S : View} → History n S [] S
  then : {S S₁ S₂ : View} {es fs : List Event} → Step n S S₁ es → Within n S₁ → History n S₁ fs S₂ → History n S (es ++ fs) S₂

run_append : {S S₁ S₂ : View} {es fs : List Event} → Run S es S₁ → Run S₁ fs S₂ → Run S (es ++ fs) S₂
run_append done r = r
run_append (quietly s q) r = quietly s (run_append q r)
run_append (showing s q) r = showing s (run_append q r)

history_run : (n : ℕ) {S S' : View} {P : Plain} {es : List Event} → Inv S P → Within n S → History n S es S' → Run S es S'
history_run n I b nothing = done
history_run n I b (then s b' h) =
    let r = step_run n I.agree b s in
    run_append r (history_run n (serial I r).2 b' h)

last_within : (n : ℕ) {S S' : View} {es : List Event} → Within n S → History n S es S' → Within n S'
last_within n b nothing = b
last_within n b (then s b' h) = last_within n b' h

pub history_serial : (n : ℕ) {es : List Event} {S S' : View} → Bare S → History n S es S'
    → Serial es (unlogged S.memory) × Opaque es (unlogged S.memory)
    × ((w : ℕ) → settled n S' w ≡ (after_events es (unlogged S.memory)).val w) × Coherent n S'
history_serial n {S = S} z h = serializable n z (history_run n (bare_inv S z) (λ w p l. z w p) h) (last_within n (λ w p l. z w p) h)
