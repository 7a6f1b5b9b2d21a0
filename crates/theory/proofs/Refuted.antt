-- What three wrong machines would answer does not replay: the memory holds 11 everywhere.
use mathlib.Core.Path.{◌≡◌}
use mathlib.Core.List.{[], ◌∷◌}
use Prim.Native.Nat.{ℕ}
use native.Mathlib.Decide.{ℕ_discrete}
use native.Mathlib.Omega.{arith}
use Rattle.theory.specs.Event.{load, store, tread, twrite, commit, drop}
use Rattle.theory.specs.Log.{pick_dec, put, replay}
use Rattle.theory.specs.Plain.{Plain, Serial, unlogged}

abbrev pub elevens : Plain
elevens = unlogged (λ w. 11)

-- case G: processor 0's rollback lost the DIRTY backup, and processor 1 is answered the old value
pub lost_backup : Serial (twrite 0 1 5 ∷ commit 0 ∷ twrite 0 1 6 ∷ drop 0 ∷ tread 1 1 11 ∷ commit 1 ∷ []) elevens → ⊥
unfolding replay put pick_dec ℕ_discrete
lost_backup h = let e : ◌≡◌ {A = ℕ} 5 11 = h.1.1.1.1.1.0.0 in omega arith

-- case J: processor 1's copy did not see the WRITE, and its stale read commits
pub write_unseen : Serial (load 0 1 11 ∷ tread 1 1 11 ∷ store 0 1 8 ∷ commit 1 ∷ []) elevens → ⊥
unfolding replay put pick_dec ℕ_discrete
write_unseen h = let e : ◌≡◌ {A = ℕ} 8 11 = h.1.1.1.0.0 in omega arith

-- case H, then ABORT: the DIRTY NORMAL entry had neither a backup nor a write back
pub no_backup : Serial (twrite 0 1 5 ∷ commit 0 ∷ tread 0 1 5 ∷ drop 0 ∷ load 1 1 11 ∷ []) elevens → ⊥
unfolding replay put pick_dec ℕ_discrete
no_backup h = let e : ◌≡◌ {A = ℕ} 5 11 = h.1.1.1.1.0 in omega arith
