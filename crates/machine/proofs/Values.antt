-- The settled value of a word as its loop finds it, over plain variables.
use mathlib.Core.Path.{◌≡◌, refl, ◌∙◌}
use mathlib.Core.Bool.{Bool, true, false}
use Prim.Native.Nat.{ℕ, ◌<◌, ◌≤◌}
use native.Mathlib.Omega.{arith}
use borrow.Author.Tests.{lt-ltb, le-ltb}
use Rattle.std.proofs.Common.{Some, None}
use Rattle.laws.specs.Choice.{pick}
use Rattle.laws.specs.Search.{first_from, none_of}
use Rattle.caches.proofs.Found.{first_at}
use Rattle.rules.specs.declared.Caches.{Caches}
use Rattle.rules.specs.declared.Dims.{Dims}
use Rattle.rules.specs.State.{word_at}
use Rattle.rules.specs.Own.{home}
use Rattle.rules.specs.Settled.{settles, settler, settled_in}
use Rattle.machine.specs.Settling.{settling_value}

-- what an option by a test says
some_picked : {X : Type 0} (b : Bool) (v x : X) → Some x ≡ pick b (Some v) None → (b ≡ true) × (x ≡ v)
some_picked true v x e = (refl, cc)
some_picked false v x e = absurd (cc)

module _ (d : Dims) (word : ℕ) (s : Caches) (i : ℕ) (at : i ≡ home d word) where
  abbrev pub NoneBefore : ℕ → Type 0
  NoneBefore q = (k : ℕ) → k < q → settles d i word s.lines s.entries k ≡ false

  pub settles_at : (q v : ℕ) → q < d.processors → NoneBefore q → Some v ≡ settling_value d i word s q → v ≡ settled_in d word s
  unfolding settled_in settler
  settles_at q v l h e =
      let p = some_picked (settles d i word s.lines s.entries q) _ v e in
      rw (← at, first_at (settles d i word s.lines s.entries) q d.processors l p.0 (λ k a b. h k b), lt-ltb q d.processors l) p.1

  pub settles_nowhere : (q v : ℕ) → d.processors ≤ q → NoneBefore q → v ≡ word_at s word → v ≡ settled_in d word s
  unfolding settled_in settler
  settles_nowhere q v l h e =
      let n = d.processors in
      let p = settles d i word s.lines s.entries in
      let none : first_from p 0 n ≡ n = none_of p 0 n (λ k a b. h k (omega arith)) ∙ omega arith in
      rw (← at, none, le-ltb n n (omega arith)) e
