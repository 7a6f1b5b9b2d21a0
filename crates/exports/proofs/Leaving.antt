-- What a run leaves on each of its ways, over plain variables.
use mathlib.Core.Path.{◌≡◌, refl, ap, ◌∙◌}
use mathlib.Core.Bool.{true}
use mathlib.Core.List.{List}
use Prim.Native.Nat.{ℕ}
use lib.Dec.{eqb}
use lib.ListN.{length}
use Rattle.std.specs.Prelude.{Result}
use Rattle.laws.specs.Choice.{pick}
use borrow.Author.Tests.{eq-eqb, ne_eqb}
use Rattle.rules.specs.declared.Dims.{Dims}
use Rattle.rules.specs.declared.Caches.{Caches}
use Rattle.rules.specs.State.{caches_of, machine_of}
use Rattle.rules.specs.Run.{Steps, Columns, Carried, Left, run_of}
use Rattle.runs.specs.declared.running.Halt.{Halt}
use Rattle.runs.specs.Halting.{halted, taken_of, ended_as}
use Rattle.exports.specs.Array.{dims_in, machine_in, with_parts, array_of, held_ok}
use Rattle.exports.specs.Handed.{handed, run_lent, ran_in, run_in}
use Rattle.exports.proofs.Back.{parts_back}

-- of an array that holds a machine: how the run of it ended, and what the run left
module _ (s : List ℕ) (held : held_ok s ≡ true) (x : Steps) (c0 : Columns) (d : Dims) (ed : d ≡ dims_in s)
    (k : Caches) (ek : k ≡ caches_of (machine_in s)) (h : Result Unit Halt) (r : Carried) (e : halted d x h r ≡ run_of (machine_of d k) x c0)
    (n : ℕ) (en : n ≡ taken_of (length x.ops) h) (j : ℕ) (ej : j ≡ ended_as h) where
  is : machine_of d k ≡ machine_in s
  unfolding machine_in
  is = rw (ed, ek) refl

  ran : handed j (run_lent n (pick (eqb n 0) s (array_of (machine_of d r.state))) r.columns) ≡ run_in s x c0
  unfolding run_in
  ran = rw (en, ej, held, ← is) (ap (λ (l : Left). ran_in s l.ran l.columns) e)

  pub ran_some : (n ≡ 0 → ⊥) → (s' : List ℕ) → s' ≡ with_parts s r.state
      → handed j (run_lent n s' r.columns) ≡ run_in s x c0
  ran_some h s' es = rw (es ∙ parts_back s held r.state, ← ed) (rw (ne_eqb n 0 h) at ran)

  pub ran_none : n ≡ 0 → handed j (run_lent n s r.columns) ≡ run_in s x c0
  ran_none h = rw (eq-eqb n 0 h) at ran
