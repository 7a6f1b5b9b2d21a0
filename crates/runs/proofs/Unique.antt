-- No second answer satisfies a contract of this crate, the final contents of all that is lent included. Each is stated on the contract's own
-- reading, `Post`. Assumes nothing.
use mathlib.Core.Path.{◌≡◌, refl, ◌∙◌, sym, ap}
use mathlib.Core.List.{List, [], ◌∷◌}
use Prim.Native.Nat.{ℕ}
use lib.Dec.{eqb}
use base.Fml.{GName}
use Rattle.std.specs.Prelude.{Result, Ok, Err}
use Rattle.laws.specs.Choice.{pick}
use Rattle.laws.specs.OneAnswer.{OneAnswer}
use Rattle.entry.specs.declared.refusals.Refusal.{Refusal}
use Rattle.entry.specs.Refusals.{number_of, accepted}
use Rattle.rules.specs.declared.Dims.{Dims}
use Rattle.rules.specs.declared.Machine.{Machine}
use Rattle.rules.specs.State.{caches_of, machine_of}
use Rattle.rules.specs.Run.{Steps, Columns as Lists, Carried, carried, Left, left}
use Rattle.entry.proofs.Refused.{refusal_from, refusal_back}
use Rattle.runs.specs.declared.columns.Columns.{Columns}
use Rattle.runs.specs.declared.running.Halt.{Halt}
use Rattle.runs.specs.declared.Ran.{Ran}
use Rattle.runs.specs.Halting.{halted, left_by}
use Rattle.runs.specs.Lists.{step_lists, lists, SameSlices}
use Rattle.runs.proofs.run.Reads as run-reads
use Rattle.runs.proofs.run_lent.Reads as run-lent-reads

-- the slices that columns are made of
abbrev pub slices : Columns → List GName
slices c =
    c.answers.ghost_name ∷
    c.results.ghost_name ∷
    c.read.ghost_name ∷
    c.rfo.ghost_name ∷
    c.write.ghost_name ∷
    c.t_read.ghost_name ∷
    c.t_rfo.ghost_name ∷
    c.busy.ghost_name ∷
    []

pub slices_same : (c k : Columns) → SameSlices c k → slices c ≡ slices k
slices_same c k h = rw (h.answers, h.results, h.read, h.rfo, h.write, h.t_read, h.t_rfo, h.busy)

pub pair : {A B : Type 0} {a a' : A} {b b' : B} → a ≡ a' → b ≡ b' → ◌≡◌ {A = A × B} (a, b) (a', b')
pair e f = rw (e, f)

-- how a run ended, read off what it leaves
abbrev ended_in : Left → Result Unit Halt
ended_in l =
    let h : Halt = record { taken = l.ran.taken; refusal = refusal_from l.ran.refusal } in
    pick (eqb l.ran.refusal accepted) (Ok tt) (Err h)

ended_by : (t : ℕ) (m : Machine) (c : Lists) (r : Refusal) → ended_in (left t (number_of r) m c) ≡ Err (record { taken = t; refusal = r })
ended_by t m c r = rw ((refusal_back r).1, (refusal_back r).0) refl

-- and all that it was lent
abbrev halted_in : Left → Result Unit Halt × Carried
halted_in l = (ended_in l, carried (caches_of l.ran.machine) l.columns)

halted_back : (d : Dims) (x : Steps) (r : Result Unit Halt) (c : Carried) → halted_in (halted d x r c) ≡ (r, c)
halted_back d x (Ok u) c = refl
halted_back d x (Err h) c = pair (ended_by h.taken (machine_of d c.state) c.columns h.refusal) refl

abbrev ran_in : Left → Ran × Lists
ran_in l = (record { ended = ended_in l; machine = l.ran.machine }, l.columns)

ran_back : (x : Steps) (r : Ran) (c : Lists) → ran_in (left_by x r c) ≡ (r, c)
ran_back x r c = by r.ended
  where
    by : (e : Result Unit Halt)
        → ran_in (halted r.machine.dims x e (carried r.machine.caches c)) ≡ (record { ended = e; machine = r.machine }, c)
    by (Ok u) = refl
    by (Err h) = pair (rw (ended_by h.taken r.machine c h.refusal)) refl

pub run_lent_unique : OneAnswer {X = (Result Unit Halt × Carried) × List GName} run-lent-reads.Post
    (λ κs r s. let c = s.1.1.1.0.now in ((r, carried s.0.now (lists c)), slices c))
run_lent_unique κs a r r' s s' p q =
    let x = step_lists a.1.1.0.now in
    pair (sym (halted_back a.1.0 x r _) ∙ ap halted_in (p.1 ∙ sym q.1) ∙ halted_back a.1.0 x r' _)
    (slices_same _ _ p.0 ∙ sym (slices_same _ _ q.0))

pub run_unique : OneAnswer {X = (Ran × Lists) × List GName} run-reads.Post (λ κs r s. let c = s.1.1.0.now in ((r, lists c), slices c))
run_unique κs a r r' s s' p q =
    let x = step_lists a.1.0.now in
    pair (sym (ran_back x r _) ∙ ap ran_in (p.1 ∙ sym q.1) ∙ ran_back x r' _) (slices_same _ _ p.0 ∙ sym (slices_same _ _ q.0))
