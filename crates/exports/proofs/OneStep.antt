-- A run of one step is that step: on a machine, and on an array that holds one.
use mathlib.Core.Path.{◌≡◌, refl, sym, ◌∙◌, ap}
use mathlib.Core.Bool.{Bool, true, false, not}
use mathlib.Core.List.{List, [], ◌∷◌}
use Prim.Native.Nat.{ℕ}
use lib.Dec.{eqb}
use lib.ListN.{get_or}
use borrow.Author.Tests.{eq-eqb, ne_eqb, eqb-true, eqb-false}
use Rattle.laws.specs.Choice.{pick}
use Rattle.laws.specs.Until.{until_range}
use Rattle.entry.specs.declared.step.Step.{Step}
use Rattle.entry.specs.Refusals.{accepted, not_sound, unless}
use Rattle.entry.specs.Answer.{refusal_number, refused_by}
use Rattle.rules.specs.declared.Machine.{Machine}
use Rattle.rules.specs.declared.Stepped.{Stepped}
use Rattle.rules.specs.State.{caches_of}
use Rattle.rules.specs.SoundTest.{sound_of}
use Rattle.rules.specs.Step.{take_step, stepped, stepped_of, step_of}
use Rattle.rules.specs.Run.{Steps, steps, Columns, columns, written, Left, left, columns_ok, carried, turn, stopped, run_sound, run_of}
use Rattle.rules.proofs.Refusing.{refusal_of, refused_stays}
use Rattle.exports.specs.Array.{machine_in, array_of, held_ok}
use Rattle.exports.specs.Handed.{Handed, handed, handed_by, StepLent, step_lent, told_by, step_in, RunLent, run_lent, ran_in, run_in}

abbrev pub alone : Step → Steps
alone x = steps (x.op ∷ []) (x.core ∷ []) (x.word ∷ []) (x.value ∷ [])

-- columns of one place that nothing was written to
abbrev pub unwritten : Columns
unwritten = columns (0 ∷ []) (0 ∷ []) (0 ∷ []) (0 ∷ []) (0 ∷ []) (0 ∷ []) (0 ∷ []) (0 ∷ [])

-- the first place of each column
abbrev pub firsts : Columns → List ℕ
firsts c =
    get_or c.answers 0 0 ∷
    get_or c.results 0 0 ∷
    get_or c.read 0 0 ∷
    get_or c.rfo 0 0 ∷
    get_or c.write 0 0 ∷
    get_or c.t_read 0 0 ∷
    get_or c.t_rfo 0 0 ∷
    get_or c.busy 0 0 ∷
    []

-- what a run leaves that took the step, or was stopped by its refusal
abbrev left_if : Bool → Stepped → Left
left_if took r =
    pick took (left 1 accepted r.machine (written unwritten 0 r.told)) (left 0 (refusal_number r.told.answer) r.machine unwritten)

abbrev left_of : Stepped → Left
left_of r = left_if (eqb (refusal_number r.told.answer) accepted) r

module _ (m : Machine) (x : Step) where
  taken : run_sound m.dims (alone x) (caches_of m) unwritten ≡ left_of (stepped_of m.dims (take_step m.dims x (caches_of m)))
  unfolding run_sound until_range
  taken = by (eqb n accepted) refl
    where
      n : ℕ
      n = refusal_of (take_step m.dims x (caches_of m))

      by : (b : Bool) → eqb n accepted ≡ b
          → stopped m.dims (alone x) 1
          (pick (not b) (0, carried (caches_of m) unwritten) (1, turn m.dims (alone x) 0 (carried (caches_of m) unwritten)))
          ≡ left_if b (stepped_of m.dims (take_step m.dims x (caches_of m)))
      by true h = refl
      by false h = rw (refused_stays m.dims x (caches_of m) (eqb-false n accepted h))

  run_one : run_of m (alone x) unwritten ≡ left_of (step_of m x)
  unfolding run_of step_of columns_ok
  run_one = by (sound_of m.dims (caches_of m))
    where
      by : (b : Bool)
          → pick b (run_sound m.dims (alone x) (caches_of m) unwritten) (left 0 not_sound m unwritten)
          ≡ left_of (pick b (stepped_of m.dims (take_step m.dims x (caches_of m))) (stepped (refused_by not_sound) m))
      by true = taken
      by false = refl

-- what stirnfeld_step makes of what the run leaves: what it tells becomes the columns' places, where nothing is refused
abbrev as_step : List ℕ → Handed RunLent → Handed StepLent
as_step t h = handed h.refusal (step_lent h.stands.state (unless (eqb h.refusal accepted) t (firsts h.stands.columns)))

module _ (s t : List ℕ) (x : Step) where
  abbrev r : Stepped
  r = step_of (machine_in s) x

  abbrev n : ℕ
  n = refusal_number r.told.answer

  one_taken : as_step t (ran_in s (left_of r).ran (left_of r).columns)
      ≡ handed_by n (step_lent s t) (step_lent (array_of r.machine) (told_by r.told))
  one_taken = by (eqb n accepted) refl
    where
      by : (b : Bool) → eqb n accepted ≡ b → as_step t (ran_in s (left_if b r).ran (left_if b r).columns)
          ≡ handed n (unless b (step_lent s t) (step_lent (array_of r.machine) (told_by r.told)))
      by true h = rw (eqb-true n accepted h)
      by false h = rw h

  one_step : as_step t (run_in s (alone x) unwritten) ≡ step_in s x t
  unfolding run_in step_in
  one_step = by (held_ok s)
    where
      by : (b : Bool) → as_step t (unless b (handed not_sound (run_lent 0 s unwritten))
          (ran_in s (run_of (machine_in s) (alone x) unwritten).ran (run_of (machine_in s) (alone x) unwritten).columns))
          ≡ unless b (handed not_sound (step_lent s t)) (handed_by n (step_lent s t) (step_lent (array_of r.machine) (told_by r.told)))
      by true = rw (run_one (machine_in s) x) one_taken
      by false = refl

  -- so of a run that left this
  module _ (k j : ℕ) (s' : List ℕ) (c : Columns) (e : handed k (run_lent j s' c) ≡ run_in s (alone x) unwritten) where
    as_step_lem : as_step t (handed k (run_lent j s' c)) ≡ step_in s x t
    as_step_lem = ap (as_step t) e ∙ one_step

    pub refuses_step : (k ≡ accepted → ⊥) → handed k (step_lent s' t) ≡ step_in s x t
    refuses_step h = rw (ne_eqb k accepted h) at as_step_lem

    pub tells_step : k ≡ accepted → (u : List ℕ) → u ≡ firsts c → handed accepted (step_lent s' u) ≡ step_in s x t
    tells_step h u eu = rw eu (ap (λ (z : ℕ). handed z (step_lent s' (firsts c))) (sym h) ∙ (rw (eq-eqb k accepted h) at as_step_lem))
