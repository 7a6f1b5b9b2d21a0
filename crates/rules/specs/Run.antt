-- A run over lent columns: refusals 9 and 10, then "A run stops before the first refused step with its number: earlier answers stand, as does
-- the state they reached, later places keep their contents, and it tells how many steps were taken."
use Rattle.std.specs.Prelude.{Bool, not, List, [], ◌∷◌, ℕ, eqb, ltb, leb, length, get_or, set}
use Rattle.laws.specs.Choice.{pick, both}
use Rattle.laws.specs.Until.{until_range}
use Rattle.entry.specs.declared.answer.Answered.{Answered}
use Rattle.entry.specs.declared.step.Step.{Step}
use Rattle.entry.specs.Step.{step}
use Rattle.entry.specs.Answer.{answer_number, answer_value, refusal_number}
use Rattle.rules.specs.declared.Dims.{Dims}
use Rattle.rules.specs.declared.Machine.{Machine}
use Rattle.rules.specs.declared.Caches.{Caches}
use Rattle.rules.specs.State.{caches_of, machine_of, Outcome}
use Rattle.entry.specs.Refusals.{accepted, not_sound, bad_columns, unless}
use Rattle.rules.specs.SoundTest.{sound_of}
use Rattle.rules.specs.Step.{take_step}

-- the columns of steps
pub record Steps : Type 0 where
  pub ops : List ℕ
  pub cores : List ℕ
  pub words : List ℕ
  pub values : List ℕ

abbrev pub steps : List ℕ → List ℕ → List ℕ → List ℕ → Steps
steps a b c d = record { ops = a; cores = b; words = c; values = d }

-- the step at a place
abbrev pub step_at : Steps → ℕ → Step
step_at x i = step (get_or x.ops i 0) (get_or x.cores i 0) (get_or x.words i 0) (get_or x.values i 0)

-- the columns of answers: an answer's number, its value, and its six counts
pub record Columns : Type 0 where
  pub answers : List ℕ
  pub results : List ℕ
  pub read : List ℕ
  pub rfo : List ℕ
  pub write : List ℕ
  pub t_read : List ℕ
  pub t_rfo : List ℕ
  pub busy : List ℕ

abbrev pub columns : List ℕ → List ℕ → List ℕ → List ℕ → List ℕ → List ℕ → List ℕ → List ℕ → Columns
columns a b c d e f g h =
    record { answers = a; results = b; read = c; rfo = d; write = e; t_read = f; t_rfo = g; busy = h }

-- place i of every column of answers is written
abbrev pub written : Columns → ℕ → Answered → Columns
written c i a =
    columns
    (set c.answers i (answer_number a.answer))
    (set c.results i (answer_value a.answer))
    (set c.read i a.counts.read)
    (set c.rfo i a.counts.rfo)
    (set c.write i a.counts.write)
    (set c.t_read i a.counts.t_read)
    (set c.t_rfo i a.counts.t_rfo)
    (set c.busy i a.counts.busy)

-- "exceed 65,536"
abbrev pub most_steps : ℕ
most_steps = 65536

-- all of the numbers are n, and ok
abbrev pub all_are : ℕ → Bool → List ℕ → Bool
all_are n ok [] = ok
all_are n ok (x ∷ l) = all_are n (both ok (eqb x n)) l

-- 10: "lent columns of a run differ in length, or exceed 65,536"
unfoldable pub columns_ok : Steps → Columns → Bool
columns_ok x c =
    let n = length x.ops in
    all_are n (leb n most_steps)
    (length x.cores ∷
    length x.words ∷
    length x.values ∷
    length c.answers ∷
    length c.results ∷
    length c.read ∷
    length c.rfo ∷
    length c.write ∷
    length c.t_read ∷
    length c.t_rfo ∷
    length c.busy ∷
    [])

-- what a run carries from step to step
pub record Carried : Type 0 where
  pub state : Caches
  pub columns : Columns

abbrev pub carried : Caches → Columns → Carried
carried s c = record { state = s; columns = c }

-- a run's answer: how many steps were taken, the refusal that stopped it, or `accepted`, and the machine then
pub record Ran : Type 0 where
  pub taken : ℕ
  pub refusal : ℕ
  pub machine : Machine

-- all that a run leaves
pub record Left : Type 0 where
  pub ran : Ran
  pub columns : Columns

abbrev pub left : ℕ → ℕ → Machine → Columns → Left
left taken refusal m c = record { ran = record { taken = taken; refusal = refusal; machine = m }; columns = c }

module _ (d : Dims) (x : Steps) where
  abbrev pub outcome_at : ℕ → Caches → Outcome
  outcome_at i s = take_step d (step_at x i) s

  abbrev pub refusal_at : ℕ → Caches → ℕ
  refusal_at i s = refusal_number (outcome_at i s).told.answer

  -- "A run stops before the first refused step"
  abbrev pub stops_at : ℕ → Carried → Bool
  stops_at i c = not (eqb (refusal_at i c.state) accepted)

  -- a step taken: the next state, and its answer in the columns
  abbrev pub turn : ℕ → Carried → Carried
  turn i c = let r = outcome_at i c.state in carried r.after (written c.columns i r.told)

  -- from where the run stopped: the number taken, and the refusal of the step there
  abbrev pub stopped : ℕ → ℕ × Carried → Left
  stopped n (i, c) = left i (pick (ltb i n) (refusal_at i c.state) accepted) (machine_of d c.state) c.columns

  -- a run of columns of one length, from a sound state
  unfoldable pub run_sound : Caches → Columns → Left
  run_sound s c = stopped (length x.ops) (until_range stops_at turn 0 (length x.ops) (carried s c))

-- 9, then 10, then the run
unfoldable pub run_of : Machine → Steps → Columns → Left
run_of m x c =
    let r = run_sound m.dims x (caches_of m) c in
    unless (sound_of m.dims (caches_of m)) (left 0 not_sound m c) (unless (columns_ok x c) (left 0 bad_columns m c) r)
