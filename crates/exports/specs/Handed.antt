-- What each function for C leaves: the number that it answers, and what then stands in all that it was lent. An array that holds no machine is
-- no sound state: 9.
use Rattle.std.specs.Prelude.{List, [], ◌∷◌, ℕ, eqb}
use Rattle.laws.specs.Choice.{pick}
use Rattle.entry.specs.declared.answer.Answered.{Answered}
use Rattle.entry.specs.declared.step.Step.{Step}
use Rattle.entry.specs.Answer.{answer_number, answer_value, refusal_number}
use Rattle.entry.specs.Refusals.{accepted, not_sound, unless}
use Rattle.rules.specs.declared.Dims.{Dims}
use Rattle.rules.specs.State.{caches_of}
use Rattle.rules.specs.Making.{make_of}
use Rattle.rules.specs.SoundTest.{sound_of}
use Rattle.rules.specs.Step.{step_of, settle_of}
use Rattle.rules.specs.Run.{Steps, Columns, Ran, run_of}
use Rattle.exports.specs.Array.{machine_in, array_of, held_ok}

pub record Handed (A : Type 0) : Type 0 where
  pub refusal : ℕ
  pub stands : A

abbrev pub handed : {A : Type 0} → ℕ → A → Handed A
handed n x = record { refusal = n; stands = x }

-- "A refusal gives its number ..; state and columns stay.": the number n, and what was lent becomes new only where n refuses nothing
abbrev pub handed_by : {A : Type 0} → ℕ → A → A → Handed A
handed_by n old new = handed n (unless (eqb n accepted) old new)

-- "1 to 5 are given only when a machine is made": the array becomes the fresh machine's, whatever it held
unfoldable pub make_in : Dims → List ℕ → List ℕ → Handed (List ℕ)
make_in d initial s = let m = make_of d initial in handed_by m.refusal s (array_of m.machine)

-- "the state is not sound", or 0
unfoldable pub sound_in : List ℕ → ℕ
sound_in s =
    let m = machine_in s in
    unless (held_ok s) not_sound (unless (sound_of m.dims (caches_of m)) not_sound accepted)

-- the array, and what a step tells
pub record StepLent : Type 0 where
  pub state : List ℕ
  pub told : List ℕ

abbrev pub step_lent : List ℕ → List ℕ → StepLent
step_lent s t = record { state = s; told = t }

-- the answer's number and value, then the "six cycle counts"
abbrev pub told_by : Answered → List ℕ
told_by a =
    let c = a.counts in
    answer_number a.answer ∷
    answer_value a.answer ∷
    c.read ∷
    c.rfo ∷
    c.write ∷
    c.t_read ∷
    c.t_rfo ∷
    c.busy ∷
    []

-- one step from the machine that the array holds: the array becomes the next machine's
unfoldable pub step_in : List ℕ → Step → List ℕ → Handed StepLent
step_in s x t =
    let r = step_of (machine_in s) x in
    let n = refusal_number r.told.answer in
    unless (held_ok s) (handed not_sound (step_lent s t))
    (handed_by n (step_lent s t) (step_lent (array_of r.machine) (told_by r.told)))

-- how many steps were taken, the array, and the columns
pub record RunLent : Type 0 where
  pub taken : ℕ
  pub state : List ℕ
  pub columns : Columns

abbrev pub run_lent : ℕ → List ℕ → Columns → RunLent
run_lent n s c = record { taken = n; state = s; columns = c }

-- "earlier answers stand, as does the state they reached", refused or not; a run that took no step leaves the array as it was
abbrev pub ran_in : List ℕ → Ran → Columns → Handed RunLent
ran_in s r c = handed r.refusal (run_lent r.taken (pick (eqb r.taken 0) s (array_of r.machine)) c)

-- a run from the machine that the array holds
unfoldable pub run_in : List ℕ → Steps → Columns → Handed RunLent
run_in s x c =
    let r = run_of (machine_in s) x c in
    unless (held_ok s) (handed not_sound (run_lent 0 s c)) (ran_in s r.ran r.columns)

-- every word's "settled value"
unfoldable pub settle_in : List ℕ → List ℕ → Handed (List ℕ)
settle_in s v =
    let r = settle_of (machine_in s) in
    unless (held_ok s) (handed not_sound v) (handed_by r.refusal v r.values)
