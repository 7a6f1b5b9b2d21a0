-- Steps that a machine took, none refused, and all the events that they show.
use Rattle.std.specs.Prelude.{◌≡◌, List, [], ◌∷◌, ◌++◌, ℕ, ◌<◌, get_or}
use Rattle.entry.specs.declared.answer.Answer.{Answer}
use Rattle.entry.specs.declared.step.Step.{Step}
use Rattle.entry.specs.Answer.{refusal_number}
use Rattle.entry.specs.Refusals.{accepted}
use Rattle.rules.specs.declared.Dims.{Dims}
use Rattle.rules.specs.declared.Machine.{Machine}
use Rattle.rules.specs.declared.Caches.{Caches}
use Rattle.rules.specs.Sound.{Sound}
use Rattle.rules.specs.Step.{step_of}
use Rattle.theory.specs.Event.{Event}
use Rattle.theory.specs.Plain.{Plain, unlogged}
use Rattle.serial.specs.Shown.{shows}

-- "each an unsigned 32-bit value": what the types of the code say of a memory, and of a step's value
abbrev pub value_end : ℕ
value_end = 4294967296

abbrev pub Values : List ℕ → Type 0
Values l = (i : ℕ) → get_or l i 0 < value_end

-- a sound state whose memory holds 32-bit values
pub record SoundState (d : Dims) (s : Caches) : Type 0 where
  pub sound : Sound d s
  pub values : Values s.memory

-- the plain machine with the memory that the caller gave
abbrev pub start : List ℕ → Plain
start memory = unlogged (λ w. get_or memory w 0)

-- a step, and what it answered
pub record StepAnswer : Type 0 where
  pub step : Step
  pub answer : Answer

abbrev pub step_answer : Step → Answer → StepAnswer
step_answer x a = record { step = x; answer = a }

abbrev pub answer_to : Machine → Step → Answer
answer_to m x = (step_of m x).told.answer

-- the machine of demand 2 took these steps one after the other, and refused none
pub data Took : Machine → List StepAnswer → Machine → Type 0 where
  nothing : {m : Machine} → Took m [] m
  then : {m m' : Machine} {xs : List StepAnswer} (x : Step) → x.value < value_end → refusal_number (answer_to m x) ≡ accepted
      → Took (step_of m x).machine xs m' → Took m (step_answer x (answer_to m x) ∷ xs) m'

unfoldable pub events : List StepAnswer → List Event
events [] = []
events (x ∷ xs) = shows x.step x.answer ++ events xs
