-- No second answer satisfies a contract of this crate, the final contents of all that is lent included. Each is stated on the contract's own
-- reading, `Post`. Assumes nothing.
use mathlib.Core.Path.{◌≡◌, refl, ◌∙◌, sym, ap}
use mathlib.Core.Bool.{false}
use Rattle.std.specs.Prelude.{Result, Ok, Err, IfOk}
use Rattle.laws.specs.Choice.{pick}
use Rattle.laws.specs.OneAnswer.{OneAnswer}
use Rattle.entry.specs.declared.answer.Answered.{Answered}
use Rattle.entry.specs.declared.refusals.Refusal.{Refusal}
use Rattle.entry.specs.Answer.{told_as, is_refusal, refusal_number}
use Rattle.rules.specs.declared.Caches.{Caches}
use Rattle.rules.specs.State.{Outcome, outcome}
use Rattle.entry.proofs.Refused.{refusal_from, refusal_back}
use Rattle.steps.proofs.answer.Reads as answer-reads
use Rattle.steps.proofs.take_step.Reads as take-step-reads

-- an answer or a refusal, read off what is told
abbrev answer_of : Answered → Result Answered Refusal
answer_of a = pick (is_refusal a.answer) (Err (refusal_from (refusal_number a.answer))) (Ok a)

answer_back : (r : Result Answered Refusal) → IfOk r (λ a. is_refusal a.answer ≡ false) → answer_of (told_as r) ≡ r
answer_back (Ok a) h = rw h refl
answer_back (Err r) h = ap Err (refusal_back r).0

abbrev answered_in : Outcome → Result Answered Refusal × Caches
answered_in r = (answer_of r.told, r.after)

pub answer_unique : OneAnswer {X = Result Answered Refusal × Caches} answer-reads.Post (λ κs r s. (r, s.0.now))
answer_unique κs a r r' s s' p q =
    rw (← answer_back r p.1, ← answer_back r' q.1) (ap answered_in (p.0 ∙ sym q.0))

pub take_step_unique : OneAnswer take-step-reads.Post (λ κs r s. outcome r s.0.now)
take_step_unique κs a r r' s s' p q = p ∙ sym q
