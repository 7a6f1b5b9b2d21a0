use Rattle.std.proofs.Common.{rules}
use Rattle.exports.proofs.OneStep.{refuses_step, tells_step}
use Rattle.exports.proofs.stirnfeld_step.Goals as goal

pub returns-then-refusal-ne-ACCEPTED : goal.returns-then-refusal-ne-ACCEPTED
returns-then-refusal-ne-ACCEPTED c =
    refuses_step _ _ _ _ _ _ _ c.stirnfeld_run-refusal.ensures.run c.if-refusal-ne-ACCEPTED.true

pub returns : goal.returns
returns c =
    rw c.into.ensures
    (tells_step _ _ _ _ _ _ _ c.stirnfeld_run-refusal.ensures.run c.if-refusal-ne-ACCEPTED.false _ (search rules))
