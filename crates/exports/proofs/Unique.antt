-- No second answer satisfies a contract of this crate, the final contents of all that is lent included. Each is stated on the contract's own
-- reading, `Post`. Assumes nothing.
use mathlib.Core.Path.{◌∙◌, sym}
use Rattle.laws.specs.OneAnswer.{OneAnswer}
use mathlib.Core.List.{List}
use base.Fml.{GName}
use Rattle.runs.specs.Lists.{lists}
use Rattle.runs.proofs.Unique.{slices, slices_same, pair}
use Rattle.exports.specs.Handed.{Handed, RunLent, handed, step_lent, run_lent}
use Rattle.exports.proofs.stirnfeld_make.Reads as make-reads
use Rattle.exports.proofs.stirnfeld_sound.Reads as sound-reads
use Rattle.exports.proofs.stirnfeld_step.Reads as step-reads
use Rattle.exports.proofs.stirnfeld_run.Reads as run-reads
use Rattle.exports.proofs.stirnfeld_settle.Reads as settle-reads

pub make_unique : OneAnswer make-reads.Post (λ κs r s. handed r s.1.1.1.1.1.0.now)
make_unique κs a r r' s s' p q = p ∙ sym q

pub sound_unique : OneAnswer sound-reads.Post (λ κs r s. r)
sound_unique κs a r r' s s' p q = p ∙ sym q

pub step_unique : OneAnswer step-reads.Post (λ κs r s. handed r (step_lent s.0.now s.1.1.1.1.1.0.now))
step_unique κs a r r' s s' p q = p ∙ sym q

pub run_unique : OneAnswer {X = Handed RunLent × List GName} run-reads.Post
    (λ κs r s. let c = s.1.1.0.now in (handed r (run_lent s.1.1.1.0.now s.0.now (lists c)), slices c))
run_unique κs a r r' s s' p q = pair (p.1 ∙ sym q.1) (slices_same _ _ p.0 ∙ sym (slices_same _ _ q.0))

pub settle_unique : OneAnswer settle-reads.Post (λ κs r s. handed r s.1.0.now)
settle_unique κs a r r' s s' p q = p ∙ sym q
