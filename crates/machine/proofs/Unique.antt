-- No second answer satisfies a contract of this crate. Each is stated on the contract's own
-- reading, `Post`. Assumes nothing.
use Rattle.laws.specs.OneAnswer.{OneAnswer}
use mathlib.Core.Path.{◌∙◌, sym}
use Rattle.machine.proofs.Answering.{made_once, settled_once}
use Rattle.machine.proofs.make.Reads as make-reads
use Rattle.machine.proofs.smallest.Reads as smallest-reads
use Rattle.machine.proofs.sound.Reads as sound-reads
use Rattle.machine.proofs.settle.Reads as settle-reads
use Rattle.machine.proofs.settled.Reads as settled-reads
use Rattle.machine.proofs.step.Reads as step-reads

pub make_unique : OneAnswer make-reads.Post (λ κs r s. r)
make_unique κs a r r' s s' p q = made_once r r' (p ∙ sym q)

pub smallest_unique : OneAnswer smallest-reads.Post (λ κs r s. r)
smallest_unique κs a r r' s s' p q = p ∙ sym q

pub sound_unique : OneAnswer sound-reads.Post (λ κs r s. r)
sound_unique κs a r r' s s' p q = p ∙ sym q

pub settled_unique : OneAnswer settled-reads.Post (λ κs r s. r)
settled_unique κs a r r' s s' p q = p ∙ sym q

pub step_unique : OneAnswer step-reads.Post (λ κs r s. r)
step_unique κs a r r' s s' p q = p ∙ sym q

pub settle_unique : OneAnswer settle-reads.Post (λ k r s. r)
settle_unique κs a r r' s s' p q = settled_once r r' (p ∙ sym q)
