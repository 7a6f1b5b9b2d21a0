-- No second answer satisfies a contract of this crate, the final contents of all that is lent included. Each is stated on the contract's own
-- reading, `Post`. Assumes nothing.
use Rattle.laws.specs.OneAnswer.{OneAnswer}
use mathlib.Core.Path.{◌∙◌, sym}
use Rattle.entry.proofs.Refused.{refused_once}
use Rattle.sound.proofs.dims.dims_refusal.Reads as dims-refusal-reads
use Rattle.sound.proofs.sound.Reads as sound-reads

pub dims_refusal_unique : OneAnswer dims-refusal-reads.Post (λ κs r s. r)
dims_refusal_unique κs a r r' s s' p q = refused_once r r' (p ∙ sym q)

pub sound_unique : OneAnswer sound-reads.Post (λ κs r s. r)
sound_unique κs a r r' s s' p q = p ∙ sym q
