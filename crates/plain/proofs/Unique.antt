-- No second answer satisfies a contract of this crate, the final contents of all that is lent included. Each is stated on the contract's own
-- reading, `Post`. Assumes nothing.
use Rattle.laws.specs.OneAnswer.{OneAnswer}
use mathlib.Core.Path.{◌∙◌, sym}
use Rattle.rules.specs.State.{outcome}
use Rattle.plain.proofs.load.Reads as load-reads
use Rattle.plain.proofs.store.Reads as store-reads

pub load_unique : OneAnswer load-reads.Post (λ κs r s. outcome r s.0.now)
load_unique κs a r r' s s' p q = p ∙ sym q

pub store_unique : OneAnswer store-reads.Post (λ κs r s. outcome r s.0.now)
store_unique κs a r r' s s' p q = p ∙ sym q
