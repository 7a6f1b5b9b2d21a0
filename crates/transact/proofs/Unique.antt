-- No second answer satisfies a contract of this crate, the final contents of all that is lent included. Each is stated on the contract's own
-- reading, `Post`. Assumes nothing.
use Rattle.laws.specs.OneAnswer.{OneAnswer}
use mathlib.Core.Path.{◌∙◌, sym}
use Rattle.rules.specs.State.{outcome}
use Rattle.transact.proofs.transact.Reads as transact-reads

pub transact_unique : OneAnswer transact-reads.Post (λ κs r s. outcome r s.0.now)
transact_unique κs a r r' s s' p q = p ∙ sym q
