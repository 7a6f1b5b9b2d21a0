-- No second answer satisfies a contract of this crate, the final contents of all that is lent included. Each is stated on the contract's own
-- reading, `Post`. Assumes nothing.
use Rattle.laws.specs.OneAnswer.{OneAnswer}
use mathlib.Core.Path.{◌≡◌, ◌∙◌, sym}
use mathlib.Core.Bool.{Bool}
use Rattle.laws.specs.Choice.{pick}
use Rattle.rules.specs.declared.Caches.{Caches}
use Rattle.snoop.proofs.request.Reads as request-reads
use Rattle.snoop.proofs.plain_request.Reads as plain-request-reads

picked : (b b' : Bool) (x y s t : Caches) → s ≡ pick b x y → t ≡ pick b' x y → b ≡ b' → s ≡ t
picked b b' x y s t p q e = p ∙ rw e (sym q)

pub request_unique : OneAnswer {X = Bool × Caches} request-reads.Post (λ κs r s. (r, s.0.now))
request_unique κs a r r' s s' p q =
    let e = p.0 ∙ sym q.0 in
    let t = picked r r' _ _ _ _ p.1 q.1 e in
    rw (e, t)

pub plain_request_unique : OneAnswer plain-request-reads.Post (λ κs r s. s.0.now)
plain_request_unique κs a r r' s s' p q = p ∙ sym q
