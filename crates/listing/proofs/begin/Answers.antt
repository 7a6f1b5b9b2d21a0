use Rattle.std.proofs.Common.{arith, rules}
use Rattle.listing.proofs.Beginning.{begun_zero, begun_refused}
use Rattle.listing.proofs.begin.Goals as goal

pub returns-in-Ok : goal.returns-in-Ok
returns-in-Ok c =
    begun_zero _ _ _ _ _ (omega (arith, c.min-n.ensures)) (λ h. omega (arith, c.min-n.ensures, h)) c.in-Ok.ensures c.begin_at.ensures

pub returns-in-Err : goal.returns-in-Err
returns-in-Err c =
    begun_refused _ _ _ _ _ (omega (arith, c.min-n.ensures)) (λ h. omega (arith, c.min-n.ensures, h)) c.in-Err.ensures (search rules)
