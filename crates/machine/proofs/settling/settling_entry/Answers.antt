use Rattle.std.proofs.Common.{◌≡◌, true, false, rules, arith}
use Rattle.std.proofs.lemmas.Iterator.{first_from_Range}
use Rattle.rules.specs.Settled.{has_settling, settling_entry}
use Rattle.caches.proofs.Found.{found}
use Rattle.machine.proofs.settling.settling_entry.Goals as goal

pub returns : goal.returns
unfolding settling_entry
returns c =
    let x = c.args in
    let p = has_settling x.c.now.entries x.q x.word in
    found p 0 x.d.entries _ (λ k a b. absurd (omega arith))
    (first_from_Range _ _ _ _ (λ i. p i ≡ true) (λ i. p i ≡ false) c.find.ensures.ran (λ i q k. search rules) (λ i q k. search rules))
