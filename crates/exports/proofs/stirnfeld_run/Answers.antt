use native.Mathlib.Omega.{arith}
use mathlib.Core.Path.{sym, ap, ◌∙◌}
use Rattle.exports.specs.Handed.{run_in}
use Rattle.exports.proofs.Leaving.{ran_some, ran_none}
use Rattle.exports.proofs.stirnfeld_run.Goals as goal

pub returns-then-not-held_ok-clause-run : goal.returns-then-not-held_ok-clause-run
unfolding run_in
returns-then-not-held_ok-clause-run c = rw (← c.held_ok.ensures, c.if-not-held_ok.true, c.into.ensures)

pub read_caches-requires : goal.read_caches-requires
read_caches-requires c = sym c.held_ok.ensures ∙ c.if-not-held_ok.false

pub returns-then-count-ne0-clause-run : goal.returns-then-count-ne0-clause-run
returns-then-count-ne0-clause-run c =
    ran_some _ (sym c.held_ok.ensures ∙ c.if-not-held_ok.false) _ _ _ c.dims_of.ensures _ c.read_caches.ensures _ _ c.run_lent-ended.ensures.run
    _ (ap (λ p. p.0) c.in_numbers-count.ensures) _ (ap (λ p. p.1) c.in_numbers-count.ensures) (omega (arith, c.if-count-ne0.true)) _ c.put_caches.ensures

pub returns-else-count-ne0-clause-run : goal.returns-else-count-ne0-clause-run
returns-else-count-ne0-clause-run c =
    ran_none _ (sym c.held_ok.ensures ∙ c.if-not-held_ok.false) _ _ _ c.dims_of.ensures _ c.read_caches.ensures _ _ c.run_lent-ended.ensures.run
    _ (ap (λ p. p.0) c.in_numbers-count.ensures) _ (ap (λ p. p.1) c.in_numbers-count.ensures) c.if-count-ne0.false
