use Rattle.std.proofs.Common.{◌∙◌, sym, ap, map, refl, rules, tests}
use Rattle.std.proofs.lemmas.Iterator.{YieldsList-from_slice}
use Rattle.std.proofs.lemmas.Iterator.Search.{position_from_yields_List}
use Rattle.std.specs.Slice.Iter.{iter_rest}
use Rattle.text.proofs.Parts.{is_it, step_named}
use Rattle.text.proofs.names.step_of.Goals as goal

pub returns-in_err-number : goal.returns-in_err-number
returns-in_err-number c =
    c.from_residual.ensures ∙ sym c.in_err-number.was
    ∙ position_from_yields_List (is_it c.args.op.now) _ _ _ c.position.ensures.ran
    (YieldsList-from_slice (iter_rest c.iter.result) refl) (λ x b q k. search (rules, tests))
    ∙ step_named (iter_rest c.iter.result) c.args.op.now (ap (map (λ x. x.now)) c.iter.ensures.rest)

pub returns : goal.returns
returns c =
    sym c.in_ok-number.was
    ∙ position_from_yields_List (is_it c.args.op.now) _ _ _ c.position.ensures.ran
    (YieldsList-from_slice (iter_rest c.iter.result) refl) (λ x b q k. search (rules, tests))
    ∙ step_named (iter_rest c.iter.result) c.args.op.now (ap (map (λ x. x.now)) c.iter.ensures.rest)
