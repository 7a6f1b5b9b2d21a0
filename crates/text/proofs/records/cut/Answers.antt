use Rattle.std.proofs.Common.{◌≡◌, ◌∙◌, sym, ap, position, rules, tests}
use Rattle.std.proofs.lemmas.Iterator.{YieldsList-from_slice}
use Rattle.std.proofs.lemmas.Iterator.Search.{position_from_yields_List}
use Rattle.text.specs.Marks.{COMMA}
use Rattle.text.proofs.Fields.{is_mark, cut_by, cut_position}
use Rattle.text.proofs.records.cut.Goals as goal

pub returns-in_err-at : goal.returns-in_err-at
returns-in_err-at c =
    let t = c.args.text.now in
    let p : c.position.result ≡ position (is_mark COMMA) t =
    position_from_yields_List (is_mark COMMA) _ _ _ c.position.ensures.ran
    (YieldsList-from_slice t c.iter.ensures.rest) (λ x b q k. search (rules, tests)) in
    rw c.from_residual.ensures (ap (cut_by t) (sym c.in_err-at.was ∙ p) ∙ cut_position t)

pub returns : goal.returns
returns c =
    let t = c.args.text.now in
    let p : c.position.result ≡ position (is_mark COMMA) t =
    position_from_yields_List (is_mark COMMA) _ _ _ c.position.ensures.ran
    (YieldsList-from_slice t c.iter.ensures.rest) (λ x b q k. search (rules, tests)) in
    ap (cut_by t) (sym c.in_ok-at.was ∙ p) ∙ cut_position t
