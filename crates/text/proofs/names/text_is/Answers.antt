use Rattle.std.proofs.Common.{◌∙◌, length, rules, tests}
use Rattle.std.proofs.lemmas.Iterator.{YieldsList-from_slice, YieldsList-from_range, YieldsList-from_zip}
use Rattle.std.proofs.lemmas.Iterator.Search.{all_from_yields_List}
use Rattle.text.proofs.Parts.{reads, same_at, sized}
use Rattle.text.proofs.names.text_is.Goals as goal

pub returns-then-eq : goal.returns-then-eq
returns-then-eq c =
    let s = c.args.s.now in
    let name = c.args.name.now in
    let size = sized c.checked_sub.result c.args.from c.args.end (length name) c.checked_sub.ensures c.if-eq.ensures in
    all_from_yields_List (reads s) c.all.new.self _ _ c.all.ensures.ran
    (YieldsList-from_zip (YieldsList-from_range c.args.from c.args.end (length name) c.zip.ensures.first size.1) (YieldsList-from_slice name cc))
    (λ x b q k. search (rules, tests))
    ∙ same_at s name c.args.from c.args.end size.0 size.1
