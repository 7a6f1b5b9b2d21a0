use Rattle.std.proofs.Common.{◌≡◌, ◌∙◌, true, false, rules, tests}
use Rattle.std.proofs.lemmas.Iterator.{first_from_Range}
use Rattle.text.specs.Records.{ends_at}
use Rattle.text.proofs.Ends.{end_found, crlf_at}
use Rattle.text.proofs.records.record_end.Goals as goal

pub returns : goal.returns
returns c =
    let s = c.args.s.now in
    c.unwrap_or.ensures ∙ rw c.max.ensures (end_found s c.args.from c.find.result
    (first_from_Range _ _ _ c.find.result (λ i. ends_at s i ≡ true) (λ i. ends_at s i ≡ false) c.find.ensures.ran
    (λ x q k. search (rules, tests, crlf_at)) (λ x q k. search (rules, tests, crlf_at))))
