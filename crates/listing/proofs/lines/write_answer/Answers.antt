use Rattle.listing.proofs.Fitting.{answer_written}
use Rattle.listing.proofs.lines.write_answer.Goals as goal

pub returns-clause-value : goal.returns-clause-value
returns-clause-value c =
    answer_written _ _ _ _ _ _ _ _ _ _ _ _ c.requires c.put_number.ensures.value c.name_field.ensures c.put_bytes.ensures.value c.printed.ensures
    c.put_number-2.ensures.value c.put_bytes-2.ensures.value c.cycles.ensures c.put_number-3.ensures.value c.put_bytes-3.ensures.value
