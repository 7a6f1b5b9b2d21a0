use Rattle.listing.proofs.Fitting.{end_written}
use Rattle.listing.proofs.lines.write_end.Goals as goal

pub returns-clause-value : goal.returns-clause-value
returns-clause-value c =
    end_written _ _ _ _ _ _ _ _ c.requires c.put_bytes.ensures.value c.put_number.ensures.value c.put_bytes-2.ensures.value
    c.put_number-2.ensures.value c.put_bytes-3.ensures.value
