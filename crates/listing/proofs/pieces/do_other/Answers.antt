use Rattle.std.proofs.Common.{rules}
use Rattle.listing.proofs.Doing.{header_did, refusal_did, end_did}
use Rattle.listing.proofs.pieces.do_other.Goals as goal

pub returns-in-Header-clause-line : goal.returns-in-Header-clause-line
returns-in-Header-clause-line c =
    header_did _ _ _ _ c.requires _ _ _ _ (search rules) c.write_header.ensures.value c.first_phase.ensures c.with_phase.ensures _

pub returns-in-Refusal-clause-line : goal.returns-in-Refusal-clause-line
returns-in-Refusal-clause-line c =
    refusal_did _ _ _ _ c.requires _ _ _ _ (search rules) (search rules) (search rules) c.write_answer.ensures.value (search rules) _

pub returns-in_default-clause-line : goal.returns-in_default-clause-line
returns-in_default-clause-line c =
    end_did _ c.args.x _ _ c.requires _ _ _ _ _ (search rules) (search rules) (search rules) (search rules) c.write_end.ensures.value
    (search rules) _
