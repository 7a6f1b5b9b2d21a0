use Rattle.std.proofs.Common.{refl, ap}
use Rattle.listing.specs.declared.places.Place.{Place}
use Rattle.listing.proofs.Counting.{saturated}
use Rattle.listing.proofs.Doing.{record_did}
use Rattle.listing.proofs.pieces.do_record.Goals as goal

pub returns-clause-line : goal.returns-clause-line
returns-clause-line c =
    record_did _ _ _ _ c.requires _ _ _ _ _ _ _ _ _ c.look_at-l.ensures c.answer_of-told.ensures
    (saturated _ _ _ _ _ (ap (λ (p : Place). p.number) c.x.view_is) refl c.saturating_add.ensures)
    c.write_answer.ensures.value c.place_after.ensures
