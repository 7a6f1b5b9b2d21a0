use Rattle.std.proofs.Common.{refl, ap}
use Rattle.listing.specs.declared.places.Place.{Place}
use Rattle.listing.proofs.Counting.{saturated, after_place}
use Rattle.listing.proofs.records.place_after.Goals as goal

pub returns : goal.returns
returns c =
    after_place _ _ _ _ _ _ _ _ _ _ c.phase_after.ensures (ap (λ (p : Place). p.refusal) c.x-2.view_is)
    (saturated _ _ _ _ _ (ap (λ (p : Place). p.number) c.x.view_is) refl c.saturating_add.ensures) c.last_after.ensures
    (saturated _ _ _ _ _ (ap (λ (p : Place). p.commits) c.x-2.view_is) c.successes.ensures c.saturating_add-2.ensures)
    (saturated _ _ _ _ _ (ap (λ (p : Place). p.cycles) c.x-2.view_is) c.cycles.ensures c.saturating_add-3.ensures)
