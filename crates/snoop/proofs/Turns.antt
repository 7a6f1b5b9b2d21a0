-- What the goals of the loops over all processors cite.
use Rattle.laws.specs.Fold.{fold_end, fold_turn}
use Rattle.laws.specs.Search.{first_end, first_hit}

pub ruleset turns = (fold_end, fold_turn)

pub ruleset searched = (first_end, first_hit)
