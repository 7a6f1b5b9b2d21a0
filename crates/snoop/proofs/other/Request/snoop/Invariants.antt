use Rattle.std.proofs.Common.{◌≡◌, ◌-◌}
use Rattle.laws.specs.Fold.{fold_range}
use Rattle.entry.specs.Kinds.{cycle_number}
use Rattle.rules.specs.Snoop.{snoop_one, snoop}
use Rattle.snoop.proofs.Apart.{IsLeft}
use Rattle.snoop.proofs.other.Request.snoop.Given as goal

abbrev pub invariant-loop-q : goal.invariant-loop-q
invariant-loop-q l =
    let r = l.self in
    (fold_range (snoop_one r.dims l.home r.p r.word (cycle_number r.cycle)) l.q (r.dims.processors - l.q) l.c ≡
    snoop r.dims r.p r.word (cycle_number r.cycle) l.initial.c) ×
    IsLeft r.dims r.p r.word l.firsts l.c.entries l.q
