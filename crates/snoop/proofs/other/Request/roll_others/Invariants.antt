use Rattle.std.proofs.Common.{◌≡◌, ◌-◌}
use Rattle.laws.specs.Fold.{fold_range}
use Rattle.entry.specs.Kinds.{cycle_number}
use Rattle.rules.specs.Snoop.{roll_one, roll_others}
use Rattle.snoop.proofs.other.Request.roll_others.Given as goal

abbrev pub invariant-loop-q : goal.invariant-loop-q
invariant-loop-q l =
    let r = l.self in
    fold_range (roll_one r.dims r.p r.word (cycle_number r.cycle)) l.q (r.dims.processors - l.q) l.c ≡
    roll_others r.dims r.p r.word (cycle_number r.cycle) l.initial.c
