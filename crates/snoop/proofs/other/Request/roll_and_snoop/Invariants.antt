use Rattle.std.proofs.Common.{◌≡◌, ◌-◌}
use Rattle.laws.specs.Fold.{fold_range}
use Rattle.entry.specs.Kinds.{cycle_number}
use Rattle.snoop.proofs.Together.{roll_and_snoop}
use Rattle.snoop.proofs.other.Request.roll_and_snoop.Given as goal

abbrev pub invariant-loop-q : goal.invariant-loop-q
invariant-loop-q l =
    let r = l.self in
    (fold_range (roll_and_snoop r.dims l.home r.p r.word (cycle_number r.cycle)) l.q (r.dims.processors - l.q) l.c ≡
    fold_range (roll_and_snoop r.dims l.home r.p r.word (cycle_number r.cycle)) 0 r.dims.processors l.initial.c)
