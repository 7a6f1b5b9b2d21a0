use Rattle.std.proofs.Common.{◌≡◌, ◌-◌, length}
use Rattle.laws.specs.Search.{first_from}
use Rattle.entry.specs.Kinds.{cycle_number}
use Rattle.rules.specs.Snoop.{other_opposes, first_opposing}
use Rattle.snoop.specs.Firsts.{IsNoted}
use Rattle.snoop.proofs.other.Request.is_refused.Given as goal

abbrev pub invariant-loop-q : goal.invariant-loop-q
invariant-loop-q l =
    let r = l.self in
    let es = l.c.entries in
    (first_from (other_opposes r.dims r.p r.word (cycle_number r.cycle) es) l.q (r.dims.processors - l.q) ≡
    first_opposing r.dims r.p r.word (cycle_number r.cycle) es) ×
    (IsNoted r.dims r.p r.word l.firsts es l.q) ×
    (length l.firsts ≡ 8)
