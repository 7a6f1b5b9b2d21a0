-- "One step counts at most 3 WRITE, one request and one BUSY."
use Rattle.std.specs.Prelude.{◌+◌, ◌≤◌}
use Rattle.entry.specs.declared.answer.Counts.{Counts}

pub record Bounded (c : Counts) : Type 0 where
  pub writes : c.write ≤ 3
  pub requests : c.read + c.rfo + c.t_read + c.t_rfo ≤ 1
  pub busy : c.busy ≤ 1
