-- What a run's loop asks of its columns: that a place is in each of them.
use Rattle.std.specs.Prelude.{ℕ, ◌<◌, length}
use Rattle.rules.specs.Run.{Steps, Columns}

pub record InSteps (x : Steps) (i : ℕ) : Type 0 where
  pub ops : i < length x.ops
  pub cores : i < length x.cores
  pub words : i < length x.words
  pub values : i < length x.values

pub record InColumns (c : Columns) (i : ℕ) : Type 0 where
  pub answers : i < length c.answers
  pub results : i < length c.results
  pub read : i < length c.read
  pub rfo : i < length c.rfo
  pub write : i < length c.write
  pub t_read : i < length c.t_read
  pub t_rfo : i < length c.t_rfo
  pub busy : i < length c.busy
