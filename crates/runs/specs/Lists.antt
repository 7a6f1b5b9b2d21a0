-- What a run's columns hold, as the definitions' records of lists.
use Rattle.std.specs.Prelude.{◌≡◌}
use Rattle.rules.specs.Run.{steps, columns}
use Rattle.rules.specs.Run.{Steps as StepLists, Columns as Lists}
use Rattle.runs.specs.declared.columns.Steps.{Steps}
use Rattle.runs.specs.declared.columns.Columns.{Columns}

abbrev pub step_lists : Steps → StepLists
step_lists x = steps x.ops.now x.cores.now x.words.now x.values.now

abbrev pub lists : Columns → Lists
lists c = columns c.answers.now c.results.now c.read.now c.rfo.now c.write.now c.t_read.now c.t_rfo.now c.busy.now

-- what was written through one stands in the slices that the other was made of
pub record SameSlices (c k : Columns) : Type 0 where
  pub answers : c.answers.ghost_name ≡ k.answers.ghost_name
  pub results : c.results.ghost_name ≡ k.results.ghost_name
  pub read : c.read.ghost_name ≡ k.read.ghost_name
  pub rfo : c.rfo.ghost_name ≡ k.rfo.ghost_name
  pub write : c.write.ghost_name ≡ k.write.ghost_name
  pub t_read : c.t_read.ghost_name ≡ k.t_read.ghost_name
  pub t_rfo : c.t_rfo.ghost_name ≡ k.t_rfo.ghost_name
  pub busy : c.busy.ghost_name ≡ k.busy.ghost_name
