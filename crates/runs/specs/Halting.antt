-- How a run ended, on the caches that it was lent or by value, and what its columns then hold, as all that a run leaves.
use Rattle.std.specs.Prelude.{Result, Ok, Err, ℕ, length}
use Rattle.entry.specs.Refusals.{accepted, number_of}
use Rattle.rules.specs.declared.Dims.{Dims}
use Rattle.rules.specs.State.{machine_of}
use Rattle.rules.specs.Run.{Steps, Columns, Carried, carried, Left, left}
use Rattle.runs.specs.declared.Ran.{Ran}
use Rattle.runs.specs.declared.running.Halt.{Halt}

-- how many of n steps were taken: all where none was refused
abbrev pub taken_of : ℕ → Result Unit Halt → ℕ
taken_of n (Ok _) = n
taken_of n (Err h) = h.taken

-- the refusal that ended the run, or `accepted`
abbrev pub ended_as : Result Unit Halt → ℕ
ended_as (Ok _) = accepted
ended_as (Err h) = number_of h.refusal

abbrev pub halted : Dims → Steps → Result Unit Halt → Carried → Left
halted d x r c = left (taken_of (length x.ops) r) (ended_as r) (machine_of d c.state) c.columns

abbrev pub left_by : Steps → Ran → Columns → Left
left_by x r c = halted r.machine.dims x r.ended (carried r.machine.caches c)
