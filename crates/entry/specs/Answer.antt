-- Answers and cycle counts.
use Rattle.std.specs.Prelude.{Result, Ok, Err, ℕ, ◌+◌, Bool, true, false, eqb}
use Prim.Native.String.{String}
use Rattle.laws.specs.Choice.{pick}
use Rattle.entry.specs.declared.answer.Answer.{Answer}
use Rattle.entry.specs.declared.answer.Answer.TheVariants.{Value, Done, Success, Failure, True, False, Aborted, Refused}
use Rattle.entry.specs.declared.answer.Counts.{Counts}
use Rattle.entry.specs.declared.answer.Answered.{Answered}
use Rattle.entry.specs.declared.refusals.Refusal.{Refusal}
use Rattle.entry.specs.Refusals.{number_of}
use Rattle.entry.specs.Numbers.{READ, RFO, WRITE, T_READ, T_RFO}

-- "Answers": each case's name.
abbrev pub answer_name : Answer → String
answer_name (Value v) = "VALUE"
answer_name Done = "DONE"
answer_name Success = "SUCCESS"
answer_name Failure = "FAILURE"
answer_name True = "TRUE"
answer_name False = "FALSE"
answer_name Aborted = "ABORTED"
answer_name (Refused n) = "REFUSED"

-- The number that a column holds for an answer: VALUE, DONE, SUCCESS, FAILURE, TRUE, FALSE, ABORTED as 'Steps' names them first, then
-- REFUSED.
abbrev pub answer_number : Answer → ℕ
answer_number (Value v) = 0
answer_number Done = 1
answer_number Success = 2
answer_number Failure = 3
answer_number True = 4
answer_number False = 5
answer_number Aborted = 6
answer_number (Refused n) = 7

-- "Every answer but VALUE carries value 0."
abbrev pub answer_value : Answer → ℕ
answer_value (Value v) = v
answer_value Done = 0
answer_value Success = 0
answer_value Failure = 0
answer_value True = 0
answer_value False = 0
answer_value Aborted = 0
answer_value (Refused n) = 0

-- "A refusal gives its number": 0 for every answer that is none.
abbrev pub refusal_number : Answer → ℕ
refusal_number (Value v) = 0
refusal_number Done = 0
refusal_number Success = 0
refusal_number Failure = 0
refusal_number True = 0
refusal_number False = 0
refusal_number Aborted = 0
refusal_number (Refused n) = n

-- whether an answer is a refusal
abbrev pub is_refusal : Answer → Bool
is_refusal (Value v) = false
is_refusal Done = false
is_refusal Success = false
is_refusal Failure = false
is_refusal True = false
is_refusal False = false
is_refusal Aborted = false
is_refusal (Refused n) = true

-- "Every answer carries six cycle counts: READ, RFO, WRITE, T_READ, T_RFO, BUSY."
abbrev pub counts : ℕ → ℕ → ℕ → ℕ → ℕ → ℕ → Counts
counts a b c d e f = record { read = a; rfo = b; write = c; t_read = d; t_rfo = e; busy = f }

abbrev pub no_cycles : Counts
no_cycles = counts 0 0 0 0 0 0

-- w copies written back, each a WRITE, and no request
abbrev pub quiet : ℕ → Counts
quiet w = counts 0 0 w 0 0 0

-- w copies written back, one request, and how many BUSY it met
abbrev pub asked : ℕ → ℕ → ℕ → Counts
asked cycle w busy =
    counts
    (pick (eqb cycle READ) 1 0)
    (pick (eqb cycle RFO) 1 0)
    (pick (eqb cycle WRITE) (w + 1) w)
    (pick (eqb cycle T_READ) 1 0)
    (pick (eqb cycle T_RFO) 1 0)
    busy

-- "sum of the six counts"
abbrev pub cycles_of : Counts → ℕ
cycles_of c = c.read + c.rfo + c.write + c.t_read + c.t_rfo + c.busy

abbrev pub answered : Answer → Counts → Answered
answered a c = record { answer = a; counts = c }

-- "A refusal gives its number, value 0 and zero counts"
abbrev pub refused_by : ℕ → Answered
refused_by n = answered (Refused n) no_cycles

-- what is told: an answer, or a refusal
abbrev pub told_as : Result Answered Refusal → Answered
told_as (Ok a) = a
told_as (Err r) = refused_by (number_of r)
