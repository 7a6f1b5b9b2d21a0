-- "Bench cases" A to J, proved by one computed test. "Two processors, 4 words holding 10, 11, 12, 13, 4 lines, 2 entries unless said."
use mathlib.Core.List.{List, [], ◌∷◌}
use Prim.Native.Nat.{ℕ}
use lib.Dec.{T}
use Rattle.entry.specs.declared.answer.Answer.TheVariants.{Value, Done, Success, Failure, False, Aborted}
use Rattle.entry.specs.Numbers.{LOAD, STORE, LT, ST, COMMIT, ABORT, VALIDATE, INTERRUPT, READ, RFO, WRITE, T_READ, T_RFO}
use Rattle.entry.specs.Answer.{asked, quiet, no_cycles}
use Rattle.rules.specs.Making.{dims}
use Rattle.rules.proofs.Table.{Row, row, Case, case, passes, all_of}

abbrev bench : ℕ → List Row → Case
bench entries rows = case (dims 2 4 4 entries) (10 ∷ 11 ∷ 12 ∷ 13 ∷ []) rows

pub cases : List Case
cases =
    -- A: P0 LT 1, P1 LT 1 both 11; P1 ST 1 ABORTED; P1 COMMIT FAILURE; P0 COMMIT SUCCESS.
    bench 2
    (row LT 0 1 0 (Value 11) (asked T_READ 0 0) ∷
    row LT 1 1 0 (Value 11) (asked T_READ 0 0) ∷
    row ST 1 1 5 Aborted (asked T_RFO 0 1) ∷
    row COMMIT 1 0 0 Failure no_cycles ∷
    row COMMIT 0 0 0 Success no_cycles ∷
    []) ∷
    -- B: P0 ST 1=5; P1 LOAD 1 is 11; P0 COMMIT FAILURE.
    bench 2
    (row ST 0 1 5 Done (asked T_RFO 0 0) ∷
    row LOAD 1 1 0 (Value 11) (asked READ 0 0) ∷
    row COMMIT 0 0 0 Failure no_cycles ∷
    []) ∷
    -- C: P0 LT 1; P1 LOAD 1 is 11; P0 COMMIT SUCCESS.
    bench 2
    (row LT 0 1 0 (Value 11) (asked T_READ 0 0) ∷
    row LOAD 1 1 0 (Value 11) (asked READ 0 0) ∷
    row COMMIT 0 0 0 Success no_cycles ∷
    []) ∷
    -- D: P0 LT 1; P1 STORE 1=9; P0 VALIDATE FALSE; P0 LT 1 is 9.
    bench 2
    (row LT 0 1 0 (Value 11) (asked T_READ 0 0) ∷
    row STORE 1 1 9 Done (asked RFO 0 0) ∷
    row VALIDATE 0 0 0 False no_cycles ∷
    row LT 0 1 0 (Value 9) (asked T_READ 0 0) ∷
    []) ∷
    -- E: P0 ST 2=7; P0 LOAD 2 is 12; COMMIT FAILURE.
    bench 2
    (row ST 0 2 7 Done (asked T_RFO 0 0) ∷
    row LOAD 0 2 0 (Value 12) no_cycles ∷
    row COMMIT 0 0 0 Failure no_cycles ∷
    []) ∷
    -- F: P0 LT 0, LT 1 give 10, 11; LT 2 ABORTED, no cycles.
    bench 2
    (row LT 0 0 0 (Value 10) (asked T_READ 0 0) ∷
    row LT 0 1 0 (Value 11) (asked T_READ 0 0) ∷
    row LT 0 2 0 Aborted no_cycles ∷
    []) ∷
    -- G: P0 ST 1=5, COMMIT, ST 1=6, ABORT; P1 LT 1 is 5.
    bench 2
    (row ST 0 1 5 Done (asked T_RFO 0 0) ∷
    row COMMIT 0 0 0 Success no_cycles ∷
    row ST 0 1 6 Done no_cycles ∷
    row ABORT 0 0 0 Done no_cycles ∷
    row LT 1 1 0 (Value 5) (asked T_READ 0 0) ∷
    []) ∷
    -- H, one entry: P0 ST 1=5, COMMIT; LT 1 is 5 with one WRITE; P1 LT 1 ABORTED.
    bench 1
    (row ST 0 1 5 Done (asked T_RFO 0 0) ∷
    row COMMIT 0 0 0 Success no_cycles ∷
    row LT 0 1 0 (Value 5) (quiet 1) ∷
    row LT 1 1 0 Aborted (asked T_READ 0 1) ∷
    []) ∷
    -- I: INTERRUPT P0; LT 1 ABORTED; COMMIT FAILURE; LT 1 is 11.
    bench 2
    (row INTERRUPT 0 0 0 Done no_cycles ∷
    row LT 0 1 0 Aborted no_cycles ∷
    row COMMIT 0 0 0 Failure no_cycles ∷
    row LT 0 1 0 (Value 11) (asked T_READ 0 0) ∷
    []) ∷
    -- J: P0 LOAD 1; P1 LT 1; P0 STORE 1=8, one WRITE; P1 COMMIT FAILURE.
    bench 2
    (row LOAD 0 1 0 (Value 11) (asked READ 0 0) ∷
    row LT 1 1 0 (Value 11) (asked T_READ 0 0) ∷
    row STORE 0 1 8 Done (asked WRITE 0 0) ∷
    row COMMIT 1 0 0 Failure no_cycles ∷
    []) ∷
    []

pub cases_pass : T (all_of passes cases)
unfolding cases passes
cases_pass = tt
