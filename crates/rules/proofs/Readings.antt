-- "Readings of the paper that go wrong here": for each a case whose row tells the right reading from the wrong one.
use mathlib.Core.List.{List, [], ◌∷◌}
use lib.Dec.{T}
use Rattle.entry.specs.declared.answer.Answer.TheVariants.{Value, Done, Success, Failure, True, False, Aborted}
use Rattle.entry.specs.Numbers.{LOAD, STORE, LT, ST, COMMIT, ABORT, VALIDATE, READ, RFO, WRITE, T_READ, T_RFO}
use Rattle.entry.specs.Answer.{asked, no_cycles}
use Rattle.rules.specs.Making.{dims}
use Rattle.rules.proofs.Table.{Row, row, Case, case, passes, all_of}

abbrev with4 : List Row → Case
with4 rows = case (dims 2 4 4 4) (10 ∷ 11 ∷ 12 ∷ 13 ∷ []) rows

pub readings : List Case
readings =
    -- "a NORMAL DIRTY line would never answer": P1 reads what P0 committed
    with4
    (row ST 0 1 5 Done (asked T_RFO 0 0) ∷
    row COMMIT 0 0 0 Success no_cycles ∷
    row LT 1 1 0 (Value 5) (asked T_READ 0 0) ∷
    []) ∷
    -- "loses a dirty backup (case G with four entries, its ABORT replaced by a BUSY on another word)"
    with4
    (row ST 1 2 9 Done (asked T_RFO 0 0) ∷
    row ST 0 1 5 Done (asked T_RFO 0 0) ∷
    row COMMIT 0 0 0 Success no_cycles ∷
    row ST 0 1 6 Done no_cycles ∷
    row LT 0 2 0 Aborted (asked T_READ 0 1) ∷
    row LT 1 1 0 (Value 5) (asked T_READ 0 0) ∷
    []) ∷
    -- "Figure 7 leaves the backup unfilled on a miss. Here it is filled.": after an abort the word is still there
    with4
    (row LT 0 1 0 (Value 11) (asked T_READ 0 0) ∷
    row ABORT 0 0 0 Done no_cycles ∷
    row LOAD 0 1 0 (Value 11) no_cycles ∷
    []) ∷
    -- "VALIDATE .. the status decides": TRUE in no transaction, FALSE in one that was rolled back
    with4
    (row VALIDATE 0 0 0 True no_cycles ∷
    row LT 0 1 0 (Value 11) (asked T_READ 0 0) ∷
    row STORE 1 1 9 Done (asked RFO 0 0) ∷
    row VALIDATE 0 0 0 False no_cycles ∷
    []) ∷
    -- "no case for WRITE; then case J commits on a stale read"
    with4
    (row LOAD 0 1 0 (Value 11) (asked READ 0 0) ∷
    row LT 1 1 0 (Value 11) (asked T_READ 0 0) ∷
    row STORE 0 1 8 Done (asked WRITE 0 0) ∷
    row COMMIT 1 0 0 Failure no_cycles ∷
    []) ∷
    []

pub readings_pass : T (all_of passes readings)
unfolding readings passes
readings_pass = tt
