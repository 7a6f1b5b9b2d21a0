-- The worked example of "The replay program and its text": the answers, and the sums of counts that its listing prints.
use mathlib.Core.List.{List, [], ◌∷◌, map}
use Prim.Native.Nat.{ℕ}
use lib.Dec.{T}
use lib.ListN.{replicate}
use Rattle.laws.specs.Choice.{both}
use Rattle.entry.specs.declared.answer.Answer.TheVariants.{Value, Done, Success, Failure, True, Aborted}
use Rattle.entry.specs.Numbers.{LT, LTX, ST, COMMIT, VALIDATE, T_READ, T_RFO}
use Rattle.entry.specs.Answer.{asked, no_cycles, cycles_of}
use Rattle.rules.specs.Making.{dims}
use Rattle.rules.proofs.Table.{Row, row, case, passes, same}

pub worked : List Row
worked =
    row LTX 0 5 0 (Value 0) (asked T_RFO 0 0) ∷
    row ST 0 5 7 Done no_cycles ∷
    row LT 1 5 0 Aborted (asked T_READ 0 1) ∷
    row COMMIT 1 0 0 Failure no_cycles ∷
    row COMMIT 0 0 0 Success no_cycles ∷
    row LT 1 5 0 (Value 7) (asked T_READ 0 0) ∷
    row VALIDATE 1 0 0 True no_cycles ∷
    row COMMIT 1 0 0 Success no_cycles ∷
    []

-- the listing's last column
pub bus : List ℕ
bus = 1 ∷ 0 ∷ 2 ∷ 0 ∷ 0 ∷ 1 ∷ 0 ∷ 0 ∷ []

-- "The machine has 4 processors, 16 words, 4 lines, 4 entries, memory zero."
pub worked_passes : T
    (both (passes (case (dims 4 16 4 4) (replicate 16 0) worked)) (same (map (λ x. cycles_of x.counts) worked) bus))
unfolding worked bus passes
worked_passes = tt
