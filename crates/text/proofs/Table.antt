-- Records and numbers by one computed test. A record's text is read with its CRLF and without one; a number's text is what is written.
use mathlib.Core.Bool.{Bool, false}
use mathlib.Core.List.{List, [], ◌∷◌, ◌++◌}
use Prim.Native.Nat.{ℕ}
use Prim.Native.String.{String}
use lib.Dec.{T, eqb}
use Rattle.laws.specs.Choice.{both}
use Rattle.laws.specs.Search.{first_from}
use Rattle.laws.specs.Fold.{fold_range}
use Rattle.entry.specs.Numbers.{LOAD, STORE, LT, LTX, ST, COMMIT, ABORT, VALIDATE, INTERRUPT}
use Rattle.entry.specs.Refusals.{malformed, no_such_step}
use Rattle.entry.specs.Step.{step}
use Rattle.std.specs.Prelude.{Result, Ok, Err, bytes_eq}
use Rattle.std.specs.List.{list_all}
use Rattle.text.specs.declared.records.Parsed.{Parsed}
use Rattle.text.specs.Quoted.{bytes}
use Rattle.text.specs.Marks.{CR, LF, find_of}
use Rattle.text.specs.Decimals.{push, field_of}
use Rattle.text.specs.Names.{unlike_of, same_text, is_name, named_step}
use Rattle.text.specs.Records.{record_end, plain_of, split_of, record_of}
use Rattle.text.specs.Writing.{width_from, width_of, digits, decimal}

pub record Row : Type 0 where
  pub text : String
  pub is : Result Parsed ℕ

abbrev row : String → Result Parsed ℕ → Row
row t r = record { text = t; is = r }

-- grant, core, op, word, value
abbrev reads : ℕ → ℕ → ℕ → ℕ → ℕ → Result Parsed ℕ
reads g c o w v = Ok (record { grant = g; step = step o c w v })

-- 11 and 6
abbrev malformed_record : Result Parsed ℕ
malformed_record = Err malformed

abbrev no_step : Result Parsed ℕ
no_step = Err no_such_step

pub rows : List Row
rows =
    -- the worked example
    row "10,0,LTX,5,0" (reads 10 0 LTX 5 0) ∷
    row "11,0,ST,5,7" (reads 11 0 ST 5 7) ∷
    row "12,1,LT,5,0" (reads 12 1 LT 5 0) ∷
    row "13,1,COMMIT,0,0" (reads 13 1 COMMIT 0 0) ∷
    row "14,0,COMMIT,0,0" (reads 14 0 COMMIT 0 0) ∷
    row "15,1,LT,5,0" (reads 15 1 LT 5 0) ∷
    row "16,1,VALIDATE,0,0" (reads 16 1 VALIDATE 0 0) ∷
    row "17,1,COMMIT,0,0" (reads 17 1 COMMIT 0 0) ∷
    -- the names that it does not use
    row "1,2,LOAD,3,4" (reads 1 2 LOAD 3 4) ∷
    row "1,2,STORE,3,4" (reads 1 2 STORE 3 4) ∷
    row "1,2,ABORT,3,4" (reads 1 2 ABORT 3 4) ∷
    row "1,2,INTERRUPT,3,4" (reads 1 2 INTERRUPT 3 4) ∷
    -- "at most 4294967295, at least one digit, no leading zero but for 0"
    row "0,0,LT,0,4294967295" (reads 0 0 LT 0 4294967295) ∷
    row "0,0,LT,0,4294967296" malformed_record ∷
    row "4294967296,0,LT,0,0" malformed_record ∷
    row "01,0,LT,5,0" malformed_record ∷
    row "1,00,LT,5,0" malformed_record ∷
    row "1,0,COMMIT,," malformed_record ∷
    row "1,0,LT,5,+7" malformed_record ∷
    row "1,0,LT, 5,7" malformed_record ∷
    -- "five unquoted fields"
    row "" malformed_record ∷
    row "1,0,LT,5" malformed_record ∷
    row "1,0,LT,5,0," malformed_record ∷
    row "1,0,\"LT\",5,0" malformed_record ∷
    row "1,0,LT,5,0\"" malformed_record ∷
    -- "At most 64 bytes before its CRLF": 64, and 65
    row "1,0,AAAAAAAAAAAAAAAAAAAAAAAAAAAAAAAAAAAAAAAAAAAAAAAAAAAAAAAA,5,0" no_step ∷
    row "1,0,AAAAAAAAAAAAAAAAAAAAAAAAAAAAAAAAAAAAAAAAAAAAAAAAAAAAAAAAA,5,0" malformed_record ∷
    -- "any other text there is 6, not 11", and 11 comes before 6
    row "1,0,LOOK,5,0" no_step ∷
    row "1,0,,5,0" no_step ∷
    row "1,0,lt,5,0" no_step ∷
    row "1,0,LTXX,5,0" no_step ∷
    row "1,0,LOOK,x,0" malformed_record ∷
    -- "lone CR or LF counts as a byte of the record"
    row "1,0,LT\r,5,0" no_step ∷
    row "1,0,\nLT,5,0" no_step ∷
    row "1,0,LT,5,0\r" malformed_record ∷
    row "\n1,0,LT,5,0" malformed_record ∷
    []

pub record Number : Type 0 where
  pub value : ℕ
  pub text : String

abbrev number : ℕ → String → Number
number v t = record { value = v; text = t }

pub numbers : List Number
numbers =
    number 0 "0" ∷
    number 9 "9" ∷
    number 10 "10" ∷
    number 4294967295 "4294967295" ∷
    number 18446744073709551615 "18446744073709551615" ∷
    []

abbrev pub same_record : Result Parsed ℕ → Result Parsed ℕ → Bool
same_record (Ok p) (Ok q) =
    both (eqb p.grant q.grant)
    (both (eqb p.step.core q.step.core)
    (both (eqb p.step.op q.step.op) (both (eqb p.step.word q.step.word) (eqb p.step.value q.step.value))))
same_record (Ok p) (Err n) = false
same_record (Err m) (Ok q) = false
same_record (Err m) (Err n) = eqb m n

-- the first record of an input
pub first_record : List ℕ → Result Parsed ℕ
unfolding record_end first_from plain_of find_of split_of push fold_range field_of unlike_of same_text is_name named_step record_of
first_record s = record_of s 0 (record_end s 0)

pub row_holds : Row → Bool
unfolding first_record
row_holds r =
    both (same_record (first_record (bytes r.text)) r.is)
    (same_record (first_record (bytes r.text ++ (CR ∷ LF ∷ []))) r.is)

pub number_holds : Number → Bool
unfolding width_from width_of digits decimal
number_holds n = bytes_eq (decimal n.value) (bytes n.text)

pub tables_hold : T (both (list_all row_holds rows) (list_all number_holds numbers))
unfolding rows numbers row_holds number_holds
tables_hold = tt
