-- The worked example, byte for byte, with and without its last CRLF, and the shortest texts.
use mathlib.Core.Bool.{Bool, true, false}
use mathlib.Core.List.{List, [], ◌∷◌, ◌++◌}
use Prim.Native.Nat.{ℕ}
use Prim.Native.String.{String}
use lib.Dec.{T, eqb}
use Rattle.laws.specs.Choice.{pick, both}
use Rattle.laws.specs.Fold.{fold_range}
use Rattle.laws.specs.Search.{first_from}
use Rattle.laws.specs.Places.{apply_from}
use Rattle.rules.specs.Making.{dims, dims_refusal, make_refusal, fresh, make_of}
use Rattle.rules.specs.Own.{home, find_entry, lowest, free_slot, live_entry}
use Rattle.rules.specs.Rollback.{rolled_entries, status_down, committed_entries}
use Rattle.rules.specs.Snoop.{written_back, writes, snoop_line, snoop_entry, snoop_one, snoop}
use Rattle.rules.specs.Snoop.{opposes, first_opposing, refuses, roll_one, roll_others, plain_request}
use Rattle.rules.specs.Load.{load_miss, load_on, load}
use Rattle.rules.specs.Store.{roll_own, drop_normal, store_through, store_miss, store_line, store}
use Rattle.rules.specs.Transact.{drop_line, finish, hit, open_normal, clear_backup, fill_backup, fill, request, miss_at, miss, seek, transact}
use Rattle.rules.specs.Ends.{commit, abort, validate, interrupt}
use Rattle.rules.specs.Step.{operands_refusal, take_step}
use Rattle.text.specs.Quoted.{bytes}
use Rattle.text.specs.Marks.{find_of}
use Rattle.text.specs.Decimals.{push, field_of}
use Rattle.text.specs.Names.{unlike_of, same_text, is_name, named_step}
use Rattle.text.specs.Records.{record_end, plain_of, split_of, record_of}
use Rattle.text.specs.Writing.{width_from, width_of, digits, decimal}
use Rattle.listing.specs.Pieces.{text_from}
use Rattle.listing.specs.Place.{more64, past, phase_at, first_phase, header_ok, begin_at}
use Rattle.listing.specs.Lines.{crlf, answer_line, end_line}
use Rattle.listing.specs.Records.{rises, grant_refusal, read_of, look_at, answer_of, phase_after, last_after, place_after}
use Rattle.listing.specs.Listing.{do_record, do_other, do_line, listing_from}
use Rattle.listing.specs.Replay.{begin_of, listing}

-- lines joined, each with its CRLF but for the last
abbrev joined : List String → List ℕ
joined [] = []
joined (l ∷ []) = bytes l
joined (l ∷ (m ∷ ls)) = bytes l ++ (crlf ++ joined (m ∷ ls))

abbrev same : List ℕ → List ℕ → Bool
same [] [] = true
same [] (y ∷ m) = false
same (x ∷ l) [] = false
same (x ∷ l) (y ∷ m) = let rest = same l m in pick (eqb x y) rest false

-- "The machine has 4 processors, 16 words, 4 lines, 4 entries, memory zero."
pub lists : List String → List String → Bool
unfolding fold_range first_from apply_from dims_refusal make_refusal fresh make_of home find_entry lowest free_slot live_entry
    rolled_entries status_down committed_entries written_back writes snoop_line snoop_entry snoop_one snoop opposes first_opposing refuses
    roll_one roll_others plain_request load_miss load_on load roll_own drop_normal store_through store_miss store_line store drop_line
    finish hit open_normal clear_backup fill_backup fill request miss_at miss seek transact commit abort validate interrupt
    operands_refusal take_step find_of push field_of unlike_of same_text is_name named_step record_end plain_of split_of record_of
    width_from width_of digits decimal text_from more64 past phase_at first_phase header_ok begin_at answer_line end_line rises
    grant_refusal read_of look_at answer_of phase_after last_after place_after do_record do_other do_line listing_from begin_of listing
lists input output = same (listing (dims 4 16 4 4) (joined input)) (joined output)

abbrev worked : List String
worked =
    "grant,core,op,word,value" ∷
    "10,0,LTX,5,0" ∷
    "11,0,ST,5,7" ∷
    "12,1,LT,5,0" ∷
    "13,1,COMMIT,0,0" ∷
    "14,0,COMMIT,0,0" ∷
    "15,1,LT,5,0" ∷
    "16,1,VALIDATE,0,0" ∷
    "17,1,COMMIT,0,0" ∷
    []

abbrev listed : List String
listed =
    "record,answer,value,bus" ∷
    "1,VALUE,0,1" ∷
    "2,DONE,0,0" ∷
    "3,ABORTED,0,2" ∷
    "4,FAILURE,0,0" ∷
    "5,SUCCESS,0,0" ∷
    "6,VALUE,7,1" ∷
    "7,TRUE,0,0" ∷
    "8,SUCCESS,0,0" ∷
    "END,COMMITTED,2,4" ∷
    "" ∷
    []

pub worked_listed : T (both (lists worked listed) (lists (worked ++ ("" ∷ [])) listed))
unfolding lists
worked_listed = tt

-- "empty input, is 13"; a right header without CRLF has no record; an empty line is a record and is 11
pub short_listed : T
    (both (lists ("" ∷ []) ("record,answer,value,bus" ∷ "0,REFUSED,13,0" ∷ "END,COMMITTED,0,0" ∷ "" ∷ []))
    (both (lists ("grant,core,op,word,value" ∷ []) ("record,answer,value,bus" ∷ "END,COMMITTED,0,0" ∷ "" ∷ []))
    (lists ("grant,core,op,word,value" ∷ "" ∷ "5,0,load,1,0" ∷ "5,9,LOAD,1,0" ∷ "5,0,LOAD,16,0" ∷ "5,0,LOAD,1,0" ∷ "5,0,LOAD,1,0" ∷ [])
    ("record,answer,value,bus" ∷ "1,REFUSED,11,0" ∷ "2,REFUSED,6,0" ∷ "3,REFUSED,7,0" ∷ "4,REFUSED,8,0" ∷
    "5,VALUE,0,1" ∷ "6,REFUSED,12,0" ∷ "END,COMMITTED,0,1" ∷ "" ∷ []))))
unfolding lists
short_listed = tt
