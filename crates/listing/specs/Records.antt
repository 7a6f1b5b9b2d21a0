-- One record: what it is refused by, what the machine answers, and where the replay stands after it.
use Rattle.std.specs.Prelude.{Bool, true, false, List, ℕ, Option, Some, None, Result, Ok, Err, eqb, ltb, leb}
use Rattle.laws.specs.Choice.{pick}
use Rattle.entry.specs.declared.answer.Answer.{Answer}
use Rattle.entry.specs.declared.answer.Answer.TheVariants.{Value, Done, Success, Failure, True, False, Aborted, Refused}
use Rattle.entry.specs.declared.answer.Answered.{Answered}
use Rattle.entry.specs.Refusals.{accepted, not_rising, too_long, unless}
use Rattle.entry.specs.Answer.{refusal_number, cycles_of}
use Rattle.rules.specs.declared.Dims.{Dims}
use Rattle.rules.specs.declared.Caches.{Caches}
use Rattle.rules.specs.State.{Outcome}
use Rattle.rules.specs.Step.{refused, take_step}
use Rattle.text.specs.declared.records.Parsed.{Parsed}
use Rattle.text.specs.Records.{record_end, record_of, record_refusal, numbered}
use Rattle.listing.specs.declared.places.Place.{Place}
use Rattle.listing.specs.declared.records.Looked as code
use Rattle.listing.specs.Phases.{END}
use Rattle.listing.specs.Place.{place_of, more64, past, phase_at}

-- 14: "the record that holds input byte 4,194,305"
abbrev pub most_bytes : ℕ
most_bytes = 4194304

-- "before any is taken every grant passes"
abbrev pub passes : Option ℕ → ℕ → Bool
passes None grant = true
passes (Some last) grant = ltb last grant

unfoldable pub rises : Place → ℕ → Bool
rises x grant = passes x.last grant

-- 12: "Grants must rise above the last taken (not refused) record's, else 12"
unfoldable pub grant_refusal : Place → ℕ → ℕ
grant_refusal x grant = unless (rises x grant) not_rising accepted

-- where the next record begins, and the fields of this one or its refusal
pub record Looked : Type 0 where
  pub next : ℕ
  pub fields : Result Parsed ℕ

abbrev pub looked : ℕ → Result Parsed ℕ → Looked
looked next fields = record { next = next; fields = fields }

-- what the code looked at, so seen
abbrev pub looked_by : code.Looked → Looked
looked_by l = looked l.next (numbered l.fields)

abbrev pub looked_in : Place → Result Parsed ℕ → Result Parsed ℕ
looked_in x (Err n) = Err n
looked_in x (Ok f) = unless (eqb (grant_refusal x f.grant) accepted) (Err (grant_refusal x f.grant)) (Ok f)

-- "Order in a record: 14, 11, 6, 12, 7, 8": 11 and 6 are the record's own, 7 and 8 the step's. 14: "The record that holds input byte
-- 4,194,305, its CRLF included".
unfoldable pub read_of : List ℕ → Place → ℕ → Result Parsed ℕ
read_of s x end = unless (leb (past s end) most_bytes) (Err too_long) (looked_in x (record_of s x.at end))

unfoldable pub look_at : List ℕ → Place → Looked
look_at s x = let end = record_end s x.at in looked (past s end) (read_of s x end)

-- "A refused record prints and is skipped."
abbrev pub answer_in : Dims → Result Parsed ℕ → Caches → Outcome
answer_in d (Err n) c = refused n c
answer_in d (Ok f) c = take_step d f.step c

unfoldable pub answer_of : Dims → Looked → Caches → Outcome
answer_of d l c = answer_in d l.fields c

-- how many "successful commits" an answer counts
abbrev pub is_success : Answer → ℕ
is_success (Value v) = 0
is_success Done = 0
is_success Success = 1
is_success Failure = 0
is_success True = 0
is_success False = 0
is_success Aborted = 0
is_success (Refused n) = 0

-- after 14 "reading ends"
unfoldable pub phase_after : List ℕ → Looked → ℕ
phase_after s l = pick (eqb (record_refusal l.fields) too_long) END (phase_at s l.next)

-- A record is "taken (not refused)" where its answer is no refusal, and its grant is then the last taken record's.
abbrev pub taken_last : Bool → Result Parsed ℕ → Option ℕ → Option ℕ
taken_last true (Ok f) last = Some f.grant
taken_last true (Err n) last = last
taken_last false r last = last

unfoldable pub last_after : Place → Looked → Answer → Option ℕ
last_after x l a = taken_last (eqb (refusal_number a) accepted) l.fields x.last

unfoldable pub place_after : List ℕ → Place → Looked → Answered → Place
place_after s x l a =
    place_of (phase_after s l) x.refusal l.next (more64 x.number 1) (last_after x l a.answer)
    (more64 x.commits (is_success a.answer)) (more64 x.cycles (cycles_of a.counts))
