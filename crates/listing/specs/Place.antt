-- Where a replay stands between two lines of its listing. Quotes are of "The replay program and its text".
use Rattle.std.specs.Prelude.{Bool, List, ℕ, ◌+◌, Option, None, Result, Ok, Err, eqb, ltb, leb, length}
use Rattle.laws.specs.Choice.{pick}
use Rattle.entry.specs.declared.refusals.Refusal.{Refusal}
use Rattle.entry.specs.Refusals.{accepted, wrong_header, unless, number_of}
use Rattle.text.specs.Quoted.{bytes}
use Rattle.text.specs.Names.{same_text}
use Rattle.text.specs.Records.{record_end}
use Rattle.listing.specs.declared.places.Place.{Place}
use Rattle.listing.specs.Phases.{HEADER, REFUSAL, RECORD, END}

abbrev pub place_of : ℕ → ℕ → ℕ → ℕ → Option ℕ → ℕ → ℕ → Place
place_of phase refusal at number last commits cycles =
    record { phase = phase; refusal = refusal; at = at; number = number; last = last; commits = commits; cycles = cycles }

abbrev pub with_phase : Place → ℕ → Place
with_phase x k = place_of k x.refusal x.at x.number x.last x.commits x.cycles

-- counts stand still at the largest number of 64 bits, which no input of 4 MiB reaches
unfoldable pub more64 : ℕ → ℕ → ℕ
more64 n k = pick (leb (n + k) 18446744073709551615) (n + k) 18446744073709551615

-- past a record's CRLF, if it has one
unfoldable pub past : List ℕ → ℕ → ℕ
past s e = pick (ltb e (length s)) (e + 2) e

-- what comes at a place of the input: a record, or the end
unfoldable pub phase_at : List ℕ → ℕ → ℕ
phase_at s at = pick (ltb at (length s)) RECORD END

-- what comes after the listing's own header
unfoldable pub first_phase : List ℕ → Place → ℕ
first_phase s x = unless (eqb x.refusal accepted) REFUSAL (phase_at s x.at)

-- "The header is `grant,core,op,word,value`"
unfoldable pub header_ok : List ℕ → Bool
header_ok s = same_text s 0 (record_end s 0) (bytes "grant,core,op,word,value")

-- the first line is the listing's own header; after it comes a refusal, unless n is 0, or the first record, at a place of the input
abbrev pub first_place : ℕ → ℕ → Place
first_place n at = place_of HEADER n at 0 None 0 0

-- Where the replay of a text begins, on a machine whose making was answered by n. 13: "another header of any length, or empty input".
unfoldable pub begin_at : List ℕ → ℕ → Place
begin_at s n =
    unless (eqb n accepted) (first_place n 0)
    (unless (header_ok s) (first_place wrong_header 0)
    (first_place accepted (past s (record_end s 0))))

-- the header's end, or its refusal, so seen
abbrev pub begun_by : Result ℕ Refusal → Place
begun_by (Ok at) = first_place accepted at
begun_by (Err r) = first_place (number_of r) 0
