-- "Refusal numbers", under names, in the order in which document 01 lists and checks them; 11 to 14 are those of "The replay program and
-- its text".
use Rattle.std.specs.Prelude.{ℕ, Bool, Result, Ok, Err}
use Rattle.laws.specs.Choice.{pick}
use Rattle.entry.specs.declared.refusals.Refusal.{Refusal}
use Rattle.entry.specs.declared.refusals.Refusal.TheVariants.{BadProcessors, BadWords, BadLines, BadEntries, BadMemory, NoSuchStep, NoSuchProcessor, NoSuchWord}
use Rattle.entry.specs.declared.refusals.Refusal.TheVariants.{NotSound, BadColumns, Malformed, NotRising, WrongHeader, TooLong}

-- nothing is refused
abbrev pub accepted : ℕ
accepted = 0

-- "processors, words, regular lines, transactional entries out of range"
abbrev pub bad_processors : ℕ
bad_processors = 1

abbrev pub bad_words : ℕ
bad_words = 2

abbrev pub bad_lines : ℕ
bad_lines = 3

abbrev pub bad_entries : ℕ
bad_entries = 4

-- "initial memory is not exactly words long"
abbrev pub bad_memory : ℕ
bad_memory = 5

-- "the state is not sound"
abbrev pub not_sound : ℕ
not_sound = 9

-- "lent columns of a run differ in length, or exceed 65,536"
abbrev pub bad_columns : ℕ
bad_columns = 10

-- "step number above 8"
abbrev pub no_such_step : ℕ
no_such_step = 6

-- "no such processor"
abbrev pub no_such_processor : ℕ
no_such_processor = 7

-- "a used word is out of range"
abbrev pub no_such_word : ℕ
no_such_word = 8

-- "Otherwise, or with a quote mark anywhere, 11"
abbrev pub malformed : ℕ
malformed = 11

-- "Grants must rise above the last taken (not refused) record's, else 12"
abbrev pub not_rising : ℕ
not_rising = 12

-- "another header of any length, or empty input, is 13"
abbrev pub wrong_header : ℕ
wrong_header = 13

-- "The record that holds input byte 4,194,305, its CRLF included, is 14"
abbrev pub too_long : ℕ
too_long = 14

-- the number of each
abbrev pub number_of : Refusal → ℕ
number_of BadProcessors = bad_processors
number_of BadWords = bad_words
number_of BadLines = bad_lines
number_of BadEntries = bad_entries
number_of BadMemory = bad_memory
number_of NoSuchStep = no_such_step
number_of NoSuchProcessor = no_such_processor
number_of NoSuchWord = no_such_word
number_of NotSound = not_sound
number_of BadColumns = bad_columns
number_of Malformed = malformed
number_of NotRising = not_rising
number_of WrongHeader = wrong_header
number_of TooLong = too_long

-- a refusal by its number, or `accepted`
abbrev pub refused_as : {A : Type 0} → Result A Refusal → ℕ
refused_as (Ok _) = accepted
refused_as (Err r) = number_of r

-- "Checked in the order listed": refusals read downwards, each with what it asks. Unless ok, n; else what comes after.
abbrev pub unless : {A : Type 0} → Bool → A → A → A
unless ok n rest = pick ok rest n
