-- A processor's own copies: its regular line of a word, its entry of a word, and the slot search.
use Rattle.std.specs.Prelude.{Bool, not, List, ℕ, ◌%◌, eqb, ltb}
use Rattle.laws.specs.Choice.{pick, both}
use Rattle.laws.specs.Search.{first_from}
use Rattle.entry.specs.declared.Entry.{Entry}
use Rattle.entry.specs.Numbers.{INVALID, NORMAL, BACKUP}
use Rattle.entry.specs.Entry.{is_entry, is_live}
use Rattle.rules.specs.declared.Dims.{Dims}
use Rattle.rules.specs.State.{copy_at}

-- "direct-mapped: word a uses line a mod lines"
unfoldable pub home : Dims → ℕ → ℕ
home d word = word % d.lines

-- a regular line that is a copy of the word
abbrev pub holds : Entry → ℕ → Bool
holds e word = both (not (eqb e.state INVALID)) (eqb e.word word)

abbrev pub has_entry : List ℕ → ℕ → ℕ → ℕ → ℕ → Bool
has_entry es p tag word i = is_entry (copy_at es p i) tag word

-- the first of p's n entries with the tag and the word, else n
unfoldable pub find_entry : List ℕ → ℕ → ℕ → ℕ → ℕ → ℕ
find_entry es p n tag word = first_from (has_entry es p tag word) 0 n

abbrev pub is_free : List ℕ → ℕ → ℕ → ℕ → ℕ → Bool
is_free es p tag taken i = both (not (eqb i taken)) (eqb (copy_at es p i).tag tag)

-- the lowest-numbered of p's n entries with the tag, "never the slot taken in the same step"; n where there is none
unfoldable pub lowest : List ℕ → ℕ → ℕ → ℕ → ℕ → ℕ
lowest es p n tag taken = first_from (is_free es p tag taken) 0 n

-- "Slot search: the lowest-numbered invalid entry, else the lowest NORMAL, else the lowest backup"; n where there is none
unfoldable pub free_slot : List ℕ → ℕ → ℕ → ℕ → ℕ
free_slot es p n taken =
    let i = lowest es p n INVALID taken in
    let j = lowest es p n NORMAL taken in
    let k = lowest es p n BACKUP taken in
    pick (ltb i n) i (pick (ltb j n) j k)

abbrev pub has_live : List ℕ → ℕ → ℕ → ℕ → Bool
has_live es p word i = is_live (copy_at es p i) word

-- the first of p's n entries that takes part in another's cycle: "NORMAL and surviving tentative copies"; else n
unfoldable pub live_entry : List ℕ → ℕ → ℕ → ℕ → ℕ
live_entry es p n word = first_from (has_live es p word) 0 n
