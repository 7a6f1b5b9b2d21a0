-- "The settled value of a word is the data of a DIRTY regular, NORMAL or backup entry, else memory's."
use Rattle.std.specs.Prelude.{Bool, List, ℕ, eqb, ltb}
use Rattle.laws.specs.Choice.{pick, both, either}
use Rattle.laws.specs.Search.{first_from}
use Rattle.entry.specs.declared.Entry.{Entry}
use Rattle.entry.specs.Numbers.{DIRTY, NORMAL, BACKUP}
use Rattle.rules.specs.declared.Dims.{Dims}
use Rattle.rules.specs.declared.Caches.{Caches}
use Rattle.rules.specs.State.{copy_at, line_at, entry_at, word_at}
use Rattle.rules.specs.Own.{home}

abbrev pub is_dirty : Entry → ℕ → Bool
is_dirty e word = both (eqb e.state DIRTY) (eqb e.word word)

abbrev pub is_settling : Entry → ℕ → Bool
is_settling e word = both (either (eqb e.tag NORMAL) (eqb e.tag BACKUP)) (is_dirty e word)

abbrev pub has_settling : List ℕ → ℕ → ℕ → ℕ → Bool
has_settling es q word i = is_settling (copy_at es q i) word

-- the first of q's n entries that is NORMAL or a backup, DIRTY, and of the word; else n
unfoldable pub settling_entry : List ℕ → ℕ → ℕ → ℕ → ℕ
settling_entry es q n word = first_from (has_settling es q word) 0 n

-- whether a copy of q's is the word's settled value, the word's line being i
unfoldable pub settles : Dims → ℕ → ℕ → List ℕ → List ℕ → ℕ → Bool
settles d i word ls es q =
    let b = ltb (settling_entry es q d.entries word) d.entries in
    either (is_dirty (copy_at ls q i) word) b

unfoldable pub settler : Dims → ℕ → ℕ → List ℕ → List ℕ → ℕ
settler d i word ls es = first_from (settles d i word ls es) 0 d.processors

unfoldable pub settled_in : Dims → ℕ → Caches → ℕ
settled_in d word s =
    let i = home d word in
    let q = settler d i word s.lines s.entries in
    let line = line_at s q i in
    let e = entry_at s q (settling_entry s.entries q d.entries word) in
    pick (ltb q d.processors) (pick (is_dirty line word) line.«data» e.«data») (word_at s word)
