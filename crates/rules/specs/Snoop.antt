-- "Refusing the bus" and "Other caches": what a request of processor p does to the others, and what a copy given up leaves.
use Rattle.std.specs.Prelude.{Bool, false, not, List, ℕ, eqb, ltb, set}
use Rattle.laws.specs.Choice.{pick, both, either}
use Rattle.laws.specs.Fold.{fold_range}
use Rattle.laws.specs.Search.{first_from}
use Rattle.entry.specs.declared.Entry.{Entry}
use Rattle.entry.specs.Numbers.{DIRTY, TENTATIVE}
use Rattle.entry.specs.Packing.{no_entry}
use Rattle.entry.specs.Entry.{reserved_or_dirty, takes, snooped}
use Rattle.rules.specs.declared.Dims.{Dims}
use Rattle.rules.specs.declared.Caches.{Caches}
use Rattle.rules.specs.State.{caches, copy_at, with_copy, line_at, entry_at}
use Rattle.rules.specs.Own.{home, holds, find_entry, live_entry}
use Rattle.rules.specs.Rollback.{rollback}

-- memory takes a DIRTY copy's data
unfoldable pub written_back : List ℕ → Entry → List ℕ
written_back memory e = pick (eqb e.state DIRTY) (set memory e.word e.«data») memory

-- "written back if DIRTY (a WRITE)"
unfoldable pub writes : Entry → ℕ
writes e = pick (eqb e.state DIRTY) 1 0

-- a copy is written back if DIRTY, and made invalid
abbrev pub clear_line : Caches → ℕ → ℕ → Caches
clear_line s p i =
    caches (written_back s.memory (line_at s p i)) (with_copy s.lines p i no_entry) s.entries s.flags

abbrev pub clear_entry : Caches → ℕ → ℕ → Caches
clear_entry s p i =
    caches (written_back s.memory (entry_at s p i)) s.lines (with_copy s.entries p i no_entry) s.flags

-- "A DIRTY copy supplies the data and memory takes it, with no WRITE counted": processor q's regular copy, the word's line being i
unfoldable pub snoop_line : ℕ → ℕ → ℕ → ℕ → Caches → Caches
snoop_line i word cycle q s =
    let e = line_at s q i in
    let t = caches (written_back s.memory e) (with_copy s.lines q i (snooped cycle e)) s.entries s.flags in
    pick (holds e word) t s

-- and its NORMAL or tentative one
unfoldable pub snoop_entry : Dims → ℕ → ℕ → ℕ → Caches → Caches
snoop_entry d word cycle q s =
    let i = live_entry s.entries q d.entries word in
    let e = entry_at s q i in
    let t = caches (written_back s.memory e) s.lines (with_copy s.entries q i (snooped cycle e)) s.flags in
    pick (ltb i d.entries) t s

-- processor q takes part, unless it is p
unfoldable pub snoop_one : Dims → ℕ → ℕ → ℕ → ℕ → ℕ → Caches → Caches
snoop_one d i p word cycle q s = pick (eqb q p) s (snoop_entry d word cycle q (snoop_line i word cycle q s))

-- "Regular, NORMAL and surviving tentative copies take part", of every processor but p
unfoldable pub snoop : Dims → ℕ → ℕ → ℕ → Caches → Caches
snoop d p word cycle s = fold_range (snoop_one d (home d word) p word cycle) 0 d.processors s

-- whether q's tentative copy stands against a cycle: any does against one that takes the word, one "RESERVED or DIRTY" against every cycle
unfoldable pub opposes : Dims → ℕ → ℕ → ℕ → List ℕ → Bool
opposes d word cycle q es =
    let i = find_entry es q d.entries TENTATIVE word in
    let e = copy_at es q i in
    pick (ltb i d.entries) (either (takes cycle) (reserved_or_dirty e.state)) false

abbrev pub other_opposes : Dims → ℕ → ℕ → ℕ → List ℕ → ℕ → Bool
other_opposes d p word cycle es q = both (not (eqb q p)) (opposes d word cycle q es)

-- the first other processor that opposes, else how many there are
unfoldable pub first_opposing : Dims → ℕ → ℕ → ℕ → List ℕ → ℕ
first_opposing d p word cycle es = first_from (other_opposes d p word cycle es) 0 d.processors

-- "Another processor refuses T_READ if it holds the word tentatively RESERVED or DIRTY, and T_RFO if it holds it tentatively at all."
unfoldable pub refuses : Dims → ℕ → ℕ → ℕ → List ℕ → Bool
refuses d p word cycle es = ltb (first_opposing d p word cycle es) d.processors

-- processor q is rolled back where it opposes
unfoldable pub roll_one : Dims → ℕ → ℕ → ℕ → ℕ → Caches → Caches
roll_one d p word cycle q s = pick (other_opposes d p word cycle s.entries q) (rollback d q s) s

-- "READ first rolls back every other processor that holds the word tentatively RESERVED or DIRTY. RFO and WRITE first roll back every
-- other that holds it tentatively"
unfoldable pub roll_others : Dims → ℕ → ℕ → ℕ → Caches → Caches
roll_others d p word cycle s = fold_range (roll_one d p word cycle) 0 d.processors s

-- a plain access's cycle
unfoldable pub plain_request : Dims → ℕ → ℕ → ℕ → Caches → Caches
plain_request d p word cycle s = snoop d p word cycle (roll_others d p word cycle s)
