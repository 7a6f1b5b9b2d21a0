-- What happens to one copy of a word.
use Rattle.std.specs.Prelude.{Bool, ℕ, eqb, leb}
use Rattle.laws.specs.Choice.{pick, both, either}
use Rattle.entry.specs.declared.Entry.{Entry}
use Rattle.entry.specs.Numbers.{VALID, RESERVED, DIRTY, NORMAL, BACKUP, TENTATIVE, READ, RFO, WRITE, T_READ, T_RFO}
use Rattle.entry.specs.Packing.{entry, no_entry}

abbrev pub with_state : Entry → ℕ → Entry
with_state e s = entry s e.tag e.word e.«data»

abbrev pub with_tag : Entry → ℕ → Entry
with_tag e t = entry e.state t e.word e.«data»

-- "stores its value .. and makes it DIRTY"
abbrev pub stored : Entry → ℕ → Entry
stored e value = entry DIRTY e.tag e.word value

-- Rollback: "tentative entries become invalid, backups become NORMAL"
abbrev pub rolled_back : Entry → Entry
rolled_back e = pick (eqb e.tag TENTATIVE) no_entry (pick (eqb e.tag BACKUP) (with_tag e NORMAL) e)

-- COMMIT: "backups become invalid, tentative entries NORMAL"
abbrev pub committed : Entry → Entry
committed e = pick (eqb e.tag BACKUP) no_entry (pick (eqb e.tag TENTATIVE) (with_tag e NORMAL) e)

-- "RESERVED or DIRTY", the states above VALID
abbrev pub reserved_or_dirty : ℕ → Bool
reserved_or_dirty state = leb RESERVED state

-- "RESERVED and DIRTY become VALID"
abbrev pub shared : Entry → Entry
shared e = pick (reserved_or_dirty e.state) (with_state e VALID) e

-- an entry with the tag and the word
abbrev pub is_entry : Entry → ℕ → ℕ → Bool
is_entry e tag word = both (eqb e.tag tag) (eqb e.word word)

-- "NORMAL and surviving tentative copies take part"
abbrev pub is_live : Entry → ℕ → Bool
is_live e word = both (either (eqb e.tag NORMAL) (eqb e.tag TENTATIVE)) (eqb e.word word)

-- the cycles that leave other copies, and those that leave none
abbrev pub shares : ℕ → Bool
shares cycle = either (eqb cycle READ) (eqb cycle T_READ)

abbrev pub takes : ℕ → Bool
takes cycle = either (eqb cycle RFO) (either (eqb cycle WRITE) (eqb cycle T_RFO))

-- "READ or T_READ: RESERVED and DIRTY become VALID. RFO, T_RFO, WRITE: the copy becomes invalid."
abbrev pub snooped : ℕ → Entry → Entry
snooped cycle e = pick (shares cycle) (shared e) (pick (takes cycle) no_entry e)
