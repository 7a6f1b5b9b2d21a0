-- What one processor's copies hold of a word's settled value.
use Rattle.std.specs.Prelude.{Option, Some, None, ℕ}
use Rattle.laws.specs.Choice.{pick}
use Rattle.rules.specs.declared.Caches.{Caches}
use Rattle.rules.specs.declared.Dims.{Dims}
use Rattle.rules.specs.State.{line_at, entry_at}
use Rattle.rules.specs.Settled.{is_dirty, settling_entry, settles}

-- the data of q's copy that settles the word, its line being i: a line, else an entry
abbrev pub settling_value : Dims → ℕ → ℕ → Caches → ℕ → Option ℕ
settling_value d i word s q =
    let line = line_at s q i in
    let e = entry_at s q (settling_entry s.entries q d.entries word) in
    pick (settles d i word s.lines s.entries q) (Some (pick (is_dirty line word) line.«data» e.«data»)) None
