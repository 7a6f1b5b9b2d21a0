-- "LOAD", sentence by sentence from the last.
use Rattle.std.specs.Prelude.{ℕ, eqb, ltb}
use Rattle.laws.specs.Choice.{pick}
use Rattle.entry.specs.declared.answer.Answer.TheVariants.{Value}
use Rattle.entry.specs.Numbers.{INVALID, VALID, NORMAL, TENTATIVE, READ}
use Rattle.entry.specs.Packing.{entry}
use Rattle.entry.specs.Answer.{asked, no_cycles}
use Rattle.rules.specs.declared.Dims.{Dims}
use Rattle.rules.specs.declared.Caches.{Caches}
use Rattle.rules.specs.State.{Outcome, gives, line_at, entry_at, word_at, with_line}
use Rattle.rules.specs.Own.{home, holds, find_entry}
use Rattle.rules.specs.Rollback.{rollback}
use Rattle.rules.specs.Snoop.{writes, clear_line, plain_request}

-- "Otherwise the line's occupant is evicted (WRITE if DIRTY), READ is issued, the line becomes VALID."
unfoldable pub load_miss : Dims → ℕ → ℕ → Caches → Outcome
load_miss d p word s =
    let i = home d word in
    let t = plain_request d p word READ (clear_line s p i) in
    let v = word_at t word in
    gives (Value v) (asked READ (writes (line_at s p i)) 0) (with_line t p i (entry VALID INVALID word v))

-- "Own NORMAL copy: its data."
unfoldable pub load_on : Dims → ℕ → ℕ → Caches → Outcome
load_on d p word s =
    let i = find_entry s.entries p d.entries NORMAL word in
    pick (ltb i d.entries) (gives (Value (entry_at s p i).«data») no_cycles s) (load_miss d p word s)

-- "Own regular copy: its data. Own tentative copy VALID: its data. Own tentative copy RESERVED or DIRTY: own rollback, then go on."
unfoldable pub load : Dims → ℕ → ℕ → Caches → Outcome
load d p word s =
    let line = line_at s p (home d word) in
    let i = find_entry s.entries p d.entries TENTATIVE word in
    let tentative = entry_at s p i in
    pick (holds line word) (gives (Value line.«data») no_cycles s)
    (pick (ltb i d.entries)
    (pick (eqb tentative.state VALID)
    (gives (Value tentative.«data») no_cycles s)
    (load_on d p word (rollback d p s)))
    (load_on d p word s))
