-- "STORE".
use Rattle.std.specs.Prelude.{ℕ, ◌+◌, eqb, ltb, set}
use Rattle.laws.specs.Choice.{pick}
use Rattle.entry.specs.declared.answer.Answer.TheVariants.{Done}
use Rattle.entry.specs.Numbers.{INVALID, VALID, RESERVED, DIRTY, NORMAL, TENTATIVE, RFO, WRITE}
use Rattle.entry.specs.Packing.{entry}
use Rattle.entry.specs.Answer.{asked, quiet}
use Rattle.rules.specs.declared.Dims.{Dims}
use Rattle.rules.specs.declared.Caches.{Caches}
use Rattle.rules.specs.State.{Outcome, gives, Counted, counted, line_at, entry_at, with_line, with_memory}
use Rattle.rules.specs.Own.{home, holds, find_entry}
use Rattle.rules.specs.Rollback.{rollback}
use Rattle.rules.specs.Snoop.{writes, clear_line, clear_entry, plain_request}

-- "Own tentative copy: own rollback."
unfoldable pub roll_own : Dims → ℕ → ℕ → Caches → Caches
roll_own d p word s =
    pick (ltb (find_entry s.entries p d.entries TENTATIVE word) d.entries) (rollback d p s) s

-- "Own NORMAL copy: written back if DIRTY, made invalid."
unfoldable pub drop_normal : Dims → ℕ → ℕ → Caches → Counted
drop_normal d p word s =
    let i = find_entry s.entries p d.entries NORMAL word in
    pick (ltb i d.entries) (counted (writes (entry_at s p i)) (clear_entry s p i)) (counted 0 s)

-- "VALID: WRITE with the new value, RESERVED." Memory has the value by that WRITE.
unfoldable pub store_through : Dims → ℕ → ℕ → ℕ → ℕ → Caches → Outcome
store_through d p word v w s =
    let t = plain_request d p word WRITE s in
    gives Done (asked WRITE w 0)
    (with_line (with_memory t (set t.memory word v)) p (home d word) (entry RESERVED INVALID word v))

-- "Miss: evict as above, RFO, store, DIRTY."
unfoldable pub store_miss : Dims → ℕ → ℕ → ℕ → ℕ → Caches → Outcome
store_miss d p word v w s =
    let i = home d word in
    let t = plain_request d p word RFO (clear_line s p i) in
    gives Done (asked RFO (w + writes (line_at s p i)) 0) (with_line t p i (entry DIRTY INVALID word v))

-- "Regular copy RESERVED or DIRTY: store, DIRTY."
unfoldable pub store_line : Dims → ℕ → ℕ → ℕ → Counted → Outcome
store_line d p word v k =
    let s = k.after in
    let i = home d word in
    let line = line_at s p i in
    pick (holds line word)
    (pick (eqb line.state VALID)
    (store_through d p word v k.writes s)
    (gives Done (quiet k.writes) (with_line s p i (entry DIRTY INVALID word v))))
    (store_miss d p word v k.writes s)

-- STORE: its three sentences, one after the other
unfoldable pub store : Dims → ℕ → ℕ → ℕ → Caches → Outcome
store d p word v s = store_line d p word v (drop_normal d p word (roll_own d p word s))
