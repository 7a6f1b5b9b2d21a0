-- "LT, LTX, ST", whose numbered sentences are cited as 1 to 5.
use Rattle.std.specs.Prelude.{List, ℕ, ◌+◌, eqb, ltb}
use Rattle.laws.specs.Choice.{pick}
use Rattle.entry.specs.declared.Entry.{Entry}
use Rattle.entry.specs.declared.answer.Answer.TheVariants.{Value, Done, Aborted}
use Rattle.entry.specs.declared.answer.Counts.{Counts}
use Rattle.entry.specs.Numbers.{VALID, RESERVED, DIRTY, NORMAL, BACKUP, TENTATIVE, LT, ST, T_READ, T_RFO}
use Rattle.entry.specs.Packing.{entry}
use Rattle.entry.specs.Entry.{stored, with_tag, with_state}
use Rattle.entry.specs.Answer.{asked, quiet, no_cycles}
use Rattle.rules.specs.declared.Dims.{Dims}
use Rattle.rules.specs.declared.Caches.{Caches}
use Rattle.rules.specs.State.{caches, Outcome, gives, Counted, counted, line_at, entry_at, with_copy, with_entry, word_at, TSTATUS}
use Rattle.rules.specs.Own.{home, holds, find_entry, free_slot}
use Rattle.rules.specs.Rollback.{rollback, begun}
use Rattle.rules.specs.Snoop.{writes, written_back, clear_line, clear_entry, snoop, refuses}

-- 1: "Own regular copy, if any, is written back if DIRTY (a WRITE) and made invalid."
unfoldable pub drop_line : Dims → ℕ → ℕ → Caches → Counted
drop_line d p word s =
    let i = home d word in
    let line = line_at s p i in
    pick (holds line word) (counted (writes line) (clear_line s p i)) (counted 0 s)

-- 5: "ST then stores its value in the tentative entry alone and makes it DIRTY." LT and LTX answer its data.
unfoldable pub finish : ℕ → ℕ → ℕ → ℕ → Counts → Caches → Outcome
finish op p i v c s =
    let e = entry_at s p i in
    pick (eqb op ST) (gives Done c (with_entry s p i (stored e v))) (gives (Value e.«data») c s)

-- the request of LT, and of LTX and ST
abbrev pub request_of : ℕ → ℕ
request_of op = pick (eqb op LT) T_READ T_RFO

-- 4: "Refused: one BUSY is counted, rollback, ABORTED."
abbrev pub busy : Dims → ℕ → ℕ → ℕ → Caches → Outcome
busy d p cycle w s = gives Aborted (asked cycle w 1) (rollback d p s)

-- 3: "A VALID tentative entry issues T_RFO for LTX or ST. RESERVED or DIRTY issue nothing; nor does LT on a hit."
-- 5: "An upgrade makes the tentative entry RESERVED."
unfoldable pub hit : Dims → ℕ → ℕ → ℕ → ℕ → ℕ → ℕ → ℕ → Caches → Outcome
hit d op p i word v w1 w2 s =
    let e = entry_at s p i in
    let t = with_entry (snoop d p word T_RFO s) p i (with_state e RESERVED) in
    let silent = finish op p i v (quiet (w1 + w2)) s in
    pick (eqb op LT) silent
    (pick (eqb e.state VALID)
    (pick (refuses d p word T_RFO s.entries)
    (busy d p T_RFO (w1 + w2) s)
    (finish op p i v (asked T_RFO (w1 + w2) 0) t))
    silent)

-- 2: "Own NORMAL entry: it becomes tentative and a slot is sought for a backup, which is a copy. If no slot is found and the entry is
-- DIRTY, it is written back and becomes RESERVED." Slot search: "a DIRTY victim is written back".
unfoldable pub open_normal : Dims → ℕ → ℕ → Caches → Counted
open_normal d p i s =
    let e = entry_at s p i in
    let b = free_slot s.entries p d.entries i in
    let victim = entry_at s p b in
    let alone : ℕ = pick (eqb e.state DIRTY) RESERVED e.state in
    pick (ltb b d.entries)
    (counted (writes victim)
    (caches (written_back s.memory victim) s.lines
    (with_copy (with_copy s.entries p b (with_tag e BACKUP)) p i (with_tag e TENTATIVE))
    s.flags))
    (counted (writes e)
    (caches (written_back s.memory e) s.lines
    (with_copy s.entries p i (with_state (with_tag e TENTATIVE) alone))
    s.flags))

-- 2: "Then a slot is sought for a backup; if none, there is no backup."
unfoldable pub clear_backup : Dims → ℕ → ℕ → Caches → Counted
clear_backup d p b s = pick (ltb b d.entries) (counted (writes (entry_at s p b)) (clear_entry s p b)) (counted 0 s)

-- the backup e in slot b, if there is one
unfoldable pub fill_backup : Dims → ℕ → ℕ → Entry → List ℕ → List ℕ
fill_backup d p b e es = pick (ltb b d.entries) (with_copy es p b e) es

-- 5: "On a miss both entries receive the data, VALID for T_READ, RESERVED for T_RFO."
unfoldable pub fill : Dims → ℕ → ℕ → ℕ → ℕ → ℕ → ℕ → ℕ → ℕ → Caches → Outcome
fill d op p i b word supplied v w s =
    let state : ℕ = pick (eqb op LT) VALID RESERVED in
    finish op p i v (asked (request_of op) w 0)
    (caches s.memory s.lines
    (fill_backup d p b (entry state BACKUP word supplied) (with_copy s.entries p i (entry state TENTATIVE word supplied)))
    s.flags)

-- 3: "A miss issues T_READ for LT and T_RFO for LTX or ST." 4: "slots taken on a miss end invalid": they are invalid here.
unfoldable pub request : Dims → ℕ → ℕ → ℕ → ℕ → ℕ → ℕ → ℕ → Caches → Outcome
request d op p i b word v w s =
    let t = snoop d p word (request_of op) s in
    pick (refuses d p word (request_of op) s.entries)
    (busy d p (request_of op) w s)
    (fill d op p i b word (word_at t word) v w t)

-- a miss that takes slot i: both slots are found and cleared, then the bus is asked
unfoldable pub miss_at : Dims → ℕ → ℕ → ℕ → ℕ → ℕ → ℕ → Caches → Outcome
miss_at d op p i word v w1 s =
    let t = clear_entry s p i in
    let b = free_slot t.entries p d.entries i in
    let k = clear_backup d p b t in
    request d op p i b word v (w1 + writes (entry_at s p i) + k.writes) k.after

-- 2: "Neither: a slot is sought for the tentative entry; if none, rollback and ABORTED with no request cycle."
unfoldable pub miss : Dims → ℕ → ℕ → ℕ → ℕ → ℕ → Caches → Outcome
miss d op p word v w1 s =
    let i = free_slot s.entries p d.entries d.entries in
    pick (ltb i d.entries) (miss_at d op p i word v w1 s) (gives Aborted (quiet w1) (rollback d p s))

-- 2: "Own tentative entry: use it."
unfoldable pub seek : Dims → ℕ → ℕ → ℕ → ℕ → Counted → Outcome
seek d op p word v k =
    let s = k.after in
    let i = find_entry s.entries p d.entries TENTATIVE word in
    let j = find_entry s.entries p d.entries NORMAL word in
    let o = open_normal d p j s in
    pick (ltb i d.entries) (hit d op p i word v k.writes 0 s)
    (pick (ltb j d.entries) (hit d op p j word v k.writes o.writes o.after)
    (miss d op p word v k.writes s))

-- "TACTIVE becomes true. If TSTATUS is false: ABORTED, no cycles."
unfoldable pub transact : Dims → ℕ → ℕ → ℕ → ℕ → Caches → Outcome
transact d op p word v s =
    let t = begun p s in
    pick (TSTATUS t p) (seek d op p word v (drop_line d p word t)) (gives Aborted no_cycles t)
