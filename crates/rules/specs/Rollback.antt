-- "Rollback", and the entries' part of COMMIT.
use Rattle.std.specs.Prelude.{List, ℕ, set}
use Rattle.laws.specs.Places.{apply_from}
use Rattle.entry.specs.declared.Entry.{Entry}
use Rattle.entry.specs.Packing.{pack, unpack}
use Rattle.entry.specs.Entry.{rolled_back, committed}
use Rattle.rules.specs.declared.Dims.{Dims}
use Rattle.rules.specs.declared.Caches.{Caches}
use Rattle.rules.specs.State.{caches, place, active_place, status_place, true_flag, false_flag, with_flags}

abbrev pub repacked : (Entry → Entry) → ℕ → ℕ
repacked f x = pack (f (unpack x))

-- each of p's n entries becomes f of it
abbrev pub over_entries : (Entry → Entry) → ℕ → ℕ → List ℕ → List ℕ
over_entries f p n es = apply_from (place p) (repacked f) 0 0 n es

-- "tentative entries become invalid, backups become NORMAL"
unfoldable pub rolled_entries : List ℕ → ℕ → ℕ → List ℕ
rolled_entries es p n = over_entries rolled_back p n es

-- "TSTATUS becomes false"
unfoldable pub status_down : List ℕ → ℕ → List ℕ
status_down fs p = set fs (status_place p) false_flag

abbrev pub rollback : Dims → ℕ → Caches → Caches
rollback d p s = caches s.memory s.lines (rolled_entries s.entries p d.entries) (status_down s.flags p)

-- "backups become invalid, tentative entries NORMAL"
unfoldable pub committed_entries : List ℕ → ℕ → ℕ → List ℕ
committed_entries es p n = over_entries committed p n es

-- "TACTIVE becomes true"
abbrev pub begun : ℕ → Caches → Caches
begun p s = with_flags s (set s.flags (active_place p) true_flag)

-- "COMMIT, ABORT and a FALSE leave TACTIVE false, TSTATUS true."
abbrev pub ended : ℕ → Caches → Caches
ended p s = with_flags s (set (set s.flags (active_place p) false_flag) (status_place p) true_flag)
