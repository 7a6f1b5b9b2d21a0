use Prim.Native.Nat.{◌-◌}
use mathlib.Core.Path.{◌≡◌}
use Rattle.laws.specs.Places.{apply_from}
use Rattle.rules.specs.State.{place}
use Rattle.rules.specs.Rollback.{repacked, over_entries}
use Rattle.caches.proofs.each_entry.Given as goal

abbrev pub invariant-loop-i : goal.invariant-loop-i
invariant-loop-i g l =
    apply_from (place l.p) (repacked g.g) 0 l.i (l.i-end - l.i) l.entries ≡ over_entries g.g l.p l.i-end l.initial.entries
