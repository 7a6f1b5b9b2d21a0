use Rattle.std.proofs.Common.{◌≡◌, ◌<◌, ◌-◌, ℕ, false}
use lib.Dec.{eqb}
use Rattle.entry.specs.Kinds.{tag_number}
use Rattle.rules.specs.Own.{is_free}
use Rattle.caches.proofs.lowest.Given as goal

abbrev pub ghost-first_entry : goal.ghost-first_entry
ghost-first_entry a = λ e tag. eqb e.tag (tag_number tag)

abbrev pub invariant-loop-i : goal.invariant-loop-i
invariant-loop-i l = (k : ℕ) → k < l.i → is_free l.c.entries l.p (tag_number l.tag) l.taken k ≡ false

abbrev pub decreases-loop-i : goal.decreases-loop-i
decreases-loop-i l = l.d.entries - l.i
