-- "COMMIT", "ABORT", "VALIDATE" and "INTERRUPT".
use Rattle.std.specs.Prelude.{ℕ}
use Rattle.laws.specs.Choice.{pick}
use Rattle.entry.specs.declared.answer.Answer.TheVariants.{Done, Success, Failure, True, False}
use Rattle.entry.specs.Answer.{no_cycles}
use Rattle.rules.specs.declared.Dims.{Dims}
use Rattle.rules.specs.declared.Caches.{Caches}
use Rattle.rules.specs.State.{caches, Outcome, gives, TSTATUS}
use Rattle.rules.specs.Rollback.{rollback, committed_entries, ended}

-- "COMMIT with TSTATUS true: backups become invalid, tentative entries NORMAL, SUCCESS. With false: FAILURE."
unfoldable pub commit : Dims → ℕ → Caches → Outcome
commit d p s =
    let t = caches s.memory s.lines (committed_entries s.entries p d.entries) s.flags in
    pick (TSTATUS s p) (gives Success no_cycles (ended p t)) (gives Failure no_cycles (ended p s))

-- "ABORT: rollback."
unfoldable pub abort : Dims → ℕ → Caches → Outcome
abort d p s = gives Done no_cycles (ended p (rollback d p s))

-- "VALIDATE: TRUE and no change when TSTATUS is true; else FALSE."
unfoldable pub validate : ℕ → Caches → Outcome
validate p s = pick (TSTATUS s p) (gives True no_cycles s) (gives False no_cycles (ended p s))

-- "INTERRUPT: rollback, TACTIVE as it was."
unfoldable pub interrupt : Dims → ℕ → Caches → Outcome
interrupt d p s = gives Done no_cycles (rollback d p s)
