use Rattle.entry.specs.Entry.{rolled_back}
use Rattle.caches.proofs.rollback.Given as goal

abbrev pub ghost-each_entry : goal.ghost-each_entry
ghost-each_entry a = rolled_back
