use Rattle.entry.specs.Entry.{committed}
use Rattle.caches.proofs.commit_entries.Given as goal

abbrev pub ghost-each_entry : goal.ghost-each_entry
ghost-each_entry a = committed
