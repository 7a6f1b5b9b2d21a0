use Rattle.entry.specs.Entry.{is_live}
use Rattle.caches.proofs.live_entry.Given as goal

abbrev pub ghost-first_entry : goal.ghost-first_entry
ghost-first_entry a = is_live
