use Rattle.entry.specs.Kinds.{tag_number}
use Rattle.entry.specs.Entry.{is_entry}
use Rattle.caches.proofs.find_from.Given as goal

abbrev pub ghost-first_entry : goal.ghost-first_entry
ghost-first_entry a = λ e key. is_entry e (tag_number key.0) key.1
