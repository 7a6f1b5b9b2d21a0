-- No second answer satisfies a contract of this crate, the final contents of all that is lent included. Each is stated on the contract's own
-- reading, `Post`. Assumes nothing.
use Rattle.laws.specs.OneAnswer.{OneAnswer}
use mathlib.Core.Path.{◌∙◌, sym}
use Rattle.rules.specs.State.{counted}
use Rattle.caches.proofs.holds.Reads as holds-reads
use Rattle.caches.proofs.find_entry.Reads as find-entry-reads
use Rattle.caches.proofs.live_entry.Reads as live-entry-reads
use Rattle.caches.proofs.own_entry.Reads as own-entry-reads
use Rattle.caches.proofs.free_slot.Reads as free-slot-reads
use Rattle.caches.proofs.rollback.Reads as rollback-reads
use Rattle.caches.proofs.commit_entries.Reads as commit-entries-reads
use Rattle.caches.proofs.write_back.Reads as write-back-reads
use Rattle.caches.proofs.clear_line.Reads as clear-line-reads
use Rattle.caches.proofs.clear_entry.Reads as clear-entry-reads

pub holds_unique : OneAnswer holds-reads.Post (λ κs r s. r)
holds_unique κs a r r' s s' p q = p ∙ sym q

pub find_entry_unique : OneAnswer find-entry-reads.Post (λ κs r s. r)
find_entry_unique κs a r r' s s' p q = p ∙ sym q

pub live_entry_unique : OneAnswer live-entry-reads.Post (λ κs r s. r)
live_entry_unique κs a r r' s s' p q = p ∙ sym q

pub own_entry_unique : OneAnswer own-entry-reads.Post (λ κs r s. r)
own_entry_unique κs a r r' s s' p q = p ∙ sym q

pub free_slot_unique : OneAnswer free-slot-reads.Post (λ κs r s. r)
free_slot_unique κs a r r' s s' p q = p ∙ sym q

pub rollback_unique : OneAnswer rollback-reads.Post (λ κs r s. s.0.now)
rollback_unique κs a r r' s s' p q = p ∙ sym q

pub commit_entries_unique : OneAnswer commit-entries-reads.Post (λ κs r s. s.0.now)
commit_entries_unique κs a r r' s s' p q = p ∙ sym q

pub write_back_unique : OneAnswer write-back-reads.Post (λ κs r s. counted r s.0.now)
write_back_unique κs a r r' s s' p q = p ∙ sym q

pub clear_line_unique : OneAnswer clear-line-reads.Post (λ κs r s. counted r s.0.now)
clear_line_unique κs a r r' s s' p q = p ∙ sym q

pub clear_entry_unique : OneAnswer clear-entry-reads.Post (λ κs r s. counted r s.0.now)
clear_entry_unique κs a r r' s s' p q = p ∙ sym q
