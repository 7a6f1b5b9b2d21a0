-- No second answer satisfies a contract of this crate, the final contents of all that is lent included. Each is stated on the contract's own
-- reading, `Post`. Assumes nothing.
use Rattle.laws.specs.OneAnswer.{OneAnswer}
use mathlib.Core.Path.{◌∙◌, sym}
use Rattle.rules.proofs.place.Reads as place-reads
use Rattle.rules.proofs.Dims.home.Reads as home-reads
use Rattle.rules.proofs.Caches.line_at.Reads as line-at-reads
use Rattle.rules.proofs.Caches.entry_at.Reads as entry-at-reads
use Rattle.rules.proofs.Caches.word_at.Reads as word-at-reads
use Rattle.rules.proofs.Caches.is_status_up.Reads as is-status-up-reads
use Rattle.rules.proofs.Caches.put_line.Reads as put-line-reads
use Rattle.rules.proofs.Caches.put_entry.Reads as put-entry-reads
use Rattle.rules.proofs.narrowed.Reads as narrowed-reads

pub place_unique : OneAnswer place-reads.Post (λ κs r s. r)
place_unique κs a r r' s s' p q = p ∙ sym q

pub narrowed_unique : OneAnswer narrowed-reads.Post (λ κs r s. r)
narrowed_unique κs a r r' s s' p q = p ∙ sym q

pub line_at_unique : OneAnswer line-at-reads.Post (λ κs r s. r)
line_at_unique κs a r r' s s' p q = p ∙ sym q

pub entry_at_unique : OneAnswer entry-at-reads.Post (λ κs r s. r)
entry_at_unique κs a r r' s s' p q = p ∙ sym q

pub word_at_unique : OneAnswer word-at-reads.Post (λ κs r s. r)
word_at_unique κs a r r' s s' p q = p ∙ sym q

pub is_status_up_unique : OneAnswer is-status-up-reads.Post (λ κs r s. r)
is_status_up_unique κs a r r' s s' p q = p ∙ sym q

pub put_line_unique : OneAnswer put-line-reads.Post (λ κs r s. s.0.now)
put_line_unique κs a r r' s s' p q = p ∙ sym q

pub put_entry_unique : OneAnswer put-entry-reads.Post (λ κs r s. s.0.now)
put_entry_unique κs a r r' s s' p q = p ∙ sym q

pub home_unique : OneAnswer home-reads.Post (λ κs r s. r)
home_unique κs a r r' s s' p q = p ∙ sym q
