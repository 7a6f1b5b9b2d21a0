-- No second answer satisfies a contract of this crate, the final contents of the buffer included. Each is stated on the contract's own
-- reading, `Post`. Assumes nothing.
use Rattle.laws.specs.OneAnswer.{OneAnswer}
use mathlib.Core.Path.{◌∙◌, sym}
use Rattle.listing.specs.Replay.{piece_left_by}
use Rattle.listing.proofs.begin.Reads as begin-reads
use Rattle.listing.proofs.next_piece.Reads as next-piece-reads

pub begin_unique : OneAnswer begin-reads.Post (λ κs r s. r)
begin_unique κs a r r' s s' p q = p ∙ sym q

pub next_piece_unique : OneAnswer next-piece-reads.Post (λ κs r s. piece_left_by r s.1.0.now)
next_piece_unique κs a r r' s s' p q = p ∙ sym q
