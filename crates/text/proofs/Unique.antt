-- No second answer satisfies a contract of this crate, the final contents of all that is lent included. Each is stated on the contract's own
-- reading, `Post`. Assumes nothing.
use Rattle.laws.specs.OneAnswer.{OneAnswer}
use mathlib.Core.Path.{◌≡◌, ◌∙◌, sym, ap}
use contract.Lifetimes.{Lfts}
use borrow.Fn.World.{ArgsD, ResD}
use borrow.Fn.Kinds.{ended_of}
use denote.Triple.Clauses.{AtExit}
use Rattle.text.specs.Writing.{Filled}
use Rattle.text.proofs.Refused.{numbered_one}
use Rattle.text.proofs.records.record_end.Reads as record-end-reads
use Rattle.text.proofs.records.read_record.Reads as read-record-reads
use Rattle.text.proofs.decimals.read_number.Reads as read-number-reads
use Rattle.text.proofs.names.text_is.Reads as text-is-reads
use Rattle.text.specs.contracts.writing.put_bytes as put-bytes
use Rattle.text.proofs.writing.put_bytes.Kinds as put-bytes-kinds
use Rattle.text.proofs.writing.put_bytes.Reads as put-bytes-reads
use Rattle.text.specs.contracts.writing.put_number as put-number
use Rattle.text.proofs.writing.put_number.Kinds as put-number-kinds
use Rattle.text.proofs.writing.put_number.Reads as put-number-reads

pub record_end_unique : OneAnswer record-end-reads.Post (λ κs r s. r)
record_end_unique κs a r r' s s' p q = p ∙ sym q

pub read_record_unique : OneAnswer read-record-reads.Post (λ κs r s. r)
read_record_unique κs a r r' s s' p q = numbered_one r r' (p ∙ sym q)

pub read_number_unique : OneAnswer read-number-reads.Post (λ κs r s. r)
read_number_unique κs a r r' s s' p q = p ∙ sym q

pub text_is_unique : OneAnswer text-is-reads.Post (λ κs r s. r)
text_is_unique κs a r r' s s' p q = p ∙ sym q

pub put_bytes_unique : (κs : Lfts 2) (a : ArgsD put-bytes.signature κs) (r r' : ResD put-bytes.signature κs)
    (s s' : AtExit (ended_of 2 put-bytes-kinds.ps put-bytes-kinds.r) κs) → put-bytes-reads.Post κs a r s → put-bytes-reads.Post κs a r' s' →
    (r ≡ r') × (s.0.now ≡ s'.0.now)
put_bytes_unique κs a r r' s s' p q =
    let e = p ∙ sym q in
    (ap (λ (x : Filled). x.place) e, ap (λ (x : Filled). x.held) e)

pub put_number_unique : (κs : Lfts 1) (a : ArgsD put-number.signature κs) (r r' : ResD put-number.signature κs)
    (s s' : AtExit (ended_of 1 put-number-kinds.ps put-number-kinds.r) κs) → put-number-reads.Post κs a r s → put-number-reads.Post κs a r' s' →
    (r ≡ r') × (s.0.now ≡ s'.0.now)
put_number_unique κs a r r' s s' p q =
    let e = p ∙ sym q in
    (ap (λ (x : Filled). x.place) e, ap (λ (x : Filled). x.held) e)
