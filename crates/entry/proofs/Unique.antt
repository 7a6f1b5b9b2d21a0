-- No second answer satisfies a contract of this crate, the final contents of all that is lent included. Each is stated on the contract's own
-- reading, `Post`. Assumes nothing.
use Rattle.laws.specs.OneAnswer.{OneAnswer}
use mathlib.Core.Path.{◌≡◌, refl, ◌∙◌, sym, ap}
use Prim.Native.Nat.{ℕ, ◌+◌, ◌-◌}
use native.Mathlib.Omega.{arith}
use lib.Dec.{eqb}
use Rattle.laws.specs.Choice.{pick}
use Rattle.entry.specs.declared.numbers.Op.{Op}
use Rattle.entry.specs.declared.numbers.Op.TheVariants.{Load, Store, Lt, Ltx, St, Commit, Abort, Validate, Interrupt, Other as OtherStep}
use Rattle.entry.specs.declared.numbers.Cycle.{Cycle}
use Rattle.entry.specs.declared.numbers.Cycle.TheVariants.{Read, Rfo, Write, TRead, TRfo, Other as OtherCycle}
use Rattle.entry.specs.declared.numbers.State.{State}
use Rattle.entry.specs.declared.numbers.Tag.{Tag}
use borrow.Author.Tests.{ne_eqb}
use Rattle.entry.specs.Kinds.{state_number, state_of, state_back, tag_number, tag_of, tag_back, cycle_number, step_number}
use Rattle.entry.proofs.answer.Counts.quiet.Reads as quiet-reads
use Rattle.entry.proofs.answer.Counts.asked.Reads as asked-reads
use Rattle.entry.proofs.numbers.Op.uses_word.Reads as op-uses-word-reads
use Rattle.entry.proofs.step.uses_word.Reads as uses-word-reads
use Rattle.entry.proofs.numbers.Cycle.takes.Reads as takes-reads
use Rattle.entry.proofs.Entry.regular.Reads as regular-reads
use Rattle.entry.proofs.answer.Answered.quiet.Reads as quiet-answer-reads
use Rattle.entry.proofs.numbers.State.is_reserved_or_dirty.Reads as is-reserved-or-dirty-reads
use Rattle.entry.proofs.Entry.none.Reads as none_reads
use Rattle.entry.proofs.Entry.unpack.Reads as unpack-reads
use Rattle.entry.proofs.Entry.pack.Reads as pack-reads
use Rattle.entry.proofs.Entry.with_state.Reads as with-state-reads
use Rattle.entry.proofs.Entry.with_tag.Reads as with-tag-reads
use Rattle.entry.proofs.Entry.stored.Reads as stored-reads
use Rattle.entry.proofs.packed.rolled_back.Reads as rolled-back-reads
use Rattle.entry.proofs.packed.committed.Reads as committed-reads
use Rattle.entry.proofs.Entry.snooped.Reads as snooped-reads
use Rattle.entry.proofs.packed.tag_of.Reads as tag-of-reads
use Rattle.entry.proofs.packed.has_word.Reads as has-word-reads
use Rattle.entry.proofs.packed.is_entry.Reads as is-entry-reads
use Rattle.entry.proofs.packed.is_live.Reads as is-live-reads
use Rattle.entry.proofs.answer.Answer.number.Reads as number-reads
use Rattle.entry.proofs.answer.Answer.value.Reads as value-reads
use Rattle.entry.proofs.answer.Answer.refusal.Reads as refusal-reads
use Rattle.entry.proofs.answer.Answer.is_refusal.Reads as is-refusal-reads
use Rattle.entry.proofs.answer.Answered.refused.Reads as refused-reads
use Rattle.entry.proofs.answer.Counts.cycles.Reads as cycles-reads

pub none_unique : OneAnswer none_reads.Post (λ κs r s. r)
none_unique κs a r r' s s' p q = p ∙ sym q

pub unpack_unique : OneAnswer unpack-reads.Post (λ κs r s. r)
unpack_unique κs a r r' s s' p q = p ∙ sym q

pub pack_unique : OneAnswer pack-reads.Post (λ κs r s. r)
pack_unique κs a r r' s s' p q = p ∙ sym q

pub with_state_unique : OneAnswer with-state-reads.Post (λ κs r s. r)
with_state_unique κs a r r' s s' p q = p ∙ sym q

pub with_tag_unique : OneAnswer with-tag-reads.Post (λ κs r s. r)
with_tag_unique κs a r r' s s' p q = p ∙ sym q

pub stored_unique : OneAnswer stored-reads.Post (λ κs r s. r)
stored_unique κs a r r' s s' p q = p ∙ sym q

pub rolled_back_unique : OneAnswer rolled-back-reads.Post (λ κs r s. r)
rolled_back_unique κs a r r' s s' p q = p ∙ sym q

pub committed_unique : OneAnswer committed-reads.Post (λ κs r s. r)
committed_unique κs a r r' s s' p q = p ∙ sym q

pub snooped_unique : OneAnswer snooped-reads.Post (λ κs r s. r)
snooped_unique κs a r r' s s' p q = p ∙ sym q

pub tag_of_unique : OneAnswer tag-of-reads.Post (λ κs r s. r)
tag_of_unique κs a r r' s s' p q = sym (tag_back r) ∙ (ap tag_of (p ∙ sym q) ∙ tag_back r')

pub has_word_unique : OneAnswer has-word-reads.Post (λ κs r s. r)
has_word_unique κs a r r' s s' p q = p ∙ sym q

pub is_entry_unique : OneAnswer is-entry-reads.Post (λ κs r s. r)
is_entry_unique κs a r r' s s' p q = p ∙ sym q

pub is_live_unique : OneAnswer is-live-reads.Post (λ κs r s. r)
is_live_unique κs a r r' s s' p q = p ∙ sym q

pub number_unique : OneAnswer number-reads.Post (λ κs r s. r)
number_unique κs a r r' s s' p q = p ∙ sym q

pub value_unique : OneAnswer value-reads.Post (λ κs r s. r)
value_unique κs a r r' s s' p q = p ∙ sym q

pub refusal_unique : OneAnswer refusal-reads.Post (λ κs r s. r)
refusal_unique κs a r r' s s' p q = p ∙ sym q

pub is_refusal_unique : OneAnswer is-refusal-reads.Post (λ κs r s. r)
is_refusal_unique κs a r r' s s' p q = p ∙ sym q

pub refused_unique : OneAnswer refused-reads.Post (λ κs r s. r)
refused_unique κs a r r' s s' p q = p ∙ sym q

pub cycles_unique : OneAnswer cycles-reads.Post (λ κs r s. r)
cycles_unique κs a r r' s s' p q = p ∙ sym q

pub quiet_unique : OneAnswer quiet-reads.Post (λ κs r s. r)
quiet_unique κs a r r' s s' p q = p ∙ sym q

pub asked_unique : OneAnswer asked-reads.Post (λ κs r s. r)
asked_unique κs a r r' s s' p q = p ∙ sym q

pub uses_word_unique : OneAnswer uses-word-reads.Post (λ κs r s. r)
uses_word_unique κs a r r' s s' p q = p ∙ sym q

pub op_uses_word_unique : OneAnswer op-uses-word-reads.Post (λ κs r s. r)
op_uses_word_unique κs a r r' s s' p q = p ∙ sym q

pub is_reserved_or_dirty_unique : OneAnswer is-reserved-or-dirty-reads.Post (λ κs r s. r)
is_reserved_or_dirty_unique κs a r r' s s' p q = p ∙ sym q

pub takes_unique : OneAnswer takes-reads.Post (λ κs r s. r)
takes_unique κs a r r' s s' p q = p ∙ sym q

pub regular_unique : OneAnswer regular-reads.Post (λ κs r s. r)
regular_unique κs a r r' s s' p q = p ∙ sym q

pub quiet_answer_unique : OneAnswer quiet-answer-reads.Post (λ κs r s. r)
quiet_answer_unique κs a r r' s s' p q = p ∙ sym q

-- a number is the number of one kind
op_of : ℕ → Op
op_of n =
    pick (eqb n 0) Load (pick (eqb n 1) Store (pick (eqb n 2) Lt (pick (eqb n 3) Ltx (pick (eqb n 4) St (pick (eqb n 5) Commit (pick (eqb n 6) Abort (pick (eqb n 7) Validate (pick (eqb n 8) Interrupt (OtherStep (n - 9))))))))))

op_back : (x : Op) → op_of (step_number x) ≡ x
unfolding op_of
op_back Load = refl
op_back Store = refl
op_back Lt = refl
op_back Ltx = refl
op_back St = refl
op_back Commit = refl
op_back Abort = refl
op_back Validate = refl
op_back Interrupt = refl
op_back (OtherStep k) =
    let m : (k + 9) - 9 ≡ k = omega arith in
    rw (
      ne_eqb (k + 9) 0 (λ e. absurd (omega (arith, e))),
      ne_eqb (k + 9) 1 (λ e. absurd (omega (arith, e))),
      ne_eqb (k + 9) 2 (λ e. absurd (omega (arith, e))),
      ne_eqb (k + 9) 3 (λ e. absurd (omega (arith, e))),
      ne_eqb (k + 9) 4 (λ e. absurd (omega (arith, e))),
      ne_eqb (k + 9) 5 (λ e. absurd (omega (arith, e))),
      ne_eqb (k + 9) 6 (λ e. absurd (omega (arith, e))),
      ne_eqb (k + 9) 7 (λ e. absurd (omega (arith, e))),
      ne_eqb (k + 9) 8 (λ e. absurd (omega (arith, e))),
      m,
    )

cycle_of : ℕ → Cycle
cycle_of n =
    pick (eqb n 0) Read (pick (eqb n 1) Rfo (pick (eqb n 2) Write (pick (eqb n 3) TRead (pick (eqb n 4) TRfo (OtherCycle (n - 5))))))

cycle_back : (x : Cycle) → cycle_of (cycle_number x) ≡ x
unfolding cycle_of
cycle_back Read = refl
cycle_back Rfo = refl
cycle_back Write = refl
cycle_back TRead = refl
cycle_back TRfo = refl
cycle_back (OtherCycle k) =
    let m : (k + 5) - 5 ≡ k = omega arith in
    rw (
      ne_eqb (k + 5) 0 (λ e. absurd (omega (arith, e))),
      ne_eqb (k + 5) 1 (λ e. absurd (omega (arith, e))),
      ne_eqb (k + 5) 2 (λ e. absurd (omega (arith, e))),
      ne_eqb (k + 5) 3 (λ e. absurd (omega (arith, e))),
      ne_eqb (k + 5) 4 (λ e. absurd (omega (arith, e))),
      m,
    )

pub state_number_unique : (n : ℕ) (x y : State) → state_number x ≡ n → state_number y ≡ n → x ≡ y
state_number_unique n x y p q = sym (state_back x) ∙ (ap state_of (p ∙ sym q) ∙ state_back y)

pub tag_number_unique : (n : ℕ) (x y : Tag) → tag_number x ≡ n → tag_number y ≡ n → x ≡ y
tag_number_unique n x y p q = sym (tag_back x) ∙ (ap tag_of (p ∙ sym q) ∙ tag_back y)

pub cycle_number_unique : (n : ℕ) (x y : Cycle) → cycle_number x ≡ n → cycle_number y ≡ n → x ≡ y
cycle_number_unique n x y p q = sym (cycle_back x) ∙ (ap cycle_of (p ∙ sym q) ∙ cycle_back y)

pub step_number_unique : (n : ℕ) (x y : Op) → step_number x ≡ n → step_number y ≡ n → x ≡ y
step_number_unique n x y p q = sym (op_back x) ∙ (ap op_of (p ∙ sym q) ∙ op_back y)
