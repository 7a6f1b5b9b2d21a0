use Rattle.std.proofs.Common.{◌≡◌, ◌∙◌, sym, arith, Some, None, length, get_or}
use Rattle.laws.specs.Fold.{fold_end, fold_turn}
use Rattle.text.specs.Decimals.{push, push_at}
use Rattle.text.proofs.FieldBytes.{first_none, first_zero, first_other, fold_bad}
use Rattle.text.proofs.decimals.number_in.Goals as goal

pub returns-in_err-first : goal.returns-in_err-first
returns-in_err-first c = c.from_residual.ensures ∙ sym (first_none _ (sym c.in_err-first.ensures.value))

pub returns-then-branch-eq-DIGIT_ZERO : goal.returns-then-branch-eq-DIGIT_ZERO
returns-then-branch-eq-DIGIT_ZERO c = c.then_some.ensures ∙ sym (first_zero _ _ (sym c.in_ok-first.ensures.value) c.if-branch-eq-DIGIT_ZERO.true)

pub loop-digit-init : goal.loop-digit-init
loop-digit-init c = sym (first_other _ _ (sym c.in_ok-first.ensures.value) c.if-branch-eq-DIGIT_ZERO.false)

pub loop-digit-preserved : goal.loop-digit-preserved
loop-digit-preserved c =
    let l = c.loop-digit in
    let f = c.args.field.now in
    rw c.in_ok-number.ensures (sym (fold_turn (push_at f) l.digit-index (length f) (Some l.number) (omega arith)) ∙ l.invariant)

pub returns-in_err-number : goal.returns-in_err-number
returns-in_err-number c =
    let l = c.loop-digit in
    let f = c.args.field.now in
    let e : push (get_or f l.digit-index 0) (Some l.number) ≡ None = sym c.pushed.ensures ∙ c.in_err-number.was in
    c.from_residual-in_err-number.ensures
    ∙ sym (fold_turn (push_at f) l.digit-index (length f) (Some l.number) (omega arith) ∙ rw e (fold_bad f _ _))
    ∙ l.invariant

pub returns : goal.returns
returns c =
    let l = c.loop-digit in
    sym (fold_end (push_at c.args.field.now) l.digit-index (length c.args.field.now) (Some l.number) (omega arith)) ∙ l.invariant
