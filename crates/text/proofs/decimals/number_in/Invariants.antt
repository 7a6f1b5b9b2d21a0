use Rattle.std.proofs.Common.{◌≡◌, ◌-◌, length, Some}
use Rattle.laws.specs.Fold.{fold_range}
use Rattle.text.specs.Decimals.{push_at, field_of}
use Rattle.text.proofs.decimals.number_in.Given as goal

abbrev pub invariant-loop-digit : goal.invariant-loop-digit
invariant-loop-digit l =
    fold_range (push_at l.field) l.digit-index (length l.field - l.digit-index) (Some l.number) ≡ field_of l.field 0 (length l.field)
