use Rattle.std.proofs.Common.{◌≡◌, ◌∙◌, arith, rules}
use Rattle.text.specs.Writing.{digits}
use Rattle.text.proofs.Puts.{digits_length, digits_step, sets_all}
use Rattle.text.proofs.writing.fill_digits.Goals as goal

pub loop-i-init : goal.loop-i-init
loop-i-init c = sets_all _ _ (digits_length _ _)

pub loop-i-preserved : goal.loop-i-preserved
loop-i-preserved c = rw c.digit.ensures (digits_step _ _ _ (search rules)) ∙ c.loop-i.invariant

pub returns : goal.returns
unfolding digits
returns c = let e : c.loop-i.i ≡ 0 = omega (arith, c.loop-i-test.false) in rw e at c.loop-i.invariant
