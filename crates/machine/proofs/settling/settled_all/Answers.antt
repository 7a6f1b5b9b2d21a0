use Rattle.std.proofs.Common.{◌∙◌, sym}
use native.Mathlib.Nat.{sub-zero}
use Rattle.laws.specs.Fold.{fold_end, fold_turn}
use Rattle.rules.specs.Step.{settled_all}
use Rattle.machine.proofs.settling.settled_all.Goals as goal

pub loop-word-init : goal.loop-word-init
unfolding settled_all
loop-word-init c = rw sub-zero

pub loop-word-preserved : goal.loop-word-preserved
loop-word-preserved c = rw c.settled_in.ensures (sym (fold_turn _ _ _ _ c.loop-word-test.true) ∙ c.loop-word.invariant)

pub returns : goal.returns
returns c = sym (fold_end _ _ _ _ c.loop-word-test.false) ∙ c.loop-word.invariant
