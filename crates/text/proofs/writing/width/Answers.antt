use Rattle.std.proofs.Common.{◌≡◌, refl, ◌∙◌, sym, arith, rules}
use Rattle.text.specs.Writing.{width_of}
use Rattle.text.proofs.Puts.{width_end, width_stop, width_turn}
use Rattle.text.proofs.writing.width.Goals as goal

pub loop-w-init : goal.loop-w-init
unfolding width_of
loop-w-init c = refl

pub loop-w-preserved : goal.loop-w-preserved
loop-w-preserved c = sym (width_turn _ _ (search rules) (search rules)) ∙ c.loop-w.invariant

pub returns-then-rest-lt10 : goal.returns-then-rest-lt10
returns-then-rest-lt10 c = sym (width_stop _ c.loop-w.rest (search rules) (search rules)) ∙ c.loop-w.invariant

pub returns : goal.returns
returns c = let e : c.loop-w.w ≡ 20 = omega arith in rw e at (sym (width_end _ c.loop-w.rest (omega arith)) ∙ c.loop-w.invariant)
