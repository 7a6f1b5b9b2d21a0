-- What accepted operands say, whatever the step's number.
use mathlib.Core.Path.{◌≡◌, refl}
use mathlib.Core.Bool.{Bool, true, false, not}
use Prim.Native.Nat.{◌<◌}
use native.Mathlib.Omega.{arith}
use lib.Dec.{ltb}
use borrow.Author.Tests.{ltb-true}
use Rattle.laws.specs.Choice.{pick, either}
use Rattle.entry.specs.declared.step.Step.{Step}
use Rattle.entry.specs.Refusals.{accepted, no_such_processor, no_such_word}
use Rattle.entry.specs.Step.{uses_word}
use Rattle.rules.specs.declared.Dims.{Dims}
use Rattle.rules.specs.Step.{operands_refusal}

pub accepted_processor : (d : Dims) (x : Step) → operands_refusal d x ≡ accepted → x.core < d.processors
unfolding operands_refusal
accepted_processor d x e = by (ltb x.core d.processors) refl e
  where
    by : (b : Bool) → ltb x.core d.processors ≡ b
        → pick b (pick (either (not (uses_word x.op)) (ltb x.word d.words)) accepted no_such_word) no_such_processor ≡ accepted
        → x.core < d.processors
    by true h e = ltb-true x.core d.processors h
    by false h e = absurd (omega (arith, e))
