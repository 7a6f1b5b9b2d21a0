use Rattle.std.proofs.Common.{◌∙◌, arith}
use mathlib.Core.Bool.{and_assoc}
use borrow.Author.Tests.{eq-eqb}
use Rattle.exports.specs.Array.{held_ok}
use Rattle.exports.proofs.Tested.{none_above_mid}
use Rattle.exports.proofs.array.held_ok.Goals as goal

pub returns : goal.returns
unfolding held_ok
returns c =
    let s = c.args.state.now in
    rw (
      eq-eqb _ _ c.told-state,
      ← (c.none_above.ensures ∙ none_above_mid s 0 4 12 16 (omega arith) (omega arith)),
      ← (c.none_above-2.ensures ∙ none_above_mid s 1 16 16 32 (omega arith) (omega arith)),
      ← (c.none_above-3.ensures ∙ none_above_mid s 0 32 224 256 (omega arith) (omega arith)),
      ← (c.none_above-4.ensures ∙ none_above_mid s 4294967295 256 256 512 (omega arith) (omega arith)),
      ← (c.none_above-5.ensures ∙ none_above_mid s 0 1536 512 2048 (omega arith) (omega arith)),
    )
    (simp and_assoc)
