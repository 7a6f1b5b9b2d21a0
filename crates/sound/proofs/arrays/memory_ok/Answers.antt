use Rattle.std.proofs.Common.{rules, tests, ℕ, Bool, eqb, ◌∙◌}
use borrow.Author.Tests.{lt-leb}
use Rattle.rules.specs.SoundTest.{bad_word, memory_ok}
use Rattle.std.proofs.lemmas.Iterator.{YieldsList-from_slice}
use Rattle.std.proofs.lemmas.Iterator.Search.{all_from_yields_List}
use Rattle.sound.proofs.Every.{every_past, every_rest}
use Rattle.sound.proofs.arrays.memory_ok.Goals as goal

pub returns-then-words-le256 : goal.returns-then-words-le256
unfolding memory_ok
returns-then-words-le256 c =
    let test : ℕ → Bool = λ x. eqb x 0 in
    all_from_yields_List test _ _ c.all.result c.all.ensures.ran (YieldsList-from_slice _ c.iter.ensures.rest)
    (λ x b q k. search (rules, tests)) ∙ every_rest test c.args.memory.now c.args.words 256 (search rules) (search rules)

pub returns-else-words-le256 : goal.returns-else-words-le256
unfolding memory_ok
returns-else-words-le256 c =
    rw (lt-leb _ _ c.if-words-le256.false) (every_past (bad_word c.args.memory.now) c.args.words 256 c.if-words-le256.false)
