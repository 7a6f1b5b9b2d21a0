use Rattle.std.proofs.Common.{rules, tests, ◌%◌, eqb, ltb, leb}
use Rattle.laws.specs.Choice.{pick}
use Rattle.rules.specs.SoundTest.{flags_ok}
use Rattle.sound.proofs.Every.{all_places}
use Rattle.sound.proofs.arrays.flags_ok.Goals as goal

pub returns : goal.returns
unfolding flags_ok
returns c =
    all_places (λ p. pick (ltb (p.0 % 8) c.args.processors) (leb p.1 1) (eqb p.1 0)) _ _ _ c.all.ensures.ran c.args.flags.now 16 (cc) (cc)
    (search rules) (λ x b q k. search (rules, tests))
