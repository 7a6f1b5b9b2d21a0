use Rattle.std.proofs.Common.{rules, tests}
use Rattle.rules.specs.SoundTest.{line_ok, lines_ok}
use Rattle.sound.proofs.Every.{all_places}
use Rattle.sound.proofs.copies.Test.lines_ok.Goals as goal

pub returns : goal.returns
unfolding lines_ok
returns c =
    let t = c.args.self.now in
    all_places (λ p. line_ok t.caches.now.memory t.notes.now.marks t.notes.now.owners t.dims p.1 p.0) _ _ _ c.all.ensures.ran
    t.caches.now.lines 512 (cc) (cc) (search rules) (λ x b q k. search (rules, tests))
