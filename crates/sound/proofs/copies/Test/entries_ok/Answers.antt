use Rattle.std.proofs.Common.{rules, tests}
use Rattle.rules.specs.SoundTest.{entry_ok, entries_ok}
use Rattle.sound.proofs.Every.{all_places}
use Rattle.sound.proofs.copies.Test.entries_ok.Goals as goal

pub returns : goal.returns
unfolding entries_ok
returns c =
    let t = c.args.self.now in
    all_places
    (λ p. entry_ok t.caches.now.memory t.notes.now.marks t.notes.now.owners t.caches.now.entries t.caches.now.flags t.dims p.1 p.0)
    _ _ _ c.all.ensures.ran t.caches.now.entries 512 (cc) (cc) (search rules) (λ x b q k. search (rules, tests))
