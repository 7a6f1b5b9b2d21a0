use mathlib.Core.Path.{◌∙◌, sym}
use Rattle.laws.specs.Places.{apply_end, apply_turn}
use Rattle.caches.proofs.each_entry.Goals as goal
use borrow.Author.Rules.{rules}

pub loop-i-preserved : goal.loop-i-preserved
loop-i-preserved g c =
    rw (c.place-j.ensures, c.requires.1.1 _ _ (search rules) c.f.ensures, c.place-j.ensures)
    (sym (apply_turn _ _ _ _ _ _ (search rules)) ∙ c.loop-i.invariant)

pub returns : goal.returns
returns g c = sym (apply_end _ _ _ _ _ _ (search rules)) ∙ c.loop-i.invariant
