use mathlib.Core.Path.{refl, ◌∙◌, sym}
use Rattle.laws.specs.Fold.{fold_end, fold_turn}
use Rattle.rules.specs.SoundTest.{mark_all, own_all}
use borrow.Author.Rules.{rules}
use Rattle.sound.proofs.notes.Notes.note_all.Goals as goal

pub loop-j-init : goal.loop-j-init
unfolding mark_all own_all
loop-j-init c = record { marks = refl; owners = refl }

pub loop-j-preserved : goal.loop-j-preserved
loop-j-preserved c = record {
  marks = rw c.note_one.ensures.mark (sym (fold_turn _ _ _ _ (search rules)) ∙ c.loop-j.invariant.marks);
  owners = rw c.note_one.ensures.owner (sym (fold_turn _ _ _ _ (search rules)) ∙ c.loop-j.invariant.owners);
}

pub returns-clause-marks : goal.returns-clause-marks
returns-clause-marks c = sym (fold_end _ _ _ _ (search rules)) ∙ c.loop-j.invariant.marks

pub returns-clause-owners : goal.returns-clause-owners
returns-clause-owners c = sym (fold_end _ _ _ _ (search rules)) ∙ c.loop-j.invariant.owners
