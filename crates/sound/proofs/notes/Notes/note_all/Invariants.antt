use mathlib.Core.Path.{◌≡◌}
use Prim.Native.Nat.{◌-◌}
use Rattle.laws.specs.Fold.{fold_range}
use Rattle.rules.specs.SoundTest.{mark_turn, mark_all, own_turn, own_all}
use Rattle.sound.specs.Kind.{kind_number}
use Rattle.sound.proofs.notes.Notes.note_all.Given as goal

abbrev pub invariant-loop-j : goal.invariant-loop-j
invariant-loop-j l = record {
  marks : fold_range (mark_turn (kind_number l.kind) l.copies) l.j (512 - l.j) l.self.marks ≡
      mark_all (kind_number l.kind) l.copies l.initial.self.marks;
  owners : fold_range (own_turn l.copies) l.j (512 - l.j) l.self.owners ≡ own_all l.copies l.initial.self.owners;
}
