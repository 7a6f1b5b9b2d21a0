use Rattle.rules.specs.SoundTest.{copies_ok}
use Rattle.sound.proofs.copies_ok.Goals as goal

pub returns : goal.returns
unfolding copies_ok
returns c =
    rw (
      ← c.note_all.ensures.marks,
      ← c.note_all.ensures.owners,
      ← c.note_all-2.ensures.marks,
      ← c.note_all-2.ensures.owners,
      c.lines_ok.ensures,
      c.entries_ok.ensures,
    )
