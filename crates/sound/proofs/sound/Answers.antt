use Rattle.std.proofs.Common.{rules, tests, ◌≡◌, true}
use mathlib.Core.Bool.{and_assoc}
use Rattle.rules.specs.SoundTest.{lengths_ok, sound_of}
use Rattle.entry.proofs.Refused.{ok_accepted}
use Rattle.sound.proofs.sound.Goals as goal

pub returns : goal.returns
unfolding sound_of
returns c =
    let lengths : lengths_ok c.args.c.now ≡ true = search (rules, tests) in
    rw (
      lengths,
      c.flags_ok.ensures,
      c.memory_ok.ensures,
      c.copies_ok.ensures,
      ← c.dims_refusal.ensures,
      c.is_ok.ensures.value,
      ok_accepted,
    )
    (simp and_assoc)
