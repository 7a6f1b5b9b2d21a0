use Rattle.std.proofs.Common.{◌∙◌, sym, arith}
use Rattle.machine.proofs.Answering.{settles_word}
use Rattle.machine.proofs.Fits.{sound_fit}
use Rattle.machine.proofs.settled.Goals as goal

pub returns : goal.returns
returns c =
    let sound = sym c.sound.ensures ∙ c.if-not-sound.false in
    settles_word _ sound c.args.word _ _ c.if-word-m.false
    (omega (arith, c.narrowed.ensures, (sound_fit _ _ sound).words, c.if-word-m.false)) c.settled_in.ensures
