use Rattle.std.proofs.Common.{◌∙◌, sym}
use Rattle.machine.proofs.Fits.{sound_fit}
use Rattle.machine.proofs.settle.Goals as goal

pub settled_all-requires : goal.settled_all-requires
settled_all-requires c = (sound_fit _ _ (sym c.sound.ensures ∙ c.if-not-sound.false)).words
