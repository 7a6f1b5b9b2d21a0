-- The test is true exactly when the state is sound. Assumes nothing.
use mathlib.Core.Path.{◌≡◌}
use mathlib.Core.Bool.{true}
use Rattle.rules.specs.declared.Dims.{Dims}
use Rattle.rules.specs.declared.Caches.{Caches}
use Rattle.rules.specs.Sound.{Sound}
use Rattle.rules.specs.SoundTest.{sound_of}
use Rattle.sound.proofs.Tested.{tested}
use Rattle.sound.proofs.Holds.{holds}
use Rattle.sound.proofs.Passed.{passed}

pub true_sound : (d : Dims) (s : Caches) → sound_of d s ≡ true → Sound d s
true_sound d s t = holds d s ((tested d s).0 t)

pub sound_true : (d : Dims) (s : Caches) → Sound d s → sound_of d s ≡ true
sound_true d s h = (tested d s).1 (passed d s h)
