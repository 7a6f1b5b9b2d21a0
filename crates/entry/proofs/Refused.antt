-- A refusal's number tells which it is, and 0 that there is none. Assumes nothing.
use mathlib.Core.Path.{◌≡◌, refl, sym, ◌∙◌, ap}
use mathlib.Core.Bool.{false}
use Prim.Native.Nat.{ℕ}
use lib.Dec.{eqb}
use Rattle.std.specs.Prelude.{Result, Ok, Err}
use Rattle.std.specs.Result.{is_ok}
use Rattle.laws.specs.Choice.{pick}
use Rattle.entry.specs.declared.refusals.Refusal.{Refusal}
use Rattle.entry.specs.declared.refusals.Refusal.TheVariants.{BadProcessors, BadWords, BadLines, BadEntries, BadMemory}
use Rattle.entry.specs.declared.refusals.Refusal.TheVariants.{NotSound, BadColumns, NoSuchStep, NoSuchProcessor, NoSuchWord}
use Rattle.entry.specs.declared.refusals.Refusal.TheVariants.{Malformed, NotRising, WrongHeader, TooLong}
use Rattle.entry.specs.Refusals.{accepted, number_of, refused_as}

abbrev pub refusal_from : ℕ → Refusal
refusal_from n =
    pick (eqb n 1) BadProcessors
    (pick (eqb n 2) BadWords
    (pick (eqb n 3) BadLines
    (pick (eqb n 4) BadEntries
    (pick (eqb n 5) BadMemory
    (pick (eqb n 6) NoSuchStep
    (pick (eqb n 7) NoSuchProcessor
    (pick (eqb n 8) NoSuchWord
    (pick (eqb n 9) NotSound
    (pick (eqb n 10) BadColumns
    (pick (eqb n 11) Malformed (pick (eqb n 12) NotRising (pick (eqb n 13) WrongHeader TooLong))))))))))))

-- and the number is none that stands for no refusal
pub refusal_back : (r : Refusal) → (refusal_from (number_of r) ≡ r) × (eqb (number_of r) accepted ≡ false)
refusal_back BadProcessors = (refl, refl)
refusal_back BadWords = (refl, refl)
refusal_back BadLines = (refl, refl)
refusal_back BadEntries = (refl, refl)
refusal_back BadMemory = (refl, refl)
refusal_back NotSound = (refl, refl)
refusal_back BadColumns = (refl, refl)
refusal_back NoSuchStep = (refl, refl)
refusal_back NoSuchProcessor = (refl, refl)
refusal_back NoSuchWord = (refl, refl)
refusal_back Malformed = (refl, refl)
refusal_back NotRising = (refl, refl)
refusal_back WrongHeader = (refl, refl)
refusal_back TooLong = (refl, refl)

result_of : ℕ → Result (Unit {0}) Refusal
result_of n = pick (eqb n accepted) (Ok tt) (Err (refusal_from n))

pub ok_accepted : (r : Result (Unit {0}) Refusal) → is_ok r ≡ eqb (refused_as r) accepted
ok_accepted (Ok _) = refl
ok_accepted (Err e) = sym (refusal_back e).1

pub refused_once : (r r' : Result (Unit {0}) Refusal) → refused_as r ≡ refused_as r' → r ≡ r'
unfolding result_of
refused_once r r' e = sym (back r) ∙ ap result_of e ∙ back r'
  where
    back : (r : Result (Unit {0}) Refusal) → result_of (refused_as r) ≡ r
    back (Ok tt) = refl
    back (Err e) = rw ((refusal_back e).1, (refusal_back e).0) refl
