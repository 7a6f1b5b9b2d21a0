use Rattle.std.proofs.Common.{◌≡◌, length}
use Rattle.std.proofs.lemmas.List.Edits.{sets}
use Rattle.text.specs.Writing.{digits}
use Rattle.text.proofs.writing.fill_digits.Given as goal

abbrev pub invariant-loop-i : goal.invariant-loop-i
invariant-loop-i l = sets l.out 0 (digits l.i l.rest) ≡ digits (length l.initial.out) l.v
