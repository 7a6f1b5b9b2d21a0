-- The numbers that marks know lines and entries by.
use Rattle.std.specs.Prelude.{ℕ}
use Rattle.rules.specs.SoundTest.{of_lines, of_entries}
use Rattle.sound.specs.declared.placed.Kind.{Kind}
use Rattle.sound.specs.declared.placed.Kind.TheVariants.{Lines, Entries}

abbrev pub kind_number : Kind → ℕ
kind_number Lines = of_lines
kind_number Entries = of_entries
