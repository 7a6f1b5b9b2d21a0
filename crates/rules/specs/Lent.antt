-- What the columns hold that a function is lent. In an `ensures` the name of such a slice is a pair, the slice as it was lent and as it is
-- returned; what it holds is a list, whatever its length.
use Rattle.std.specs.Prelude.{List, ℕ}
use Rattle.std.specs.Borrow.{Bor, MutBor}
use denote.Triple.Both.{Both}
use Rattle.rules.specs.Run.{Steps, steps, Columns, columns}

abbrev pub before : {X Y : Type 0} → Both (MutBor X) Y → X
before x = x.entry.now

abbrev pub after : {X Y : Type 0} → Both Y (MutBor X) → X
after x = x.exit.now

abbrev pub Numbers : Type 0
Numbers = Both (MutBor (List ℕ)) (MutBor (List ℕ))

-- a slice that a function only reads
abbrev pub Shared : Type 0
Shared = Both (Bor (List ℕ)) (Bor (List ℕ))

-- the columns of a trace, and of what its steps answer, these at both moments
abbrev pub lent_steps : (o c w v : Shared) → Steps
lent_steps o c w v = steps o.entry.now c.entry.now w.entry.now v.entry.now

abbrev pub columns_of : (a v r o w s t b : Numbers) → Both Columns Columns
columns_of a v r o w s t b = record {
  entry = columns (before a) (before v) (before r) (before o) (before w) (before s) (before t) (before b);
  exit = columns (after a) (after v) (after r) (after o) (after w) (after s) (after t) (after b);
}
