-- The numbers that definitions know the code's phases and refusals by, and a place's fields by their numbers.
use Rattle.std.specs.Prelude.{◌≡◌, refl, ℕ, Option, Some, None, eqb}
use Rattle.laws.specs.Choice.{pick}
use Rattle.entry.specs.declared.refusals.Refusal.{Refusal}
use Rattle.entry.specs.Refusals.{accepted, number_of}
use Rattle.entry.proofs.Refused.{refusal_from, refusal_back}
use Rattle.listing.specs.declared.places.Phase.{Phase}
use Rattle.listing.specs.declared.places.Phase.TheVariants.{Header, Refusal as Refused, Record, End, Nothing}
use Rattle.listing.specs.declared.places.Place.TheInside.{Inside}
use Rattle.listing.specs.Standing.{Standing}

-- What the next line is: the listing's own header, a refusal before any record, a record's, END, or none.
abbrev pub HEADER : ℕ
HEADER = 0

abbrev pub REFUSAL : ℕ
REFUSAL = 1

abbrev pub RECORD : ℕ
RECORD = 2

abbrev pub END : ℕ
END = 3

abbrev pub NOTHING : ℕ
NOTHING = 4

abbrev pub phase_number : Phase → ℕ
phase_number Header = HEADER
phase_number Refused = REFUSAL
phase_number Record = RECORD
phase_number End = END
phase_number Nothing = NOTHING

-- a refusal by its number, or `accepted` where there is none
abbrev pub number_or : Option Refusal → ℕ
number_or None = accepted
number_or (Some r) = number_of r

abbrev pub fields_of : Inside → Standing
fields_of a = record {
  phase = phase_number a.phase;
  refusal = number_or a.refused;
  at = a.at;
  number = a.number;
  last = a.last;
  commits = a.commits;
  cycles = a.cycles;
}

-- and back from the numbers
abbrev pub phase_of : ℕ → Phase
phase_of n =
    pick (eqb n HEADER) Header (pick (eqb n REFUSAL) Refused (pick (eqb n RECORD) Record (pick (eqb n END) End Nothing)))

abbrev pub refusal_of : ℕ → Option Refusal
refusal_of n = pick (eqb n accepted) None (Some (refusal_from n))

abbrev pub inside_of : Standing → Inside
inside_of x = record {
  phase = phase_of x.phase;
  refused = refusal_of x.refusal;
  at = x.at;
  number = x.number;
  last = x.last;
  commits = x.commits;
  cycles = x.cycles;
}

pub phase_back : (p : Phase) → phase_of (phase_number p) ≡ p
phase_back Header = refl
phase_back Refused = refl
phase_back Record = refl
phase_back End = refl
phase_back Nothing = refl

pub refused_back : (o : Option Refusal) → refusal_of (number_or o) ≡ o
refused_back None = refl
refused_back (Some r) = rw ((refusal_back r).1, (refusal_back r).0)

pub inside_back : (a : Inside) → inside_of (fields_of a) ≡ a
inside_back a = rw (phase_back a.phase, refused_back a.refused)
