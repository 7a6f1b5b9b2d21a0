-- The numbers that definitions know the code's kinds by, and a copy's four fields by their numbers.
use Rattle.std.specs.Prelude.{◌≡◌, refl, ℕ, eqb}
use Rattle.std.specs.Prelude.{◌+◌, ◌-◌}
use Rattle.std.proofs.Common.{arith}
use borrow.Author.Tests.{ne_eqb}
use Rattle.laws.specs.Choice.{pick}
use Rattle.entry.specs.Numbers.{INVALID, VALID, RESERVED, DIRTY, NORMAL, BACKUP, TENTATIVE, READ, RFO, WRITE, T_READ, T_RFO}
use Rattle.entry.specs.Numbers.{LOAD, STORE, LT, LTX, ST, COMMIT, ABORT, VALIDATE, INTERRUPT}
use Rattle.entry.specs.declared.numbers.State.{State}
use Rattle.entry.specs.declared.numbers.State.TheVariants.{Invalid, Valid, Reserved, Dirty, Other as OtherState}
use Rattle.entry.specs.declared.numbers.Tag.{Tag}
use Rattle.entry.specs.declared.numbers.Tag.TheVariants.{Invalid as Untagged, Normal, Backup, Tentative, Other as OtherTag}
use Rattle.entry.specs.declared.numbers.Cycle.{Cycle}
use Rattle.entry.specs.declared.numbers.Cycle.TheVariants.{Read, Rfo, Write, TRead, TRfo, Other as OtherCycle}
use Rattle.entry.specs.declared.numbers.Op.{Op}
use Rattle.entry.specs.declared.numbers.Op.TheVariants.{Load, Store, Lt, Ltx, St, Commit, Abort, Validate, Interrupt, Other as OtherStep}
use Rattle.entry.specs.declared.Entry.TheInside.{Inside}
use Rattle.entry.specs.Copy.{Fields}

abbrev pub state_number : State → ℕ
state_number Invalid = INVALID
state_number Valid = VALID
state_number Reserved = RESERVED
state_number Dirty = DIRTY
state_number (OtherState k) = k + 4

abbrev pub tag_number : Tag → ℕ
tag_number Untagged = INVALID
tag_number Normal = NORMAL
tag_number Backup = BACKUP
tag_number Tentative = TENTATIVE
tag_number (OtherTag k) = k + 4

abbrev pub cycle_number : Cycle → ℕ
cycle_number Read = READ
cycle_number Rfo = RFO
cycle_number Write = WRITE
cycle_number TRead = T_READ
cycle_number TRfo = T_RFO
cycle_number (OtherCycle k) = k + 5

abbrev pub step_number : Op → ℕ
step_number Load = LOAD
step_number Store = STORE
step_number Lt = LT
step_number Ltx = LTX
step_number St = ST
step_number Commit = COMMIT
step_number Abort = ABORT
step_number Validate = VALIDATE
step_number Interrupt = INTERRUPT
step_number (OtherStep k) = k + 9

abbrev pub fields_of : Inside → Fields
fields_of a = record { state = state_number a.state; tag = tag_number a.tag; word = a.word; «data» = a.«data» }

-- and back from their numbers
abbrev pub state_of : ℕ → State
state_of n = pick (eqb n INVALID) Invalid (pick (eqb n VALID) Valid (pick (eqb n RESERVED) Reserved (pick (eqb n DIRTY) Dirty (OtherState (n - 4)))))

abbrev pub tag_of : ℕ → Tag
tag_of n = pick (eqb n INVALID) Untagged (pick (eqb n NORMAL) Normal (pick (eqb n BACKUP) Backup (pick (eqb n TENTATIVE) Tentative (OtherTag (n - 4)))))

abbrev pub inside_of : Fields → Inside
inside_of e = record { state = state_of e.state; tag = tag_of e.tag; word = e.word; «data» = e.«data» }

pub state_back : (s : State) → state_of (state_number s) ≡ s
state_back Invalid = refl
state_back Valid = refl
state_back Reserved = refl
state_back Dirty = refl
state_back (OtherState k) =
    let m : (k + 4) - 4 ≡ k = omega arith in
    rw (ne_eqb (k + 4) 0 (λ e. absurd (omega (arith, e))), ne_eqb (k + 4) 1 (λ e. absurd (omega (arith, e))), ne_eqb (k + 4) 2 (λ e. absurd (omega (arith, e))), ne_eqb (k + 4) 3 (λ e. absurd (omega (arith, e))), m)

pub tag_back : (t : Tag) → tag_of (tag_number t) ≡ t
tag_back Untagged = refl
tag_back Normal = refl
tag_back Backup = refl
tag_back Tentative = refl
tag_back (OtherTag k) =
    let m : (k + 4) - 4 ≡ k = omega arith in
    rw (ne_eqb (k + 4) 0 (λ e. absurd (omega (arith, e))), ne_eqb (k + 4) 1 (λ e. absurd (omega (arith, e))), ne_eqb (k + 4) 2 (λ e. absurd (omega (arith, e))), ne_eqb (k + 4) 3 (λ e. absurd (omega (arith, e))), m)

pub inside_back : (a : Inside) → inside_of (fields_of a) ≡ a
inside_back a = rw (state_back a.state, tag_back a.tag)
