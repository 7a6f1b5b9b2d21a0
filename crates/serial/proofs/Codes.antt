-- An entry by its tag, and the codes of its state.
use mathlib.Core.Path.{◌≡◌, refl, ap}
use mathlib.Core.Logic.{◌≢◌, inl, inr}
use mathlib.Core.Bool.{Bool, true, false, true≢false}
use Prim.Native.Nat.{ℕ, zero, suc, ◌<◌}
use native.Mathlib.Omega.{arith}
use lib.Dec.{eqb, leb}
use borrow.Author.Tests.{eqb-true}
use Rattle.laws.specs.Choice.{pick}
use Rattle.entry.specs.declared.Entry.{Entry}
use Rattle.entry.specs.Numbers.{INVALID, RESERVED, DIRTY, NORMAL, BACKUP, TENTATIVE}
use Rattle.rules.specs.declared.Dims.{Dims}
use Rattle.theory.specs.View.{LineState, valid, reserved, dirty, above, dirty_state}
use Rattle.theory.proofs.Cache.{slot_normal, slotBackup, slot_tentative, blank, filled}
use Rattle.serial.proofs.Decode.{state_of, slot_by, slot_of, line_of}
use Rattle.serial.proofs.Frame.{EntryFits, Fits}

pub pick_no : {A : Type 0} (b : Bool) (x y : A) → b ≡ false → pick b x y ≡ y
pick_no true x y h = absurd (true≢false h)
pick_no false x y h = refl

-- the tag says which slot
module _ (e : Entry) where
  pub normal_slot : e.tag ≡ NORMAL → slot_of e ≡ slot_normal (state_of e.state) e.word e.«data»
  normal_slot h = rw h

  pub backup_slot : e.tag ≡ BACKUP → slot_of e ≡ slotBackup (state_of e.state) e.word e.«data»
  backup_slot h = rw h

  pub tentative_slot : e.tag ≡ TENTATIVE → slot_of e ≡ slot_tentative (state_of e.state) e.word e.«data» (eqb e.state DIRTY)
  tentative_slot h = rw h

  pub filled_line : e.state ≢ INVALID → line_of e ≡ filled (state_of e.state) e.word e.«data»
  filled_line n = by (eqb e.state INVALID) refl
    where
      by : (b : Bool) → eqb e.state INVALID ≡ b
          → pick b blank (filled (state_of e.state) e.word e.«data») ≡ filled (state_of e.state) e.word e.«data»
      by true h = absurd (n (eqb-true e.state INVALID h))
      by false h = refl

-- and the slot says which tag
pub record Is (tag : ℕ) (e : Entry) (s : LineState) (w x : ℕ) : Type 0 where
  pub tagged : e.tag ≡ tag
  pub state : state_of e.state ≡ s
  pub word : e.word ≡ w
  pub value : e.«data» ≡ x

no : {A : Type 0} → true ≡ false → A
no z = absurd (true≢false z)

module _ (e : Entry) where
  pub slot_normal_lem : {s : LineState} {w x : ℕ} → slot_of e ≡ slot_normal s w x → Is NORMAL e s w x
  slot_normal_lem {s} {w} {x} q = by (eqb e.tag NORMAL) (eqb e.tag BACKUP) (eqb e.tag TENTATIVE) refl q
    where
      by : (n b t : Bool) → eqb e.tag NORMAL ≡ n → slot_by n b t e ≡ slot_normal s w x → Is NORMAL e s w x
      by true b t h q = record { tagged = eqb-true e.tag NORMAL h; state = cc; word = cc; value = cc }
      by false true t h q = no (cc)
      by false false true h q = no (cc)
      by false false false h q = no (cc)

  pub slot_tentative_lem : {s : LineState} {w x : ℕ} {f : Bool} → slot_of e ≡ slot_tentative s w x f → Is TENTATIVE e s w x × (f ≡ eqb e.state DIRTY)
  slot_tentative_lem {s} {w} {x} {f} q = by (eqb e.tag NORMAL) (eqb e.tag BACKUP) (eqb e.tag TENTATIVE) refl q
    where
      by : (n b t : Bool) → eqb e.tag TENTATIVE ≡ t → slot_by n b t e ≡ slot_tentative s w x f → Is TENTATIVE e s w x × (f ≡ eqb e.state DIRTY)
      by true b t h q = no (cc)
      by false true t h q = no (cc)
      by false false true h q = (record { tagged = eqb-true e.tag TENTATIVE h; state = cc; word = cc; value = cc }, cc)
      by false false false h q = no (cc)

-- codes
pub above_code : (s : ℕ) → s < 4 → s ≢ INVALID → above (state_of s) ≡ leb RESERVED s
above_code zero l n = absurd (n refl)
above_code (suc zero) l n = refl
above_code (suc (suc zero)) l n = refl
above_code (suc (suc (suc zero))) l n = refl
above_code (suc (suc (suc (suc s)))) l n = absurd (omega arith)

pub dirty_code : (s : ℕ) → eqb s DIRTY ≡ dirty_state (state_of s)
dirty_code s = by (eqb s DIRTY) (eqb s RESERVED)
  where
    by : (x y : Bool) → x ≡ dirty_state (pick x dirty (pick y reserved valid))
    by true y = refl
    by false true = refl
    by false false = refl

-- an entry that is tagged is held, and is the machine's
pub tagged_fits : {d : Dims} {p i : ℕ} {e : Entry} → Fits (EntryFits d) p i e → e.tag ≢ INVALID → EntryFits d p i e
tagged_fits (inl z) n = absurd (n (ap (λ (x : Entry). x.tag) z))
tagged_fits (inr f) n = f
