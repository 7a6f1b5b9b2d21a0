-- The entries behind what a view shows of a processor's word, and what a view shows of a held line or entry.
use mathlib.Core.Path.{◌≡◌, refl, sym, ◌∙◌, ap}
use mathlib.Core.Logic.{◌≢◌, inl, inr}
use mathlib.Core.Bool.{Bool, true, false, not, true≢false, false≢true}
use Prim.Native.Nat.{ℕ, zero, suc, ◌≤◌, ◌<◌}
use native.Mathlib.Omega.{arith}
use lib.Dec.{eqb}
use borrow.Author.Tests.{eq-eqb, ne_eqb}
use Rattle.laws.specs.Choice.{both_true}
use Rattle.entry.specs.declared.Entry.{Entry}
use Rattle.entry.specs.Numbers.{INVALID, DIRTY, NORMAL, BACKUP, TENTATIVE}
use Rattle.rules.specs.declared.Dims.{Dims}
use Rattle.rules.specs.declared.Caches.{Caches}
use Rattle.rules.specs.State.{line_at, entry_at}
use Rattle.rules.specs.Own.{home}
use Rattle.rules.specs.Sound
use Rattle.theory.specs.View.{LineState, valid, Back, backup, Copy, none, regular, normal, tentative, above, IsBelow, has, exclusive}
use Rattle.theory.proofs.Cache.{Slot, vacant, slot_normal, slotBackup, slot_tentative, slot_back}
use Rattle.theory.proofs.Cache.{tentative_on, regular_on, is_self, is_true, Backs, backed, unbacked}
use Rattle.theory.proofs.Looks.{normal_seen, tentative_seen, regular_seen}
use Rattle.theory.proofs.Slots.{look_tentative}
use Rattle.serial.proofs.Decode.{state_of, decoded, seen}
use Rattle.serial.proofs.Set.{Fit}
use Rattle.serial.proofs.Codes.{backup_slot, tagged_fits, Is, slot_normal_lem, slot_tentative_lem}
use Rattle.serial.proofs.Find.{home_in, entry_fits, slot_at, line_at_lem, has_regular}
use Rattle.serial.proofs.SoundFit.{line_says, backup_says}

abbrev pub main_state : Copy → LineState
main_state none = valid
main_state (regular s x) = s
main_state (normal s x) = s
main_state (tentative s x b t) = s

abbrev pub main_data : Copy → ℕ
main_data none = 0
main_data (regular s x) = x
main_data (normal s x) = x
main_data (tentative s x b t) = x

pub exclusive_main : (k : Copy) → exclusive k ≡ above (main_state k)
exclusive_main none = refl
exclusive_main (regular s x) = refl
exclusive_main (normal s x) = refl
exclusive_main (tentative s x b t) = refl

-- the line or entry that is p's copy of w
pub record Main (s : Caches) (p w : ℕ) (k : Copy) : Type 0 where
  pub copy : Entry
  pub held_by : Sound.HasCopy s p copy
  pub held : copy.state ≢ INVALID
  pub word : copy.word ≡ w
  pub state : state_of copy.state ≡ main_state k
  pub value : copy.«data» ≡ main_data k

-- the entry that is its backup
pub record Behind (d : Dims) (s : Caches) (p w : ℕ) (r : LineState) (x : ℕ) : Type 0 where
  pub slot : ℕ
  pub inside : slot < d.entries
  pub is : Is BACKUP (entry_at s p slot) r w x

module _ {d : Dims} {s : Caches} (F : Fit d s) (p : ℕ) (lp : p < d.processors) (w : ℕ) where
  held_at : (i tag : ℕ) → i < d.entries → (entry_at s p i).tag ≡ tag → tag ≢ INVALID → (entry_at s p i).state ≢ INVALID
  held_at i tag l t n = (tagged_fits (entry_fits F p lp i l) (λ z. n (sym t ∙ z))).held

  in_slots : (i : ℕ) → i < d.entries → i < 64
  in_slots i l = omega (arith, F.frame.size.entries)

  pub main_entry : (k : Copy) → (seen d s).copy w p ≡ k → has k ≡ true → Main s p w k
  main_entry none e h = absurd (false≢true h)
  main_entry (regular x y) e h =
      let r = line_says w (line_at s p (home d w))
      (ap (regular_on w) (sym (line_at_lem F p lp w)) ∙ regular_seen d.entries (home d) ((decoded d s).slot p) ((decoded d s).line p) w e) in
      let o = both_true (not (eqb (line_at s p (home d w)).state INVALID)) (eqb (line_at s p (home d w)).word w)
      (ap not (ne_eqb (line_at s p (home d w)).state INVALID r.0)) (eq-eqb (line_at s p (home d w)).word w r.1) in
      let c = sym (has_regular F p lp w (line_at s p (home d w)) refl o) ∙ e in
      record {
        copy = line_at s p (home d w);
        held_by = record { slot = home d w; inside = omega (arith, home_in F.frame.size w, F.frame.size.lines); here = inl refl };
        held = r.0;
        word = r.1;
        state = cc;
        value = cc;
      }
  main_entry (normal x y) e h =
      let r = normal_seen d.entries (home d) ((decoded d s).slot p) ((decoded d s).line p) w e in
      let z = slot_normal_lem (entry_at s p r.0) (sym (slot_at F p lp r.0 r.1) ∙ r.2) in
      record {
        copy = entry_at s p r.0;
        held_by = record { slot = r.0; inside = in_slots r.0 r.1; here = inr refl };
        held = held_at r.0 NORMAL r.1 z.tagged (λ q. omega arith);
        word = z.word;
        state = z.state;
        value = z.value;
      }
  main_entry (tentative x y b t) e h =
      let r = tentative_seen d.entries (home d) ((decoded d s).slot p) ((decoded d s).line p) w e in
      let z = (slot_tentative_lem (entry_at s p r.0) (sym (slot_at F p lp r.0 r.1) ∙ r.2)).0 in
      record {
        copy = entry_at s p r.0;
        held_by = record { slot = r.0; inside = in_slots r.0 r.1; here = inr refl };
        held = held_at r.0 TENTATIVE r.1 z.tagged (λ q. omega arith);
        word = z.word;
        state = z.state;
        value = z.value;
      }

  -- a tentative copy's own slot
  pub tentative_entry : {x : LineState} {y : ℕ} {b : Back} {t : Bool} → (seen d s).copy w p ≡ tentative x y b t
      → (i : ℕ) × (i < d.entries) × Is TENTATIVE (entry_at s p i) x w y × (t ≡ eqb (entry_at s p i).state DIRTY)
  tentative_entry e =
      let r = tentative_seen d.entries (home d) ((decoded d s).slot p) ((decoded d s).line p) w e in
      let z = slot_tentative_lem (entry_at s p r.0) (sym (slot_at F p lp r.0 r.1) ∙ r.2) in
      (r.0, r.1, z.0, z.1)

  pub backup_behind : {x : LineState} {y : ℕ} {r : LineState} {v : ℕ} {t : Bool} → (seen d s).copy w p ≡ tentative x y (backup r v) t
      → Behind d s p w r v
  backup_behind {r = r} {v = v} e = by (backup r v) refl (tentative_seen d.entries (home d) ((decoded d s).slot p) ((decoded d s).line p) w e).3
    where
      by : (b : Back) → b ≡ backup r v → Backs d.entries (home d) ((decoded d s).slot p) ((decoded d s).line p) w b → Behind d s p w r v
      by b z (backed j l h q) =
          let y = backup_says w (entry_at s p j) (rw (slot_at F p lp j l) at h) in
          let c = sym (ap slot_back (slot_at F p lp j l ∙ backup_slot (entry_at s p j) y.0)) ∙ (q ∙ z) in
          record { slot = j; inside = l; is = record { tagged = y.0; state = cc; word = y.1; value = cc } }
      by b z (unbacked g q) = let c : true ≡ false = cc in absurd (true≢false c)

  -- and the other way: a backup shows behind a tentative copy
  pub has_backup : (j : ℕ) → j < d.entries → (entry_at s p j).tag ≡ BACKUP → (entry_at s p j).word ≡ w
      → (x : LineState) × (y : ℕ) × (t : Bool)
      × ((seen d s).copy w p ≡ tentative x y (backup (state_of (entry_at s p j).state) (entry_at s p j).«data») t)
  has_backup j l ht hw = from ((F.tidy p).paired w j l (rw full (is_self w)))
    where
      full : (decoded d s).slot p j ≡ slotBackup (state_of (entry_at s p j).state) w (entry_at s p j).«data»
      full =
          slot_at F p lp j l ∙
          (backup_slot (entry_at s p j) ht ∙ ap (λ (u : ℕ). slotBackup (state_of (entry_at s p j).state) u (entry_at s p j).«data») hw)

      from : (i : ℕ) × (i < d.entries) × (tentative_on w ((decoded d s).slot p i) ≡ true)
          → (x : LineState) × (y : ℕ) × (t : Bool)
          × ((seen d s).copy w p ≡ tentative x y (backup (state_of (entry_at s p j).state) (entry_at s p j).«data») t)
      from (i, li, h) = go ((decoded d s).slot p i) refl h
        where
          go : (z : Slot) → (decoded d s).slot p i ≡ z → tentative_on w z ≡ true
              → (x : LineState) × (y : ℕ) × (t : Bool)
              × ((seen d s).copy w p ≡ tentative x y (backup (state_of (entry_at s p j).state) (entry_at s p j).«data») t)
          go vacant e h = absurd (false≢true h)
          go (slot_normal a u x) e h = absurd (false≢true h)
          go (slotBackup a u x) e h = absurd (false≢true h)
          go (slot_tentative a u x t) e h = (
            a,
            x,
            t,
            look_tentative d.entries (home d) ((decoded d s).slot p) ((decoded d s).line p) (F.tidy p) i li
                (e ∙ ap (λ (k : ℕ). slot_tentative a k x t) (is_true u w h)) (backed j l (rw full (is_self w)) (rw full)),
          )

-- codes
pub below_code : (a b : ℕ) → a < 4 → b < 4 → a ≢ INVALID → b ≢ INVALID → a ≤ b → IsBelow (state_of a) (state_of b)
below_code zero b la lb na nb l = absurd (na refl)
below_code (suc zero) b la lb na nb l = tt
below_code (suc (suc zero)) zero la lb na nb l = absurd (nb refl)
below_code (suc (suc zero)) (suc zero) la lb na nb l = absurd (omega arith)
below_code (suc (suc zero)) (suc (suc zero)) la lb na nb l = refl
below_code (suc (suc zero)) (suc (suc (suc zero))) la lb na nb l = refl
below_code (suc (suc zero)) (suc (suc (suc (suc b)))) la lb na nb l = absurd (omega arith)
below_code (suc (suc (suc zero))) zero la lb na nb l = absurd (nb refl)
below_code (suc (suc (suc zero))) (suc zero) la lb na nb l = absurd (omega arith)
below_code (suc (suc (suc zero))) (suc (suc zero)) la lb na nb l = absurd (omega arith)
below_code (suc (suc (suc zero))) (suc (suc (suc zero))) la lb na nb l = refl
below_code (suc (suc (suc zero))) (suc (suc (suc (suc b)))) la lb na nb l = absurd (omega arith)
below_code (suc (suc (suc (suc a)))) b la lb na nb l = absurd (omega arith)

pub code_below : (a b : ℕ) → a < 4 → b < 4 → a ≢ INVALID → b ≢ INVALID → IsBelow (state_of a) (state_of b) → a ≤ b
code_below zero b la lb na nb h = absurd (na refl)
code_below (suc zero) b la lb na nb h = omega arith
code_below (suc (suc zero)) zero la lb na nb h = absurd (nb refl)
code_below (suc (suc zero)) (suc zero) la lb na nb h = absurd (false≢true h)
code_below (suc (suc zero)) (suc (suc b)) la lb na nb h = omega arith
code_below (suc (suc (suc zero))) zero la lb na nb h = absurd (nb refl)
code_below (suc (suc (suc zero))) (suc zero) la lb na nb h = absurd (false≢true h)
code_below (suc (suc (suc zero))) (suc (suc zero)) la lb na nb h = absurd (false≢true h)
code_below (suc (suc (suc zero))) (suc (suc (suc b))) la lb na nb h = omega arith
code_below (suc (suc (suc (suc a)))) b la lb na nb h = absurd (omega arith)
