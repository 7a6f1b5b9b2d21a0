-- LT, LTX and ST on a NORMAL entry: what the step does is one of the two of proofs/Normal.antt, by whether a slot is left for a backup.
use mathlib.Core.Path.{◌≡◌, refl, sym, ◌∙◌, ap, subst⁻¹}
use mathlib.Core.Logic.{◌≢◌}
use mathlib.Core.Bool.{Bool, true, false}
use mathlib.Core.List.{List}
use Prim.Native.Nat.{ℕ, ◌<◌}
use native.Mathlib.Omega.{arith}
use lib.Dec.{ltb}
use lib.ListN.{set}
use lib.Seq.{set-set, set_comm}
use borrow.Author.Tests.{ltb-true}
use Rattle.laws.specs.Choice.{pick}
use Rattle.entry.specs.declared.Entry.{Entry}
use Rattle.entry.specs.Numbers.{NORMAL, BACKUP, TENTATIVE}
use Rattle.entry.specs.Packing.{entry, no_entry, pack}
use Rattle.entry.specs.Entry.{with_tag, with_state}
use Rattle.rules.specs.declared.Dims.{Dims}
use Rattle.rules.specs.declared.Caches.{Caches}
use Rattle.rules.specs.State.{caches, place, entry_at, with_copy, counted}
use Rattle.rules.specs.Own.{free_slot}
use Rattle.rules.specs.Snoop.{writes, written_back}
use Rattle.rules.specs.Transact.{open_normal}
use Rattle.serial.proofs.Set.{Fit, entry_on}
use Rattle.serial.proofs.Slotted.{free_slot_usable}
use Rattle.serial.proofs.Normal.{Began, alone, bare_begins, backed}

-- the two entries set in one order are the slot freed, the tentative entry, and then the backup
three : (l : List ℕ) (i b : ℕ) (x y z : ℕ) → b ≢ i → set (set l b y) i x ≡ set (set (set l b z) i x) b y
three l i b x y z n = set_comm l b i y x n ∙ sym (ap (λ (k : List ℕ). set k b y) (set_comm l b i z x n) ∙ set-set (set l i x) b z y)

module _ {d : Dims} {s : Caches} (F : Fit d s) (p : ℕ) (lp : p < d.processors) (w i : ℕ) (li : i < d.entries)
    (ht : (entry_at s p i).tag ≡ NORMAL) (hw : (entry_at s p i).word ≡ w) where
  abbrev e : Entry
  e = entry_at s p i

  pub open_normal_began : Began d p w i s (open_normal d p i s).after
  unfolding open_normal
  open_normal_began = by (ltb b d.entries) refl
    where
      b : ℕ
      b = free_slot s.entries p d.entries i

      retagged : (t : ℕ) → with_tag e t ≡ entry e.state t w e.«data»
      retagged t = ap (λ (u : ℕ). entry e.state t u e.«data») hw

      by : (y : Bool) → ltb b d.entries ≡ y
          → Began d p w i s
          (pick y
          (counted (writes (entry_at s p b))
          (caches (written_back s.memory (entry_at s p b)) s.lines
          (with_copy (with_copy s.entries p b (with_tag e BACKUP)) p i (with_tag e TENTATIVE)) s.flags))
          (counted (writes e) (entry_on s (written_back s.memory e) p i (with_state (with_tag e TENTATIVE) (alone e.state))))).after
      by true h =
          let l = ltb-true b d.entries h in
          let f = free_slot_usable s p d.entries i l in
          subst⁻¹ (λ (es : List ℕ). Began d p w i s (caches (written_back s.memory (entry_at s p b)) s.lines es s.flags))
          (ap (λ (x : Entry). with_copy (with_copy s.entries p b x) p i (with_tag e TENTATIVE)) (retagged BACKUP) ∙
          (ap (λ (x : Entry). with_copy (with_copy s.entries p b (entry e.state BACKUP w e.«data»)) p i x) (retagged TENTATIVE) ∙
          three s.entries (place p i) (place p b) (pack (entry e.state TENTATIVE w e.«data»)) (pack (entry e.state BACKUP w e.«data»))
          (pack no_entry)
          (λ z. f.0 (omega (arith, F.frame.size.entries)))))
          (backed F p lp w i li ht hw b l f.0 f.1)
      by false h =
          subst⁻¹ (λ (x : Entry). Began d p w i s (entry_on s (written_back s.memory e) p i x))
          (ap (λ (u : ℕ). entry (alone e.state) TENTATIVE u e.«data») hw) (bare_begins F p lp w i li ht hw)
