-- A slot of a processor's transactional cache: what the slot search finds, and that freeing it is the theory's.
use mathlib.Core.Path.{◌≡◌, refl, sym, ◌∙◌, ap}
use mathlib.Core.Logic.{◌≢◌, inl, inr}
use mathlib.Core.Bool.{Bool, true, false, not}
use mathlib.Core.List.{List}
use Prim.Native.Nat.{ℕ, ◌<◌}
use native.Mathlib.Decide.{ℕ_discrete}
use native.Mathlib.Omega.{arith}
use lib.Dec.{eqb, ltb}
use lib.ListN.{get_or}
use borrow.Author.Tests.{eqb-true, eqb-false, not-true}
use Rattle.laws.specs.Choice.{pick, both_left, both_right}
use Rattle.laws.specs.Search.{first_from, first_has}
use Rattle.entry.specs.declared.Entry.{Entry}
use Rattle.entry.specs.Numbers.{INVALID, NORMAL, BACKUP, TENTATIVE}
use Rattle.entry.specs.Packing.{no_entry, unpack_range}
use Rattle.rules.specs.declared.Dims.{Dims}
use Rattle.rules.specs.declared.Caches.{Caches}
use Rattle.rules.specs.State.{entry_at, word_at}
use Rattle.rules.specs.Own.{home, is_free, lowest, free_slot}
use Rattle.rules.specs.Snoop.{written_back, clear_entry}
use Rattle.theory.specs.View.{wrote}
use Rattle.theory.proofs.Cache.{vacant}
use Rattle.theory.proofs.Updates.{AllTidy, SlotSet, normal_out, backup_out, unmoved}
use Rattle.theory.specs.Protocol.{Freed, empty}
use Rattle.serial.proofs.Decode.{state_of, slot_of, decoded, seen, copy_here, copy_else}
use Rattle.serial.proofs.Frame.{EntryFits, Fits, fits_word}
use Rattle.serial.proofs.Set.{Fit, Memory, back_at, back_here, set_slot, entry_fit}
use Rattle.serial.proofs.Codes.{normal_slot, backup_slot}
use Rattle.serial.proofs.Find.{entry_fits, slot_at}
use Rattle.serial.proofs.Lined.{none_range, back_none}

-- "never the slot taken in the same step", and no tentative entry
pub free_slot_usable : (s : Caches) (p n x : ℕ) → free_slot s.entries p n x < n
    → (free_slot s.entries p n x ≢ x) × ((entry_at s p (free_slot s.entries p n x)).tag ≢ TENTATIVE)
unfolding free_slot lowest
free_slot_usable s p n x l = by (ltb (low INVALID) n) refl (ltb (low NORMAL) n) refl l
  where
    low : ℕ → ℕ
    low tag = first_from (is_free s.entries p tag x) 0 n

    one : (tag : ℕ) → tag ≢ TENTATIVE → low tag < n → (low tag ≢ x) × ((entry_at s p (low tag)).tag ≢ TENTATIVE)
    one tag nt l =
        let h = first_has (is_free s.entries p tag x) 0 n (omega arith) in
        let e = eqb-true (entry_at s p (low tag)).tag tag (both_right (not (eqb (low tag) x)) (eqb (entry_at s p (low tag)).tag tag) h) in (
          eqb-false (low tag) x (not-true (eqb (low tag) x) (both_left (not (eqb (low tag) x)) (eqb (entry_at s p (low tag)).tag tag) h)),
          (λ z. nt (sym e ∙ z)),
        )

    by : (y : Bool) → ltb (low INVALID) n ≡ y → (z : Bool) → ltb (low NORMAL) n ≡ z → pick y (low INVALID) (pick z (low NORMAL) (low BACKUP)) < n
        → (pick y (low INVALID) (pick z (low NORMAL) (low BACKUP)) ≢ x)
        × ((entry_at s p (pick y (low INVALID) (pick z (low NORMAL) (low BACKUP)))).tag ≢ TENTATIVE)
    by true hy z hz l = one INVALID (λ q. omega arith) l
    by false hy true hz l = one NORMAL (λ q. omega arith) l
    by false hy false hz l = one BACKUP (λ q. omega arith) l

-- what a slot that is not tentative leaves when it is freed
pub record Emptied (d : Dims) (p i : ℕ) (s s' : Caches) : Type 0 where
  pub fit : Fit d s'
  pub freed : Freed p (seen d s) (seen d s')
  pub here : entry_at s' p i ≡ no_entry
  pub else : (j : ℕ) → j < 64 → j ≢ i → entry_at s' p j ≡ entry_at s p j

pub clear_emptied : {d : Dims} {s : Caches} → Fit d s → (p : ℕ) → p < d.processors → (i : ℕ) → i < d.entries → (entry_at s p i).tag ≢ TENTATIVE
    → Emptied d p i s (clear_entry s p i)
clear_emptied {d} {s} F p lp i li nt = by (ℕ_discrete e.tag NORMAL) (ℕ_discrete e.tag BACKUP)
  where
    e : Entry
    e = entry_at s p i

    fits : Fits (EntryFits d) p i e
    fits = entry_fits F p lp i li

    M : Memory d s e.word (written_back s.memory e)
    M = back_at F.frame e refl (fits_word fits) (unpack_range _).«data»

    c : SlotSet d.entries (home d) p i vacant e.word (decoded d s) (decoded d (clear_entry s p i))
    c = set_slot F.frame M p i lp no_entry none_range li

    done : AllTidy d.entries (home d) (decoded d (clear_entry s p i)) × Freed p (seen d s) (seen d (clear_entry s p i))
        → Emptied d p i s (clear_entry s p i)
    done x = record {
      fit = entry_fit F.frame M p i lp no_entry none_range li (inl refl) x.0;
      freed = x.1;
      here = copy_here s.entries F.frame.entries.long p i (omega (arith, F.frame.size.processors))
          (omega (arith, F.frame.size.entries)) no_entry none_range;
      else = λ j lj n.
          copy_else s.entries F.frame.entries.long p i (omega (arith, F.frame.size.processors))
          (omega (arith, F.frame.size.entries)) no_entry
          none_range p j (omega (arith, F.frame.size.processors)) lj (inr n);
    }

    wrote_here : get_or (written_back s.memory e) e.word 0 ≡ wrote (state_of e.state) e.«data» (word_at s e.word)
    wrote_here = back_here F.frame e refl (fits_word fits)

    nothing : e.tag ≢ NORMAL → e.tag ≢ BACKUP → Fits (EntryFits d) p i e → e ≡ no_entry
    nothing n b (inl z) = z
    nothing n b (inr f) = let t = f.tag in absurd (omega arith)

    by : Dec (e.tag ≡ NORMAL) → Dec (e.tag ≡ BACKUP) → Emptied d p i s (clear_entry s p i)
    by (yes n) b = done (normal_out d.entries (home d) F.tidy li c refl refl (slot_at F p lp i li ∙ normal_slot e n) wrote_here)
    by (no n) (yes b) = done (backup_out d.entries (home d) F.tidy li c refl refl (slot_at F p lp i li ∙ backup_slot e b) wrote_here)
    by (no n) (no b) =
        let z = nothing n b fits in
        let x = unmoved d.entries (home d) F.tidy li c (slot_at F p lp i li ∙ ap slot_of z)
        (ap (λ (y : Entry). get_or (written_back s.memory y) e.word 0) z ∙ ap (λ (m : List ℕ). get_or m e.word 0) (back_none s.memory)) in
        done (x.0, empty x.1)
