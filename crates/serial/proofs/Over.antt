-- Rollback and COMMIT: a change of all of a processor's entries, and of its flags.
use mathlib.Core.Path.{◌≡◌, refl, sym, ◌∙◌, ap, subst⁻¹}
use mathlib.Core.Logic.{◌≢◌, ◌⊎◌, inl, inr}
use mathlib.Core.Bool.{Bool, true, false}
use mathlib.Core.List.{List}
use Prim.Native.Nat.{ℕ, ◌+◌, ◌≤◌, ◌<◌}
use native.Mathlib.Decide.{ℕ_discrete, dec_lt}
use native.Mathlib.Omega.{arith}
use lib.Dec.{eqb}
use lib.ListN.{length, get_or}
use borrow.Author.Tests.{eqb-true}
use Rattle.laws.specs.Choice.{pick}
use Rattle.laws.specs.Places.{apply_length, apply_other, apply_in}
use Rattle.entry.specs.declared.Entry.{Entry}
use Rattle.entry.specs.Numbers.{INVALID, NORMAL, BACKUP, TENTATIVE}
use Rattle.entry.specs.Packing.{unpack, no_entry, packed_end, InRange, unpack_pack, unpack_range, pack_range}
use Rattle.entry.specs.Entry.{with_tag, rolled_back, committed}
use Rattle.rules.specs.declared.Dims.{Dims}
use Rattle.rules.specs.State.{place, copy_at}
use Rattle.rules.specs.Rollback.{repacked, over_entries}
use Rattle.theory.proofs.AllSlots.{slot_rollback, slot_commit}
use Rattle.serial.proofs.Decode.{slot_by, slot_of}
use Rattle.serial.proofs.Frame.{EntryFits, Fits, Copies}

-- what the loop over p's n entries leaves
module _ (f : Entry → Entry) (keeps : (e : Entry) → InRange e → InRange (f e)) (p n : ℕ) (lp : p < 8) (ln : n ≤ 64) (l : List ℕ)
    (len : length l ≡ 512) where
  code_in : (i : ℕ) → i < n → get_or (over_entries f p n l) (place p i) 0 ≡ repacked f (get_or l (place p i) 0)
  code_in i li = apply_in (place p) (repacked f) 0 0 n i l (omega arith) (omega arith) (omega arith) (λ a x y z. omega arith)

  code_else : (q i : ℕ) → q < 8 → i < 64 → (q ≢ p) ⊎ (n ≤ i) → get_or (over_entries f p n l) (place q i) 0 ≡ get_or l (place q i) 0
  code_else q i lq li x = apply_other (place p) (repacked f) 0 0 n (place q i) l (λ j a b. far j b x)
    where
      far : (j : ℕ) → j < 0 + n → (q ≢ p) ⊎ (n ≤ i) → place p j ≢ place q i
      far j b (inl x) z = x (omega arith)
      far j b (inr x) z = omega arith

  pub over_in : (i : ℕ) → i < n → copy_at (over_entries f p n l) p i ≡ f (copy_at l p i)
  over_in i li =
      ap unpack (code_in i li) ∙ unpack_pack (f (unpack (get_or l (place p i) 0)))
      (keeps (unpack (get_or l (place p i) 0)) (unpack_range (get_or l (place p i) 0)))

  pub over_else : (q i : ℕ) → q < 8 → i < 64 → (q ≢ p) ⊎ (n ≤ i) → copy_at (over_entries f p n l) q i ≡ copy_at l q i
  over_else q i lq li x = ap unpack (code_else q i lq li x)

  pub over_copies : {Ok : ℕ → ℕ → Entry → Type 0} → Copies Ok l → ((i : ℕ) (e : Entry) → Fits Ok p i e → Fits Ok p i (f e))
      → Copies Ok (over_entries f p n l)
  over_copies {Ok} C g = record {
    long = apply_length (place p) (repacked f) 0 0 n l ∙ len;
    codes = λ q i lq li. code q i lq li (ℕ_discrete q p) (dec_lt i n);
    each = λ q i lq li. at q i lq li (ℕ_discrete q p) (dec_lt i n);
  }
    where
      code : (q i : ℕ) → q < 8 → i < 64 → Dec (q ≡ p) → Dec (i < n) → get_or (over_entries f p n l) (place q i) 0 < packed_end
      code q i lq li (yes x) (yes y) =
          rw x
          (subst⁻¹ (λ (z : ℕ). z < packed_end) (code_in i y)
          (pack_range (f (unpack (get_or l (place p i) 0))) (keeps (unpack (get_or l (place p i) 0)) (unpack_range (get_or l (place p i) 0)))))
      code q i lq li (yes x) (no y) = subst⁻¹ (λ (z : ℕ). z < packed_end) (code_else q i lq li (inr (omega arith))) (C.codes q i lq li)
      code q i lq li (no x) y = subst⁻¹ (λ (z : ℕ). z < packed_end) (code_else q i lq li (inl x)) (C.codes q i lq li)

      at : (q i : ℕ) → q < 8 → i < 64 → Dec (q ≡ p) → Dec (i < n) → Fits Ok q i (copy_at (over_entries f p n l) q i)
      at q i lq li (yes x) (yes y) = rw x (subst⁻¹ (Fits Ok p i) (over_in i y) (g i (copy_at l p i) (C.each p i lp li)))
      at q i lq li (yes x) (no y) = subst⁻¹ (Fits Ok q i) (over_else q i lq li (inr (omega arith))) (C.each q i lq li)
      at q i lq li (no x) y = subst⁻¹ (Fits Ok q i) (over_else q i lq li (inl x)) (C.each q i lq li)

-- a tag is one number
clash : (a b c : ℕ) → (b ≡ c → ⊥) → eqb a b ≡ true → eqb a c ≡ true → ⊥
clash a b c n h k = n (sym (eqb-true a b h) ∙ eqb-true a c k)

-- what happens to an entry is what happens to its slot
module _ (e : Entry) where
  pub slot_rolled : slot_of (rolled_back e) ≡ slot_rollback (slot_of e)
  slot_rolled = by (eqb e.tag NORMAL) (eqb e.tag BACKUP) (eqb e.tag TENTATIVE) refl refl refl
    where
      by : (n b t : Bool) → eqb e.tag NORMAL ≡ n → eqb e.tag BACKUP ≡ b → eqb e.tag TENTATIVE ≡ t
          → slot_of (rolled_back e) ≡ slot_rollback (slot_by n b t e)
      by true b true h₁ h₂ h₃ = absurd (clash e.tag NORMAL TENTATIVE (λ q. omega arith) h₁ h₃)
      by true true false h₁ h₂ h₃ = absurd (clash e.tag NORMAL BACKUP (λ q. omega arith) h₁ h₂)
      by true false false h₁ h₂ h₃ = simp (h₃, h₂, h₁)
      by false true true h₁ h₂ h₃ = absurd (clash e.tag BACKUP TENTATIVE (λ q. omega arith) h₂ h₃)
      by false true false h₁ h₂ h₃ = simp (h₃, h₂)
      by false false true h₁ h₂ h₃ = simp h₃
      by false false false h₁ h₂ h₃ = simp (h₃, h₂, h₁)

  pub slot_committed : slot_of (committed e) ≡ slot_commit (slot_of e)
  slot_committed = by (eqb e.tag NORMAL) (eqb e.tag BACKUP) (eqb e.tag TENTATIVE) refl refl refl
    where
      by : (n b t : Bool) → eqb e.tag NORMAL ≡ n → eqb e.tag BACKUP ≡ b → eqb e.tag TENTATIVE ≡ t
          → slot_of (committed e) ≡ slot_commit (slot_by n b t e)
      by true true t h₁ h₂ h₃ = absurd (clash e.tag NORMAL BACKUP (λ q. omega arith) h₁ h₂)
      by true false true h₁ h₂ h₃ = absurd (clash e.tag NORMAL TENTATIVE (λ q. omega arith) h₁ h₃)
      by true false false h₁ h₂ h₃ = simp (h₂, h₃, h₁)
      by false true t h₁ h₂ h₃ = simp h₂
      by false false true h₁ h₂ h₃ = simp (h₂, h₃)
      by false false false h₁ h₂ h₃ = simp (h₂, h₃, h₁)

-- both are this: entries tagged a become invalid, entries tagged b NORMAL
abbrev pub ends : ℕ → ℕ → Entry → Entry
ends a b e = pick (eqb e.tag a) no_entry (pick (eqb e.tag b) (with_tag e NORMAL) e)

pub range_ends : (a b : ℕ) (e : Entry) → InRange e → InRange (ends a b e)
range_ends a b e h = by (eqb e.tag a) (eqb e.tag b)
  where
    by : (x y : Bool) → InRange (pick x no_entry (pick y (with_tag e NORMAL) e))
    by true y = record { state = omega arith; tag = omega arith; word = omega arith; «data» = omega arith }
    by false true = record { state = h.state; tag = omega arith; word = h.word; «data» = h.«data» }
    by false false = h

pub fits_ends : {d : Dims} {p i : ℕ} (a b : ℕ) → b ≢ INVALID → (e : Entry) → Fits (EntryFits d) p i e → Fits (EntryFits d) p i (ends a b e)
fits_ends {d} {p} {i} a b n e f = by (eqb e.tag a) (eqb e.tag b) refl f
  where
    by : (x y : Bool) → eqb e.tag b ≡ y → Fits (EntryFits d) p i e → Fits (EntryFits d) p i (pick x no_entry (pick y (with_tag e NORMAL) e))
    by true y h f = inl refl
    by false true h (inl z) = absurd (n (sym (eqb-true e.tag b h) ∙ ap (λ (x : Entry). x.tag) z))
    by false true h (inr g) = inr (record { processor = g.processor; slot = g.slot; held = g.held; tag = λ z. omega arith; word = g.word })
    by false false h f = f
