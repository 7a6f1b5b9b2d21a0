-- What a processor is seen to hold of a word is in one of its slots or lines.
use mathlib.Core.Path.{◌≡◌, refl, sym, ◌∙◌}
use mathlib.Core.Bool.{Bool, true, false, true≢false, false≢true}
use Prim.Native.Nat.{ℕ, ◌<◌}
use Rattle.theory.specs.View.{LineState, Back, Copy, none, regular, normal, tentative}
use Rattle.theory.proofs.Cache.{Slot, vacant, slot_normal, slotBackup, slot_tentative, Line, blank, filled}
use Rattle.theory.proofs.Cache.{is_true, main_on, back_on, regular_on, line_copy, slot_copy, Backs, Has, in_line}
use Rattle.theory.proofs.Cache.{in_slot, nowhere, look, look_is, Tidy, main_tentative, not-true, looks}
use Rattle.theory.proofs.Slots.{look_none}

-- what is seen is in a slot
pub tentative_seen : (E : ℕ) (home : ℕ → ℕ) (slot : ℕ → Slot) (line : ℕ → Line) (w : ℕ) {s : LineState} {d : ℕ} {b : Back} {t : Bool}
    → look E home slot line w ≡ tentative s d b t
    → (i : ℕ) × (i < E) × (slot i ≡ slot_tentative s w d t) × Backs E home slot line w b
tentative_seen E home slot line w {s} {d} {b} {t} e = go (look E home slot line w) (look_is E home slot line w) e
  where
    go : (k : Copy) → Has E home slot line w k → k ≡ tentative s d b t → (i : ℕ) × (i < E) × (slot i ≡ slot_tentative s w d t)
        × Backs E home slot line w b
    go k (in_line h y) e = absurd (one (line (home w)) (y ∙ e))
      where
        one : (x : Line) → line_copy x ≡ tentative s d b t → ⊥
        one blank y = let z : true ≡ false = cc in true≢false z
        one (filled s' u d') y = let z : true ≡ false = cc in true≢false z
    go k (in_slot {b = b'} i l r m bk y) e = one (slot i) refl m (y ∙ e)
      where
        one : (x : Slot) → slot i ≡ x → main_on w x ≡ true → slot_copy x b' ≡ tentative s d b t → (i : ℕ) × (i < E) × (slot i ≡ slot_tentative s w d t)
            × Backs E home slot line w b
        one vacant z m y = absurd (false≢true m)
        one (slot_normal s' u d') z m y = let q : true ≡ false = cc in absurd (true≢false q)
        one (slotBackup s' u d') z m y = absurd (false≢true m)
        one (slot_tentative s' u d' t') z m y =
            let eb : b' ≡ b = cc in
            (i, l, cc (is_true u w m), rw eb at bk)
    go k (nowhere r g y) e = let z : true ≡ false = cc in absurd (true≢false z)

pub normal_seen : (E : ℕ) (home : ℕ → ℕ) (slot : ℕ → Slot) (line : ℕ → Line) (w : ℕ) {s : LineState} {d : ℕ} → look E home slot line w ≡ normal s d
    → (i : ℕ) × (i < E) × (slot i ≡ slot_normal s w d)
normal_seen E home slot line w {s} {d} e = go (look E home slot line w) (look_is E home slot line w) e
  where
    go : (k : Copy) → Has E home slot line w k → k ≡ normal s d → (i : ℕ) × (i < E) × (slot i ≡ slot_normal s w d)
    go k (in_line h y) e = absurd (one (line (home w)) (y ∙ e))
      where
        one : (x : Line) → line_copy x ≡ normal s d → ⊥
        one blank y = let z : true ≡ false = cc in true≢false z
        one (filled s' u d') y = let z : true ≡ false = cc in true≢false z
    go k (in_slot {b = b'} i l r m bk y) e = one (slot i) refl m (y ∙ e)
      where
        one : (x : Slot) → slot i ≡ x → main_on w x ≡ true → slot_copy x b' ≡ normal s d → (i : ℕ) × (i < E) × (slot i ≡ slot_normal s w d)
        one vacant z m y = absurd (false≢true m)
        one (slot_normal s' u d') z m y = (i, l, cc (is_true u w m))
        one (slotBackup s' u d') z m y = absurd (false≢true m)
        one (slot_tentative s' u d' t') z m y = let q : true ≡ false = cc in absurd (true≢false q)
    go k (nowhere r g y) e = let z : true ≡ false = cc in absurd (true≢false z)

pub regular_seen : (E : ℕ) (home : ℕ → ℕ) (slot : ℕ → Slot) (line : ℕ → Line) (w : ℕ) {s : LineState} {d : ℕ} → look E home slot line w ≡ regular s d
    → regular_on w (line (home w)) ≡ true
regular_seen E home slot line w {s} {d} e = go (look E home slot line w) (look_is E home slot line w) e
  where
    go : (k : Copy) → Has E home slot line w k → k ≡ regular s d → regular_on w (line (home w)) ≡ true
    go k (in_line h y) e = h
    go k (in_slot {b = b'} i l r m bk y) e = one (slot i) m (y ∙ e)
      where
        one : (x : Slot) → main_on w x ≡ true → slot_copy x b' ≡ regular s d → regular_on w (line (home w)) ≡ true
        one vacant m y = absurd (false≢true m)
        one (slot_normal s' u d') m y = let q : true ≡ false = cc in absurd (true≢false q)
        one (slotBackup s' u d') m y = absurd (false≢true m)
        one (slot_tentative s' u d' t') m y = let q : true ≡ false = cc in absurd (true≢false q)
    go k (nowhere r g y) e = let z : true ≡ false = cc in absurd (true≢false z)

-- a processor that has nothing of a word has no backup of it
pub none_backs : (E : ℕ) (home : ℕ → ℕ) (slot : ℕ → Slot) (line : ℕ → Line) → Tidy E home slot line → (w : ℕ) → look E home slot line w ≡ none
    → (j : ℕ) → j < E → back_on w (slot j) ≡ false
none_backs E home slot line T w e j l = not-true _
    (λ h. let x = T.paired w j l h in true≢false (sym (main_tentative w (slot x.0) x.2) ∙ (look_none E home slot line w e).1 x.0 x.1))

-- empty caches
module _ (E : ℕ) (home : ℕ → ℕ) (slot : ℕ → Slot) (line : ℕ → Line) (slots : (i : ℕ) → slot i ≡ vacant) where
  pub tidy_empty : Tidy E home slot line
  tidy_empty = record {
    mains = λ w i j l l' h h'. absurd (false≢true (rw (slots i) at h));
    backs = λ w i j l l' h h'. absurd (false≢true (rw (slots i) at h));
    apart = λ w i l h. absurd (false≢true (rw (slots i) at h));
    paired = λ w j l h. absurd (false≢true (rw (slots j) at h));
  }

  pub look_empty : ((h : ℕ) → line h ≡ blank) → (w : ℕ) → look E home slot line w ≡ none
  look_empty lines w = looks E home slot line tidy_empty w none (nowhere (rw (lines (home w))) (λ i l. rw (slots i)) refl)
