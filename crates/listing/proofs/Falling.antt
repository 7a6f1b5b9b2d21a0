-- With each line fewer are left, no line is longer than most_line, and none is empty.
use mathlib.Core.Path.{◌≡◌, refl, ◌∙◌}
use mathlib.Core.Bool.{Bool, true, false}
use mathlib.Core.List.{List}
use Prim.Native.Nat.{ℕ, ◌+◌, ◌-◌, ◌≤◌, ◌<◌}
use native.Mathlib.Omega.{arith}
use borrow.Author.Tests.{ltb-true, ltb-false, eqb-true, eqb-false, le-ltb}
use lib.Dec.{eqb, ltb}
use lib.ListN.{length}
use Rattle.laws.specs.Choice.{pick}
use Rattle.laws.specs.Search.{first_from}
use Rattle.rules.specs.declared.Dims.{Dims}
use Rattle.rules.specs.declared.Caches.{Caches}
use Rattle.entry.specs.Refusals.{accepted, too_long, unless}
use Rattle.text.specs.Records.{record_end, record_refusal}
use Rattle.text.proofs.Ends.{end_range}
use Rattle.listing.specs.declared.places.Place.{Place}
use Rattle.listing.specs.Phases.{HEADER, REFUSAL, RECORD, END, NOTHING}
use Rattle.listing.specs.Place.{past, phase_at, first_phase}
use Rattle.listing.specs.Records.{Looked, look_at, phase_after, place_after}
use Rattle.listing.specs.Listing.{Did, Going, goes_on, line_of, next_at, lines_left, do_record, do_other, do_line}
use Rattle.listing.proofs.Fitting.{IsFair, answer_fair, end_fair}

pick_case : (P : Did → Type 0) (b : Bool) (x y : Did) → (b ≡ true → P x) → (b ≡ false → P y) → P (pick b x y)
pick_case P true x y h k = h refl
pick_case P false x y h k = k refl

module _ (s : List ℕ) where
  past_on : (at : ℕ) → at < length s → at < past s (record_end s at)
  unfolding past
  past_on at h = by (ltb (record_end s at) (length s)) refl
    where
      by : (b : Bool) → ltb (record_end s at) (length s) ≡ b → at < pick b (record_end s at + 2) (record_end s at)
      by true e = omega (arith, (end_range s at (omega arith)).0)
      by false e = omega (arith, (end_range s at (omega arith)).0, ltb-false (record_end s at) (length s) e)

  past_end : (at : ℕ) → length s ≤ at → past s (record_end s at) ≡ at
  unfolding past record_end first_from
  past_end at h = let z : length s - at ≡ 0 = omega arith in rw (z, le-ltb at (length s) h)

  phase_on : (at : ℕ) → (RECORD ≤ phase_at s at) × (phase_at s at ≤ END)
  unfolding phase_at
  phase_on at = by (ltb at (length s))
    where
      by : (b : Bool) → (RECORD ≤ pick b RECORD END) × (pick b RECORD END ≤ END)
      by true = omega arith
      by false = omega arith

  phase_end : (at : ℕ) → length s ≤ at → phase_at s at ≡ END
  unfolding phase_at
  phase_end at h = rw (le-ltb at (length s) h)

  first_on : (x : Place) → REFUSAL ≤ first_phase s x
  unfolding first_phase
  first_on x = by (eqb x.refusal accepted)
    where
      by : (b : Bool) → REFUSAL ≤ unless b REFUSAL (phase_at s x.at)
      by true = omega (arith, (phase_on x.at).0)
      by false = omega arith

  after_on : (l : Looked) → RECORD ≤ phase_after s l
  unfolding phase_after
  after_on l = by (eqb (record_refusal l.fields) too_long)
    where
      by : (b : Bool) → RECORD ≤ pick b END (phase_at s l.next)
      by true = omega arith
      by false = (phase_on l.next).0

  after_end : (l : Looked) → length s ≤ l.next → phase_after s l ≡ END
  unfolding phase_after
  after_end l h = by (eqb (record_refusal l.fields) too_long)
    where
      by : (b : Bool) → pick b END (phase_at s l.next) ≡ END
      by true = refl
      by false = phase_end l.next h

  look_next : (x : Place) → (look_at s x).next ≡ past s (record_end s x.at)
  unfolding look_at
  look_next x = refl

  module _ (d : Dims) where
    record_falls : (x : Place) (c : Caches) → x.phase ≡ RECORD →
        (length s - (do_record s d x c).place.at) + (NOTHING - (do_record s d x c).place.phase) < (length s - x.at) + (NOTHING - x.phase)
    unfolding do_record place_after
    record_falls x c e = by (ltb x.at (length s)) refl
      where
        l : Looked
        l = look_at s x

        by : (b : Bool) → ltb x.at (length s) ≡ b → (length s - l.next) + (NOTHING - phase_after s l) < (length s - x.at) + (NOTHING - x.phase)
        by true h = let k = ltb-true x.at (length s) h in omega (arith, look_next x, past_on x.at k, after_on l, k)
        by false h =
            let k = ltb-false x.at (length s) h in
            let n : l.next ≡ x.at = look_next x ∙ past_end x.at k in
            omega (arith, n, after_end l (omega arith), k)

    other_falls : (x : Place) (c : Caches) → x.phase < NOTHING → (x.phase ≡ RECORD → ⊥) →
        (length s - (do_other s x c).place.at) + (NOTHING - (do_other s x c).place.phase) < (length s - x.at) + (NOTHING - x.phase)
    unfolding do_other
    other_falls x c h k =
        pick_case IsFewer (eqb x.phase HEADER) _ _
        (λ e. omega (arith, eqb-true x.phase HEADER e, first_on x))
        (λ e. pick_case IsFewer (eqb x.phase REFUSAL) _ _ (λ g. omega (arith, eqb-true x.phase REFUSAL g)) (λ g. omega (arith, h)))
      where
        IsFewer : Did → Type 0
        IsFewer r = (length s - r.place.at) + (NOTHING - r.place.phase) < (length s - x.at) + (NOTHING - x.phase)

    pub falls : (g : Going) → goes_on s d g ≡ true → lines_left s d (next_at s d g) < lines_left s d g
    unfolding do_line
    falls g e = by (eqb g.place.phase RECORD) refl
      where
        by : (b : Bool) → eqb g.place.phase RECORD ≡ b → lines_left s d (next_at s d g) < lines_left s d g
        by true h = rw h (record_falls g.place g.caches (eqb-true g.place.phase RECORD h))
        by false h =
            rw h
            (other_falls g.place g.caches (ltb-true g.place.phase NOTHING e) (eqb-false g.place.phase RECORD h))

    pub fair_line : (g : Going) → IsFair (line_of s d g)
    unfolding do_line do_record do_other
    fair_line g =
        pick_case IsFairly (eqb g.place.phase RECORD) _ _ (λ e. answer_fair _ _)
        (λ e. pick_case IsFairly (eqb g.place.phase HEADER) _ _ (λ h. omega arith)
        (λ h. pick_case IsFairly (eqb g.place.phase REFUSAL) _ _ (λ k. answer_fair _ _) (λ k. end_fair _ _)))
      where
        IsFairly : Did → Type 0
        IsFairly r = IsFair r.line
