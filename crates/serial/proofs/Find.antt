-- What the machine's searches say of a processor's own copy of a word.
use mathlib.Core.Path.{◌≡◌, refl, sym, ◌∙◌, ap}
use mathlib.Core.Bool.{Bool, true, false, true≢false, not}
use Prim.Native.Nat.{ℕ, ◌≤◌, ◌<◌}
use native.Mathlib.Nat.{mod-lt}
use native.Mathlib.Omega.{arith}
use lib.Dec.{eqb}
use borrow.Author.Tests.{eqb-true, eqb-false, eq-eqb, not-true}
use Rattle.laws.specs.Choice.{both, both_true, both_left, both_right}
use Rattle.laws.specs.Search.{first_from, first_has, first_not}
use Rattle.entry.specs.declared.Entry.{Entry}
use Rattle.entry.specs.Numbers.{INVALID, DIRTY, NORMAL, TENTATIVE}
use Rattle.rules.specs.declared.Dims.{Dims}
use Rattle.rules.specs.declared.Caches.{Caches}
use Rattle.rules.specs.State.{line_at, entry_at}
use Rattle.rules.specs.Own.{home, holds, has_entry, find_entry}
use Rattle.theory.specs.View.{Back, Copy, none, regular, normal, tentative, is_tentative}
use Rattle.theory.proofs.Cache.{vacant, slot_normal, slot_tentative, blank, filled, regular_on, is_self, is_true, looks, in_line, back_is, back_of}
use Rattle.theory.proofs.Slots.{look_normal, look_tentative}
use Rattle.theory.proofs.Looks.{normal_seen, tentative_seen, regular_seen}
use Rattle.theory.specs.Protocol.{is_normal, is_regular}
use Rattle.serial.proofs.Decode.{state_of, slot_of, line_of, decoded, seen, read_at}
use Rattle.serial.proofs.Frame.{LineFits, EntryFits, Fits, Size}
use Rattle.serial.proofs.Set.{Fit}
use Rattle.serial.proofs.Codes.{normal_slot, tentative_slot, filled_line, slot_normal_lem, slot_tentative_lem}

pub home_in : {d : Dims} → Size d → (w : ℕ) → home d w < d.lines
unfolding home
home_in z w = mod-lt w z.some_line

pub is_none : (k : Copy) → is_regular k ≡ false → is_normal k ≡ false → is_tentative k ≡ false → k ≡ none
is_none none r n t = refl
is_none (regular s d) r n t = absurd (true≢false r)
is_none (normal s d) r n t = absurd (true≢false n)
is_none (tentative s d b f) r n t = absurd (true≢false t)

-- the search for an entry
module _ (s : Caches) (p n tag w : ℕ) where
  pub found_tag : find_entry s.entries p n tag w < n → (entry_at s p (find_entry s.entries p n tag w)).tag ≡ tag
  unfolding find_entry
  found_tag l =
      let i = first_from (has_entry s.entries p tag w) 0 n in
      eqb-true (entry_at s p i).tag tag
      (both_left (eqb (entry_at s p i).tag tag) (eqb (entry_at s p i).word w) (first_has (has_entry s.entries p tag w) 0 n (omega arith)))

  pub found_word : find_entry s.entries p n tag w < n → (entry_at s p (find_entry s.entries p n tag w)).word ≡ w
  unfolding find_entry
  found_word l =
      let i = first_from (has_entry s.entries p tag w) 0 n in
      eqb-true (entry_at s p i).word w
      (both_right (eqb (entry_at s p i).tag tag) (eqb (entry_at s p i).word w) (first_has (has_entry s.entries p tag w) 0 n (omega arith)))

  pub found_none : n ≤ find_entry s.entries p n tag w → (i : ℕ) → i < n → (entry_at s p i).tag ≡ tag → (entry_at s p i).word ≡ w → ⊥
  unfolding find_entry
  found_none l i li ht hw =
      true≢false
      (sym (both_true (eqb (entry_at s p i).tag tag) (eqb (entry_at s p i).word w) (eq-eqb (entry_at s p i).tag tag ht)
      (eq-eqb (entry_at s p i).word w hw)) ∙
      first_not (has_entry s.entries p tag w) 0 n i (omega arith) (omega arith))

module _ {d : Dims} {s : Caches} (F : Fit d s) (p : ℕ) (lp : p < d.processors) where
  pub entry_fits : (i : ℕ) → i < d.entries → Fits (EntryFits d) p i (entry_at s p i)
  entry_fits i li = let z = F.frame.size in F.frame.entries.each p i (omega arith) (omega arith)

  pub line_fits : (w : ℕ) → Fits (LineFits d) p (home d w) (line_at s p (home d w))
  line_fits w = let z = F.frame.size in F.frame.lines.each p (home d w) (omega arith) (omega (arith, home_in z w))

  pub slot_at : (i : ℕ) → i < d.entries → (decoded d s).slot p i ≡ slot_of (entry_at s p i)
  slot_at i li = read_at slot_of vacant d.processors d.entries s.entries p i lp li

  pub line_at_lem : (w : ℕ) → (decoded d s).line p (home d w) ≡ line_of (line_at s p (home d w))
  line_at_lem w = read_at line_of blank d.processors d.lines s.lines p (home d w) lp (home_in F.frame.size w)

  -- the backup that the view gives the word
  abbrev pub backing : ℕ → Back
  backing w = back_of d.entries (home d) ((decoded d s).slot p) ((decoded d s).line p) w

  module _ (w : ℕ) where
    -- the regular copy
    pub line_filled : (e : Entry) → line_at s p (home d w) ≡ e → holds e w ≡ true
        → (decoded d s).line p (home d w) ≡ filled (state_of e.state) w e.«data»
    line_filled e q h =
        line_at_lem w ∙
        (ap line_of q ∙
        (filled_line e
        (eqb-false e.state INVALID (not-true (eqb e.state INVALID) (both_left (not (eqb e.state INVALID)) (eqb e.word w) h))) ∙
        ap (λ (u : ℕ). filled (state_of e.state) u e.«data»)
        (eqb-true e.word w (both_right (not (eqb e.state INVALID)) (eqb e.word w) h))))

    pub has_regular : (e : Entry) → line_at s p (home d w) ≡ e → holds e w ≡ true → (seen d s).copy w p ≡ regular (state_of e.state) e.«data»
    has_regular e q h =
        let f = line_filled e q h in
        looks d.entries (home d) ((decoded d s).slot p) ((decoded d s).line p) (F.tidy p) w _ (in_line (rw f (is_self w)) (rw f))

    pub no_regular : (e : Entry) → line_at s p (home d w) ≡ e → holds e w ≡ false → is_regular ((seen d s).copy w p) ≡ false
    no_regular e q h = go ((seen d s).copy w p) refl
      where
        on : (b : Bool) → eqb e.state INVALID ≡ b → regular_on w (line_of e) ≡ true → both (not b) (eqb e.word w) ≡ true
        on true z r = absurd (true≢false (sym (rw z at r)))
        on false z r = eq-eqb e.word w (is_true e.word w (rw z at r))

        go : (k : Copy) → (seen d s).copy w p ≡ k → is_regular k ≡ false
        go none z = refl
        go (normal x y) z = refl
        go (tentative x y b t) z = refl
        go (regular x y) z =
            let r = regular_seen d.entries (home d) ((decoded d s).slot p) ((decoded d s).line p) w z in
            absurd (true≢false (sym (on (eqb e.state INVALID) refl (ap (regular_on w) (sym (line_at_lem w ∙ ap line_of q)) ∙ r)) ∙ h))

    -- the NORMAL copy, at entry i
    module _ (i : ℕ) (li : i < d.entries) (e : Entry) (q : entry_at s p i ≡ e) (hw : e.word ≡ w) where
      pub slot_normal_at : e.tag ≡ NORMAL → (decoded d s).slot p i ≡ slot_normal (state_of e.state) w e.«data»
      slot_normal_at ht = slot_at i li ∙ (ap slot_of q ∙ (normal_slot e ht ∙ ap (λ (u : ℕ). slot_normal (state_of e.state) u e.«data») hw))

      pub has_normal : e.tag ≡ NORMAL → (seen d s).copy w p ≡ normal (state_of e.state) e.«data»
      has_normal ht = look_normal d.entries (home d) ((decoded d s).slot p) ((decoded d s).line p) (F.tidy p) i li (slot_normal_at ht)

      -- the tentative copy
      pub slot_tentative_at : e.tag ≡ TENTATIVE → (decoded d s).slot p i ≡ slot_tentative (state_of e.state) w e.«data» (eqb e.state DIRTY)
      slot_tentative_at ht =
          slot_at i li ∙
          (ap slot_of q ∙ (tentative_slot e ht ∙ ap (λ (u : ℕ). slot_tentative (state_of e.state) u e.«data» (eqb e.state DIRTY)) hw))

      pub has_tentative : e.tag ≡ TENTATIVE → (seen d s).copy w p ≡ tentative (state_of e.state) e.«data» (backing w) (eqb e.state DIRTY)
      has_tentative ht =
          look_tentative d.entries (home d) ((decoded d s).slot p) ((decoded d s).line p) (F.tidy p) i li (slot_tentative_at ht)
          (back_is d.entries (home d) ((decoded d s).slot p) ((decoded d s).line p) w)

    pub no_normal : d.entries ≤ find_entry s.entries p d.entries NORMAL w → is_normal ((seen d s).copy w p) ≡ false
    no_normal l = go ((seen d s).copy w p) refl
      where
        go : (k : Copy) → (seen d s).copy w p ≡ k → is_normal k ≡ false
        go none z = refl
        go (regular x y) z = refl
        go (tentative x y b t) z = refl
        go (normal x y) z =
            let r = normal_seen d.entries (home d) ((decoded d s).slot p) ((decoded d s).line p) w z in
            let e = slot_normal_lem (entry_at s p r.0) (sym (slot_at r.0 r.1) ∙ r.2) in
            absurd (found_none s p d.entries NORMAL w l r.0 r.1 e.tagged e.word)

    pub no_tentative : d.entries ≤ find_entry s.entries p d.entries TENTATIVE w → is_tentative ((seen d s).copy w p) ≡ false
    no_tentative l = go ((seen d s).copy w p) refl
      where
        go : (k : Copy) → (seen d s).copy w p ≡ k → is_tentative k ≡ false
        go none z = refl
        go (regular x y) z = refl
        go (normal x y) z = refl
        go (tentative x y b t) z =
            let r = tentative_seen d.entries (home d) ((decoded d s).slot p) ((decoded d s).line p) w z in
            let e = (slot_tentative_lem (entry_at s p r.0) (sym (slot_at r.0 r.1) ∙ r.2)).0 in
            absurd (found_none s p d.entries TENTATIVE w l r.0 r.1 e.tagged e.word)
