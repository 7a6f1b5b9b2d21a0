-- A change of one line of the regular cache.
use mathlib.Core.Path.{◌≡◌, refl, sym, ◌∙◌}
use mathlib.Core.Logic.{◌≢◌, inl, inr}
use mathlib.Core.Bool.{true, false, true≢false}
use Prim.Native.Nat.{ℕ, ◌<◌}
use native.Mathlib.Decide.{ℕ_discrete}
use Rattle.theory.specs.View.{LineState, none, regular}
use Rattle.theory.proofs.Cache.{Slot, Line, blank, filled, is_self, is_other, main_on, regular_on}
use Rattle.theory.proofs.Cache.{in_line, nowhere, look, Tidy, looks, LineCalm, look_calm, not-true}

abbrev pub LineIs : ℕ → Line → Type 0
LineIs u blank = Unit {0}
LineIs u (filled s v d) = v ≡ u

line_off : (u : ℕ) (x : Line) → LineIs u x → (w : ℕ) → w ≢ u → regular_on w x ≡ false
line_off u blank e w n = refl
line_off u (filled s v d) e w n = is_other v w (λ i. n (sym i ∙ e))

module _ (E : ℕ) (home : ℕ → ℕ) (slot : ℕ → Slot) (line line' : ℕ → Line) (T : Tidy E home slot line)
    (u h : ℕ) (home-u : home u ≡ h) (else : (g : ℕ) → g ≢ h → line' g ≡ line g) where
  module _ {x y : Line} (was : line h ≡ x) (here : line' h ≡ y) (xu : LineIs u x) (yu : LineIs u y) where
    line_calm : (w : ℕ) → w ≢ u → LineCalm w (line (home w)) (line' (home w))
    line_calm w n = elim (ℕ_discrete (home w) h)
        [ yes e ↦ inr (rw (e, was) (line_off u x xu w n), rw (e, here) (line_off u y yu w n)) | no m ↦ inl (else (home w) m) ]

    -- the line takes a word that no slot has
    pub tidy_line : ((i : ℕ) → i < E → main_on u (slot i) ≡ false) → Tidy E home slot line'
    tidy_line o = record { mains = T.mains; backs = T.backs; paired = T.paired; apart = ap' }
      where
        ap' : (w i : ℕ) → i < E → main_on w (slot i) ≡ true → regular_on w (line' (home w)) ≡ false
        ap' w i l m = go (ℕ_discrete w u)
          where
            go : Dec (w ≡ u) → regular_on w (line' (home w)) ≡ false
            go (yes e) = absurd (true≢false (sym m ∙ rw e (o i l)))
            go (no n) = elim (line_calm w n) [ inl e ↦ rw e (T.apart w i l m) | inr z ↦ z.1 ]

    pub line_else : ((i : ℕ) → i < E → main_on u (slot i) ≡ false) → (w : ℕ) → w ≢ u → look E home slot line' w ≡ look E home slot line w
    line_else o w n = look_calm E home slot slot line line' w (line_calm w n) (λ i l. inl refl) (tidy_line o)

  -- where the line has the word, no slot does
  pub line_main : {s : LineState} {d : ℕ} → line h ≡ filled s u d → (i : ℕ) → i < E → main_on u (slot i) ≡ false
  line_main e i l = not-true _ (λ m. true≢false (sym (rw (home-u, e) (is_self u)) ∙ T.apart u i l m))

  pub look_line_lem : {s : LineState} {d : ℕ} → line h ≡ filled s u d → look E home slot line u ≡ regular s d
  look_line_lem {s} {d} e = looks E home slot line T u (regular s d) (in_line (rw (home-u, e) (is_self u)) (rw (home-u, e)))

  pub look_blank : (o : (i : ℕ) → i < E → main_on u (slot i) ≡ false) {x : Line} → line h ≡ x → LineIs u x → line' h ≡ blank
      → look E home slot line' u ≡ none
  look_blank o {x} was xu here = looks E home slot line' (tidy_line {y = blank} was here xu tt o) u none (nowhere (rw (home-u, here)) o refl)

  pub look_filled : (o : (i : ℕ) → i < E → main_on u (slot i) ≡ false) {x : Line} {s : LineState} {d : ℕ} → line h ≡ x → LineIs u x
      → line' h ≡ filled s u d → look E home slot line' u ≡ regular s d
  look_filled o {x} {s} {d} was xu here = looks E home slot line' (tidy_line {y = filled s u d} was here xu refl o) u (regular s d)
      (in_line (rw (home-u, here) (is_self u)) (rw (home-u, here)))
