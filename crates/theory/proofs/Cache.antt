-- One processor's two caches, by line and by slot, and what they hold of a word. A layout (flat lists, arrays of structs) is
-- read as two functions, `slot` and `line`; E is the number of slots and `home w` the line of word w.
use mathlib.Core.Path.{◌≡◌, refl, sym, ◌∙◌}
use mathlib.Core.Logic.{◌≢◌, ◌⊎◌, inl, inr}
use mathlib.Core.Bool.{Bool, true, false, true≢false, false≢true}
use Prim.Native.Nat.{ℕ, zero, suc, ◌<◌}
use native.Mathlib.Decide.{ℕ_discrete}
use native.Mathlib.Omega.{arith}
use Rattle.theory.specs.View.{LineState, Back, bare, backup, Copy, none, regular, normal, tentative}

pub data Slot : Type 0 where
  vacant : Slot
  slot_normal slotBackup : LineState → ℕ → ℕ → Slot  -- state, word, data
  slot_tentative : LineState → ℕ → ℕ → Bool → Slot  -- and whether it may have been stored to

pub data Line : Type 0 where
  blank : Line
  filled : LineState → ℕ → ℕ → Line

abbrev pub told : {A : Type 0} → Dec A → Bool
told (yes a) = true
told (no n) = false

pub told_yes : {A : Type 0} (d : Dec A) → A → told d ≡ true
told_yes (yes a) h = refl
told_yes (no n) h = absurd (n h)

pub told_no : {A : Type 0} (d : Dec A) → ¬ A → told d ≡ false
told_no (yes a) h = absurd (h a)
told_no (no n) h = refl

pub told_true : {A : Type 0} (d : Dec A) → told d ≡ true → A
told_true (yes a) h = a
told_true (no n) h = absurd (false≢true h)

pub is : ℕ → ℕ → Bool
is u w = told (ℕ_discrete u w)

pub is_self : (w : ℕ) → is w w ≡ true
unfolding is
is_self w = told_yes (ℕ_discrete w w) refl

pub is_other : (u w : ℕ) → u ≢ w → is u w ≡ false
unfolding is
is_other u w n = told_no (ℕ_discrete u w) n

pub is_true : (u w : ℕ) → is u w ≡ true → u ≡ w
unfolding is
is_true u w h = told_true (ℕ_discrete u w) h

-- what a slot claims: the word's own entry, its backup, its tentative entry
abbrev pub main_on : ℕ → Slot → Bool
main_on w vacant = false
main_on w (slot_normal s u d) = is u w
main_on w (slotBackup s u d) = false
main_on w (slot_tentative s u d t) = is u w

abbrev pub back_on : ℕ → Slot → Bool
back_on w vacant = false
back_on w (slot_normal s u d) = false
back_on w (slotBackup s u d) = is u w
back_on w (slot_tentative s u d t) = false

abbrev pub tentative_on : ℕ → Slot → Bool
tentative_on w vacant = false
tentative_on w (slot_normal s u d) = false
tentative_on w (slotBackup s u d) = false
tentative_on w (slot_tentative s u d t) = is u w

abbrev pub regular_on : ℕ → Line → Bool
regular_on w blank = false
regular_on w (filled s u d) = is u w

abbrev pub line_copy : Line → Copy
line_copy blank = none
line_copy (filled s u d) = regular s d

abbrev pub slot_copy : Slot → Back → Copy
slot_copy vacant b = none
slot_copy (slot_normal s u d) b = normal s d
slot_copy (slotBackup s u d) b = none
slot_copy (slot_tentative s u d t) b = tentative s d b t

abbrev pub slot_back : Slot → Back
slot_back vacant = bare
slot_back (slot_normal s u d) = bare
slot_back (slotBackup s u d) = backup s d
slot_back (slot_tentative s u d t) = bare

-- the lowest number below n that passes
pub data Found : Type 0 where
  found : ℕ → Found
  missing : Found

abbrev pub or_else : Found → Bool → ℕ → Found
or_else (found i) b n = found i
or_else missing true n = found n
or_else missing false n = missing

unfoldable pub first : (ℕ → Bool) → ℕ → Found
first f zero = missing
first f (suc n) = or_else (first f n) (f n) n

pub data First (f : ℕ → Bool) (n : ℕ) : Found → Type 0 where
  at_first : (i : ℕ) → i < n → f i ≡ true → ((j : ℕ) → j < i → f j ≡ false) → First f n (found i)
  no_first : ((j : ℕ) → j < n → f j ≡ false) → First f n missing

pub first_is : (f : ℕ → Bool) (n : ℕ) → First f n (first f n)
unfolding first
first_is f zero = no_first (λ j l. absurd (omega arith))
first_is f (suc n) = step (first f n) (first_is f n) (f n) refl
  where
    step : (r : Found) → First f n r → (b : Bool) → f n ≡ b → First f (suc n) (or_else r b n)
    step r (at_first i l h g) b e = at_first i (omega arith) h g
    step r (no_first g) true e = at_first n (omega arith) e g
    step r (no_first g) false e = no_first (λ j l. elim (ℕ_discrete j n) [ yes i ↦ rw i e | no i ↦ g j (omega arith) ])

module _ (E : ℕ) (home : ℕ → ℕ) (slot : ℕ → Slot) (line : ℕ → Line) where
  -- what the slots hold of a word, as a relation
  pub data Backs (w : ℕ) : Back → Type 0 where
    backed : {b : Back} (j : ℕ) → j < E → back_on w (slot j) ≡ true → slot_back (slot j) ≡ b → Backs w b
    unbacked : {b : Back} → ((j : ℕ) → j < E → back_on w (slot j) ≡ false) → bare ≡ b → Backs w b

  pub data Has (w : ℕ) : Copy → Type 0 where
    in_line : {k : Copy} → regular_on w (line (home w)) ≡ true → line_copy (line (home w)) ≡ k → Has w k
    in_slot : {k : Copy} {b : Back} (i : ℕ) → i < E → regular_on w (line (home w)) ≡ false → main_on w (slot i) ≡ true → Backs w b
        → slot_copy (slot i) b ≡ k → Has w k
    nowhere : {k : Copy} → regular_on w (line (home w)) ≡ false → ((i : ℕ) → i < E → main_on w (slot i) ≡ false) → none ≡ k → Has w k

  -- and as a function
  pub look_back : ℕ → Found → Back
  look_back w (found j) = slot_back (slot j)
  look_back w missing = bare

  pub back_of : ℕ → Back
  back_of w = look_back w (first (λ j. back_on w (slot j)) E)

  pub look_main : ℕ → Found → Copy
  look_main w (found i) = slot_copy (slot i) (back_of w)
  look_main w missing = none

  pub look_line : ℕ → Bool → Copy
  look_line w true = line_copy (line (home w))
  look_line w false = look_main w (first (λ i. main_on w (slot i)) E)

  pub look : ℕ → Copy
  look w = look_line w (regular_on w (line (home w)))

  pub back_is : (w : ℕ) → Backs w (back_of w)
  unfolding back_of look_back
  back_is w = go (first (λ j. back_on w (slot j)) E) (first_is (λ j. back_on w (slot j)) E)
    where
      go : (r : Found) → First (λ j. back_on w (slot j)) E r → Backs w (look_back w r)
      go r (at_first j l h g) = backed j l h refl
      go r (no_first g) = unbacked g refl

  main_is : (w : ℕ) → regular_on w (line (home w)) ≡ false → (r : Found) → First (λ i. main_on w (slot i)) E r → Has w (look_main w r)
  unfolding look_main
  main_is w e r (at_first i l h g) = in_slot i l e h (back_is w) refl
  main_is w e r (no_first g) = nowhere e g refl

  pub look_is : (w : ℕ) → Has w (look w)
  unfolding look look_line
  look_is w = go (regular_on w (line (home w))) refl
    where
      go : (b : Bool) → regular_on w (line (home w)) ≡ b → Has w (look_line w b)
      go true e = in_line e refl
      go false e = main_is w e (first (λ i. main_on w (slot i)) E) (first_is (λ i. main_on w (slot i)) E)

  -- within a processor a word has one entry at most, one backup at most, and a backup only with a tentative entry
  pub record Tidy : Type 0 where
    pub mains : (w i j : ℕ) → i < E → j < E → main_on w (slot i) ≡ true → main_on w (slot j) ≡ true → i ≡ j
    pub backs : (w i j : ℕ) → i < E → j < E → back_on w (slot i) ≡ true → back_on w (slot j) ≡ true → i ≡ j
    pub apart : (w i : ℕ) → i < E → main_on w (slot i) ≡ true → regular_on w (line (home w)) ≡ false
    pub paired : (w j : ℕ) → j < E → back_on w (slot j) ≡ true → (i : ℕ) × (i < E) × (tentative_on w (slot i) ≡ true)

  backs_one : Tidy → (w : ℕ) (b b' : Back) → Backs w b → Backs w b' → b ≡ b'
  backs_one T w b b' (backed j l h e) (backed j' l' h' e') = cc (T.backs w j j' l l' h h')
  backs_one T w b b' (backed j l h e) (unbacked g y) = absurd (true≢false (sym h ∙ g j l))
  backs_one T w b b' (unbacked g y) (backed j l h e) = absurd (true≢false (sym h ∙ g j l))
  backs_one T w b b' (unbacked g y) (unbacked g' y') = sym y ∙ y'

  pub has_one : Tidy → (w : ℕ) (k k' : Copy) → Has w k → Has w k' → k ≡ k'
  has_one T w k k' (in_line h e) (in_line h' e') = cc
  has_one T w k k' (in_line h e) (in_slot i l r m b e') = absurd (true≢false (sym h ∙ r))
  has_one T w k k' (in_line h e) (nowhere r g y) = absurd (true≢false (sym h ∙ r))
  has_one T w k k' (in_slot i l r m b e) (in_line h e') = absurd (true≢false (sym h ∙ r))
  has_one T w k k' (in_slot {b = b₁} i l r m b e) (in_slot {b = b₂} i' l' r' m' b' e') = cc (T.mains w i i' l l' m m', backs_one T w b₁ b₂ b b')
  has_one T w k k' (in_slot i l r m b e) (nowhere r' g y) = absurd (true≢false (sym m ∙ g i l))
  has_one T w k k' (nowhere r g y) (in_line h e) = absurd (true≢false (sym h ∙ r))
  has_one T w k k' (nowhere r g y) (in_slot i l r' m b e) = absurd (true≢false (sym m ∙ g i l))
  has_one T w k k' (nowhere r g y) (nowhere r' g' y') = sym y ∙ y'

  pub looks : Tidy → (w : ℕ) (k : Copy) → Has w k → look w ≡ k
  looks T w k h = has_one T w (look w) k (look_is w) h

-- a slot and what becomes of it, as far as word w is concerned: the same, or it had and has nothing of w
abbrev pub Off : ℕ → Slot → Type 0
Off w x = (main_on w x ≡ false) × (back_on w x ≡ false)

abbrev pub Calm : ℕ → Slot → Slot → Type 0
Calm w x y = (y ≡ x) ⊎ (Off w x × Off w y)

abbrev pub LineCalm : ℕ → Line → Line → Type 0
LineCalm w x y = (y ≡ x) ⊎ ((regular_on w x ≡ false) × (regular_on w y ≡ false))

module _ (E : ℕ) (home : ℕ → ℕ) (slot slot' : ℕ → Slot) (line line' : ℕ → Line) where
  module _ (w : ℕ) (ls : LineCalm w (line (home w)) (line' (home w))) (cs : (i : ℕ) → i < E → Calm w (slot i) (slot' i)) where
    off_main : (i : ℕ) → i < E → main_on w (slot i) ≡ false → main_on w (slot' i) ≡ false
    off_main i l h = elim (cs i l) [ inl e ↦ rw e h | inr o ↦ o.1.0 ]

    off_back : (i : ℕ) → i < E → back_on w (slot i) ≡ false → back_on w (slot' i) ≡ false
    off_back i l h = elim (cs i l) [ inl e ↦ rw e h | inr o ↦ o.1.1 ]

    on_main : (i : ℕ) → i < E → main_on w (slot i) ≡ true → slot' i ≡ slot i
    on_main i l h = elim (cs i l) [ inl e ↦ e | inr o ↦ absurd (true≢false (sym h ∙ o.0.0)) ]

    on_back : (i : ℕ) → i < E → back_on w (slot i) ≡ true → slot' i ≡ slot i
    on_back i l h = elim (cs i l) [ inl e ↦ e | inr o ↦ absurd (true≢false (sym h ∙ o.0.1)) ]

    off_line : regular_on w (line (home w)) ≡ false → regular_on w (line' (home w)) ≡ false
    off_line h = elim ls [ inl e ↦ rw e h | inr o ↦ o.1 ]

    on_line_lem : regular_on w (line (home w)) ≡ true → line' (home w) ≡ line (home w)
    on_line_lem h = elim ls [ inl e ↦ e | inr o ↦ absurd (true≢false (sym h ∙ o.0)) ]

    pub carry_back : (b : Back) → Backs E home slot line w b → Backs E home slot' line' w b
    carry_back b (backed j l h e) = backed {b = b} j l (rw (on_back j l h) h) (rw (on_back j l h) e)
    carry_back b (unbacked g y) = unbacked (λ j l. off_back j l (g j l)) y

    pub carry : (k : Copy) → Has E home slot line w k → Has E home slot' line' w k
    carry k (in_line h e) = in_line {k = k} (rw (on_line_lem h) h) (rw (on_line_lem h) e)
    carry k (in_slot {b = b} i l r m bk e) = in_slot {k = k} {b = b} i l (off_line r) (rw (on_main i l m) m) (carry_back b bk) (rw (on_main i l m) e)
    carry k (nowhere r g y) = nowhere (off_line r) (λ i l. off_main i l (g i l)) y

    pub look_calm : Tidy E home slot' line' → look E home slot' line' w ≡ look E home slot line w
    look_calm T = looks E home slot' line' T w (look E home slot line w) (carry _ (look_is E home slot line w))

  -- no new claims, and a tentative entry stays where a backup does
  pub tidy_shrink : Tidy E home slot line
      → ((i w : ℕ) → i < E → main_on w (slot' i) ≡ true → main_on w (slot i) ≡ true)
      → ((i w : ℕ) → i < E → back_on w (slot' i) ≡ true → back_on w (slot i) ≡ true)
      → ((i j w : ℕ) → i < E → j < E → back_on w (slot' j) ≡ true → tentative_on w (slot i) ≡ true → tentative_on w (slot' i) ≡ true)
      → ((w : ℕ) → regular_on w (line (home w)) ≡ false → regular_on w (line' (home w)) ≡ false)
      → Tidy E home slot' line'
  tidy_shrink T m b t r = record {
    mains = λ w i j l l' h h'. T.mains w i j l l' (m i w l h) (m j w l' h');
    backs = λ w i j l l' h h'. T.backs w i j l l' (b i w l h) (b j w l' h');
    apart = λ w i l h. r w (T.apart w i l (m i w l h));
    paired = λ w j l h. let x = T.paired w j l (b j w l h) in (x.0, x.1, t x.0 j w x.1 l h x.2);
  }

pub not-true : (b : Bool) → ¬ (b ≡ true) → b ≡ false
not-true true h = absurd (h refl)
not-true false h = refl

pub main_tentative : (w : ℕ) (x : Slot) → tentative_on w x ≡ true → main_on w x ≡ true
main_tentative w vacant h = h
main_tentative w (slot_normal s u d) h = absurd (false≢true h)
main_tentative w (slotBackup s u d) h = absurd (false≢true h)
main_tentative w (slot_tentative s u d t) h = h
