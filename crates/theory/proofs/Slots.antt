-- A change of one slot: what the processor then holds of each word.
use mathlib.Core.Path.{◌≡◌, refl, sym, ◌∙◌}
use mathlib.Core.Logic.{◌≢◌, ◌⊎◌, inl, inr}
use mathlib.Core.Bool.{Bool, true, false, true≢false, false≢true}
use Prim.Native.Nat.{ℕ, ◌<◌}
use native.Mathlib.Decide.{ℕ_discrete}
use Rattle.theory.specs.View.{LineState, Back, bare, backup, Copy, none, normal, tentative}
use Rattle.theory.proofs.Cache.{Slot, vacant, slot_normal, slotBackup, slot_tentative, Line, blank, filled, is_self}
use Rattle.theory.proofs.Cache.{is_other, is_true, main_on, back_on, tentative_on, regular_on, line_copy, slot_copy}
use Rattle.theory.proofs.Cache.{Backs, backed, unbacked, Has, in_line, in_slot, nowhere, back_of, look, back_is}
use Rattle.theory.proofs.Cache.{look_is, Tidy, looks, Off, Calm, look_calm, tidy_shrink, main_tentative, not-true}

-- a slot that has nothing of any word but u
abbrev pub Of : ℕ → Slot → Type 0
Of u x = (w : ℕ) → w ≢ u → Off w x

abbrev pub WordIs : ℕ → Slot → Type 0
WordIs u vacant = Unit {0}
WordIs u (slot_normal s v d) = v ≡ u
WordIs u (slotBackup s v d) = v ≡ u
WordIs u (slot_tentative s v d t) = v ≡ u

pub of : (u : ℕ) (x : Slot) → WordIs u x → Of u x
of u vacant e w n = (refl, refl)
of u (slot_normal s v d) e w n = (is_other v w (λ i. n (sym i ∙ e)), refl)
of u (slotBackup s v d) e w n = (refl, is_other v w (λ i. n (sym i ∙ e)))
of u (slot_tentative s v d t) e w n = (is_other v w (λ i. n (sym i ∙ e)), refl)

main_word : (u : ℕ) (x : Slot) → WordIs u x → (w : ℕ) → main_on w x ≡ true → w ≡ u
main_word u x e w h = elim (ℕ_discrete w u) [ yes i ↦ i | no n ↦ absurd (true≢false (sym h ∙ (of u x e w n).0)) ]

back_word : (u : ℕ) (x : Slot) → WordIs u x → (w : ℕ) → back_on w x ≡ true → w ≡ u
back_word u x e w h = elim (ℕ_discrete w u) [ yes i ↦ i | no n ↦ absurd (true≢false (sym h ∙ (of u x e w n).1)) ]

-- one's own entry is no backup
pub main_back : (u w : ℕ) (x : Slot) → main_on u x ≡ true → back_on w x ≡ false
main_back u w vacant h = refl
main_back u w (slot_normal s v d) h = refl
main_back u w (slotBackup s v d) h = absurd (false≢true h)
main_back u w (slot_tentative s v d t) h = refl

-- what a processor that has nothing of a word, or a tentative entry with no backup, has in its slots
module _ (E : ℕ) (home : ℕ → ℕ) (slot : ℕ → Slot) (line : ℕ → Line) where
  has_none : (w : ℕ) (k : Copy) → Has E home slot line w k → k ≡ none → (regular_on w (line (home w)) ≡ false)
      × ((i : ℕ) → i < E → main_on w (slot i) ≡ false)
  has_none w k (in_line h e) n = absurd (go (line (home w)) h (e ∙ n))
    where
      go : (x : Line) → regular_on w x ≡ true → line_copy x ≡ none → ⊥
      go blank h e = false≢true h
      go (filled s u d) h e = let z : true ≡ false = cc in true≢false z
  has_none w k (in_slot {b = b} i l r m bk e) n = absurd (go (slot i) m (e ∙ n))
    where
      go : (x : Slot) → main_on w x ≡ true → slot_copy x b ≡ none → ⊥
      go vacant h e = false≢true h
      go (slot_normal s u d) h e = let z : true ≡ false = cc in true≢false z
      go (slotBackup s u d) h e = false≢true h
      go (slot_tentative s u d t) h e = let z : true ≡ false = cc in true≢false z
  has_none w k (nowhere r g y) n = (r, g)

  pub look_none : (w : ℕ) → look E home slot line w ≡ none → (regular_on w (line (home w)) ≡ false) × ((i : ℕ) → i < E → main_on w (slot i) ≡ false)
  look_none w e = has_none w (look E home slot line w) (look_is E home slot line w) e

  module _ (T : Tidy E home slot line) (i : ℕ) (l : i < E) where
    pub look_normal : {s : LineState} {u d : ℕ} → slot i ≡ slot_normal s u d → look E home slot line u ≡ normal s d
    look_normal {s} {u} {d} e = looks E home slot line T u (normal s d)
        (in_slot {b = back_of E home slot line u} i l (T.apart u i l m) m (back_is E home slot line u) (rw e))
      where
        m : main_on u (slot i) ≡ true
        m = rw e (is_self u)

    pub look_tentative : {s : LineState} {u d : ℕ} {t : Bool} {b : Back} → slot i ≡ slot_tentative s u d t → Backs E home slot line u b
        → look E home slot line u ≡ tentative s d b t
    look_tentative {s} {u} {d} {t} {b} e bk = looks E home slot line T u (tentative s d b t) (in_slot {b = b} i l (T.apart u i l m) m bk (rw e))
      where
        m : main_on u (slot i) ≡ true
        m = rw e (is_self u)

-- slot i goes from x to y, both of word u
module _ (E : ℕ) (home : ℕ → ℕ) (slot slot' : ℕ → Slot) (line : ℕ → Line) (T : Tidy E home slot line)
    (u i : ℕ) (l : i < E) (x y : Slot) (was : slot i ≡ x) (here : slot' i ≡ y) (else : (j : ℕ) → j ≢ i → slot' j ≡ slot j)
    (xu : WordIs u x) (yu : WordIs u y) where
  calm : (w : ℕ) → w ≢ u → (j : ℕ) → j < E → Calm w (slot j) (slot' j)
  calm w n j l' = elim (ℕ_discrete j i) [ yes e ↦ inr (rw (e, was) (of u x xu w n), rw (e, here) (of u y yu w n)) | no m ↦ inl (else j m) ]

  pub look_else : Tidy E home slot' line → (w : ℕ) → w ≢ u → look E home slot' line w ≡ look E home slot line w
  look_else T' w n = look_calm E home slot slot' line line w (inl refl) (calm w n) T'

  -- y claims no more than x, and keeps a tentative entry
  pub tidy_one : ((w : ℕ) → main_on w y ≡ true → main_on w x ≡ true) → ((w : ℕ) → back_on w y ≡ true → back_on w x ≡ true)
      → ((w : ℕ) → tentative_on w x ≡ true → tentative_on w y ≡ true) → Tidy E home slot' line
  tidy_one m b t = tidy_shrink E home slot slot' line line T
      (λ j w l' h. elim (ℕ_discrete j i) [ yes e ↦ rw (e, was) (m w (rw (e, here) at h)) | no n ↦ rw (else j n) at h ])
      (λ j w l' h. elim (ℕ_discrete j i) [ yes e ↦ rw (e, was) (b w (rw (e, here) at h)) | no n ↦ rw (else j n) at h ])
      (λ j j' w l' l'' h h'. elim (ℕ_discrete j i) [ yes e ↦ rw (e, here) (t w (rw (e, was) at h')) | no n ↦ rw (else j n) h' ])
      (λ w h. h)

-- the four single changes
module _ (E : ℕ) (home : ℕ → ℕ) (slot slot' : ℕ → Slot) (line : ℕ → Line) (T : Tidy E home slot line)
    (i : ℕ) (l : i < E) (else : (j : ℕ) → j ≢ i → slot' j ≡ slot j) where
  -- a NORMAL entry goes
  module _ {s : LineState} {u d : ℕ} (was : slot i ≡ slot_normal s u d) (here : slot' i ≡ vacant) where
    pub tidy_out : Tidy E home slot' line
    tidy_out =
        tidy_one E home slot slot' line T u i l (slot_normal s u d) vacant was here else refl tt (λ w h. absurd (false≢true h)) (λ w h. h) (λ w h. h)

    pub look_out : look E home slot' line u ≡ none
    look_out = looks E home slot' line tidy_out u none (nowhere (T.apart u i l (rw was (is_self u))) off refl)
      where
        off : (j : ℕ) → j < E → main_on u (slot' j) ≡ false
        off j l' = elim (ℕ_discrete j i)
            [ yes e ↦ rw (e, here) | no n ↦ not-true _ (λ h. n (T.mains u j i l' l (rw (else j n) at h) (rw was (is_self u)))) ]

  -- a backup goes
  module _ {r : LineState} {u e : ℕ} (was : slot i ≡ slotBackup r u e) (here : slot' i ≡ vacant) where
    pub tidy_backout : Tidy E home slot' line
    tidy_backout = tidy_one E home slot slot' line T u i l (slotBackup r u e) vacant was here else refl tt (λ w h. h) (λ w h. absurd (false≢true h))
        (λ w h. absurd (false≢true h))

    -- its tentative entry, before and after
    pub look_backout : (s : LineState) × (d : ℕ) × (t : Bool) × (look E home slot line u ≡ tentative s d (backup r e) t)
        × (look E home slot' line u ≡ tentative s d bare t)
    look_backout = go (slot i') refl p.2
      where
        p : (j : ℕ) × (j < E) × (tentative_on u (slot j) ≡ true)
        p = T.paired u i l (rw was (is_self u))

        i' : ℕ
        i' = p.0

        off : (j : ℕ) → j < E → back_on u (slot' j) ≡ false
        off j l' = elim (ℕ_discrete j i)
            [ yes z ↦ rw (z, here) | no n ↦ not-true _ (λ h. n (T.backs u j i l' l (rw (else j n) at h) (rw was (is_self u)))) ]

        go : (x : Slot) → slot i' ≡ x → tentative_on u x ≡ true
            → (s : LineState) × (d : ℕ) × (t : Bool) × (look E home slot line u ≡ tentative s d (backup r e) t)
            × (look E home slot' line u ≡ tentative s d bare t)
        go vacant z h = absurd (false≢true h)
        go (slot_normal s v d) z h = absurd (false≢true h)
        go (slotBackup s v d) z h = absurd (false≢true h)
        go (slot_tentative s v d t) z h =
            let z' : slot i' ≡ slot_tentative s u d t = rw (is_true v u h) at z in
            let n : i' ≢ i = λ q. true≢false (let k : true ≡ false = cc in k) in (
              s,
              d,
              t,
              look_tentative E home slot line T i' p.1 z' (backed i l (rw was (is_self u)) (rw was)),
              look_tentative E home slot' line tidy_backout i' p.1 (else i' n ∙ z') (unbacked off refl),
            )

  -- a word's own entry changes and stays that word's own: its state and data change, or NORMAL becomes tentative
  module _ (u : ℕ) {x y : Slot} (was : slot i ≡ x) (here : slot' i ≡ y) (xu : WordIs u x) (yu : WordIs u y)
      (mx : main_on u x ≡ true) (my : main_on u y ≡ true) (tk : tentative_on u x ≡ true → tentative_on u y ≡ true) where
    pub tidy_turn : Tidy E home slot' line
    tidy_turn = tidy_one E home slot slot' line T u i l x y was here else xu yu
        (λ w h. rw (main_word u y yu w h) mx)
        (λ w h. absurd (true≢false (sym h ∙ main_back u w y my)))
        (λ w h. let e = main_word u x xu w (main_tentative w x h) in rw e (tk (rw e at h)))

    turn_back : (b : Back) → Backs E home slot line u b → Backs E home slot' line u b
    turn_back b (backed j l' h e) =
        let n : j ≢ i = λ q. true≢false (sym h ∙ rw (q, was) (main_back u u x mx)) in
        backed {b = b} j l' (rw (else j n) h) (rw (else j n) e)
    turn_back b (unbacked g e) =
        unbacked (λ j l'. elim (ℕ_discrete j i) [ yes q ↦ rw (q, here) (main_back u u y my) | no n ↦ rw (else j n) (g j l') ]) e

    pub look_turn : (b : Back) → Backs E home slot line u b → (look E home slot line u ≡ slot_copy x b) × (look E home slot' line u ≡ slot_copy y b)
    look_turn b bk = (
      looks E home slot line T u (slot_copy x b) (in_slot {b = b} i l (T.apart u i l (rw was mx)) (rw was mx) bk (rw was)),
      looks E home slot' line tidy_turn u (slot_copy y b) (in_slot {b = b} i l (T.apart u i l (rw was mx)) (rw here my) (turn_back b bk) (rw here)),
    )

  -- a free slot takes a tentative entry of a word that the processor has not
  module _ {s : LineState} {u d : ℕ} {t : Bool} (was : slot i ≡ vacant) (here : slot' i ≡ slot_tentative s u d t)
      (free : look E home slot line u ≡ none) where
    no_main : (j : ℕ) → j < E → main_on u (slot j) ≡ false
    no_main = (look_none E home slot line u free).1

    no_back : (j : ℕ) → j < E → back_on u (slot j) ≡ false
    no_back j l' = not-true _ (λ h. let x = T.paired u j l' h in true≢false (sym (main_tentative u (slot x.0) x.2) ∙ no_main x.0 x.1))

    pub tidy_in : Tidy E home slot' line
    tidy_in = record { mains = ms; backs = bs; apart = ap'; paired = pr }
      where
        -- the claims of slot', by slot
        main_in : (w j : ℕ) → main_on w (slot' j) ≡ true → ((j ≡ i) × (w ≡ u)) ⊎ ((j ≢ i) × (main_on w (slot j) ≡ true))
        main_in w j h = elim (ℕ_discrete j i)
            [ yes e ↦ inl (e, main_word u (slot_tentative s u d t) refl w (rw (e, here) at h)) | no n ↦ inr (n, rw (else j n) at h) ]

        back_in : (w j : ℕ) → back_on w (slot' j) ≡ true → back_on w (slot j) ≡ true
        back_in w j h = elim (ℕ_discrete j i) [ yes e ↦ absurd (false≢true (rw (e, here) at h)) | no n ↦ rw (else j n) at h ]

        ms : (w j j' : ℕ) → j < E → j' < E → main_on w (slot' j) ≡ true → main_on w (slot' j') ≡ true → j ≡ j'
        ms w j j' l₁ l₂ h h' = go (main_in w j h) (main_in w j' h')
          where
            go : ((j ≡ i) × (w ≡ u)) ⊎ ((j ≢ i) × (main_on w (slot j) ≡ true)) → ((j' ≡ i) × (w ≡ u)) ⊎ ((j' ≢ i) × (main_on w (slot j') ≡ true))
                → j ≡ j'
            go (inl a) (inl b) = a.0 ∙ sym b.0
            go (inl a) (inr b) = absurd (true≢false (sym b.1 ∙ rw a.1 (no_main j' l₂)))
            go (inr a) (inl b) = absurd (true≢false (sym a.1 ∙ rw b.1 (no_main j l₁)))
            go (inr a) (inr b) = T.mains w j j' l₁ l₂ a.1 b.1

        bs : (w j j' : ℕ) → j < E → j' < E → back_on w (slot' j) ≡ true → back_on w (slot' j') ≡ true → j ≡ j'
        bs w j j' l₁ l₂ h h' = T.backs w j j' l₁ l₂ (back_in w j h) (back_in w j' h')

        ap' : (w j : ℕ) → j < E → main_on w (slot' j) ≡ true → regular_on w (line (home w)) ≡ false
        ap' w j l₁ h = elim (main_in w j h) [ inl a ↦ rw a.1 (look_none E home slot line u free).0 | inr b ↦ T.apart w j l₁ b.1 ]

        pr : (w j : ℕ) → j < E → back_on w (slot' j) ≡ true → (j' : ℕ) × (j' < E) × (tentative_on w (slot' j') ≡ true)
        pr w j l₁ h =
            let x = T.paired w j l₁ (back_in w j h) in
            let n : x.0 ≢ i = λ q. false≢true (rw (q, was) at x.2) in
            (x.0, x.1, rw (else x.0 n) x.2)

    pub look_in : look E home slot' line u ≡ tentative s d bare t
    look_in = look_tentative E home slot' line tidy_in i l here (unbacked off refl)
      where
        off : (j : ℕ) → j < E → back_on u (slot' j) ≡ false
        off j l' = elim (ℕ_discrete j i) [ yes e ↦ rw (e, here) | no n ↦ rw (else j n) (no_back j l') ]

  -- a free slot takes the backup of a tentative entry that has none
  module _ {r s : LineState} {u e d : ℕ} {t : Bool} (was : slot i ≡ vacant) (here : slot' i ≡ slotBackup r u e)
      (i' : ℕ) (l' : i' < E) (main : slot i' ≡ slot_tentative s u d t) (alone : (j : ℕ) → j < E → back_on u (slot j) ≡ false) where
    apart' : i' ≢ i
    apart' q = true≢false (let k : true ≡ false = cc in k)

    pub tidy_back : Tidy E home slot' line
    tidy_back = record {
      mains = λ w j j' l₁ l₂ h h'. T.mains w j j' l₁ l₂ (main_in w j h) (main_in w j' h');
      backs = bs;
      apart = λ w j l₁ h. T.apart w j l₁ (main_in w j h);
      paired = pr;
    }
      where
        main_in : (w j : ℕ) → main_on w (slot' j) ≡ true → main_on w (slot j) ≡ true
        main_in w j h = elim (ℕ_discrete j i) [ yes q ↦ absurd (false≢true (rw (q, here) at h)) | no n ↦ rw (else j n) at h ]

        back_in : (w j : ℕ) → back_on w (slot' j) ≡ true → ((j ≡ i) × (w ≡ u)) ⊎ ((j ≢ i) × (back_on w (slot j) ≡ true))
        back_in w j h =
            elim (ℕ_discrete j i) [ yes q ↦ inl (q, back_word u (slotBackup r u e) refl w (rw (q, here) at h)) | no n ↦ inr (n, rw (else j n) at h) ]

        bs : (w j j' : ℕ) → j < E → j' < E → back_on w (slot' j) ≡ true → back_on w (slot' j') ≡ true → j ≡ j'
        bs w j j' l₁ l₂ h h' = go (back_in w j h) (back_in w j' h')
          where
            go : ((j ≡ i) × (w ≡ u)) ⊎ ((j ≢ i) × (back_on w (slot j) ≡ true)) → ((j' ≡ i) × (w ≡ u)) ⊎ ((j' ≢ i) × (back_on w (slot j') ≡ true))
                → j ≡ j'
            go (inl a) (inl b) = a.0 ∙ sym b.0
            go (inl a) (inr b) = absurd (true≢false (sym b.1 ∙ rw a.1 (alone j' l₂)))
            go (inr a) (inl b) = absurd (true≢false (sym a.1 ∙ rw b.1 (alone j l₁)))
            go (inr a) (inr b) = T.backs w j j' l₁ l₂ a.1 b.1

        pr : (w j : ℕ) → j < E → back_on w (slot' j) ≡ true → (j' : ℕ) × (j' < E) × (tentative_on w (slot' j') ≡ true)
        pr w j l₁ h = go (back_in w j h)
          where
            go : ((j ≡ i) × (w ≡ u)) ⊎ ((j ≢ i) × (back_on w (slot j) ≡ true)) → (j' : ℕ) × (j' < E) × (tentative_on w (slot' j') ≡ true)
            go (inl a) = (i', l', rw (a.1, else i' apart', main) (is_self u))
            go (inr b) =
                let x = T.paired w j l₁ b.1 in
                let n : x.0 ≢ i = λ q. false≢true (rw (q, was) at x.2) in
                (x.0, x.1, rw (else x.0 n) x.2)

    pub look_back_lem : look E home slot' line u ≡ tentative s d (backup r e) t
    look_back_lem = look_tentative E home slot' line tidy_back i' l' (else i' apart' ∙ main) (backed i l (rw here (is_self u)) (rw here))
