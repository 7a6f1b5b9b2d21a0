-- Rollback and COMMIT: what becomes of all of a processor's slots, and of what it holds of each word.
use mathlib.Core.Path.{◌≡◌, refl, sym, ◌∙◌, ap}
use mathlib.Core.Logic.{◌⊎◌, inl, inr}
use mathlib.Core.Bool.{true, false, true≢false, false≢true}
use Prim.Native.Nat.{ℕ, ◌<◌}
use Rattle.theory.specs.View.{Back, bare, Copy, rolled_copy, committed_copy}
use Rattle.theory.proofs.Cache.{Backs, Has, Line, Slot, Tidy, back_on, backed, blank, filled, in_line, in_slot, look}
use Rattle.theory.proofs.Cache.{look_is, looks, main_tentative, main_on, not-true, nowhere, line_copy, regular_on, slotBackup}
use Rattle.theory.proofs.Cache.{slot_copy, slot_normal, slot_tentative, tentative_on, tidy_shrink, unbacked, vacant}

-- a slot's rollback and its commit
abbrev pub slot_rollback : Slot → Slot
slot_rollback vacant = vacant
slot_rollback (slot_normal s u d) = slot_normal s u d
slot_rollback (slotBackup s u d) = slot_normal s u d
slot_rollback (slot_tentative s u d t) = vacant

abbrev pub slot_commit : Slot → Slot
slot_commit vacant = vacant
slot_commit (slot_normal s u d) = slot_normal s u d
slot_commit (slotBackup s u d) = vacant
slot_commit (slot_tentative s u d t) = slot_normal s u d

-- a rolled slot's main claim was a NORMAL entry's, or a backup's
rollback_main : (w : ℕ) (x : Slot) → main_on w (slot_rollback x) ≡ true → ((main_on w x ≡ true) × (tentative_on w x ≡ false)) ⊎ (back_on w x ≡ true)
rollback_main w vacant h = absurd (false≢true h)
rollback_main w (slot_normal s u d) h = inl (h, refl)
rollback_main w (slotBackup s u d) h = inr h
rollback_main w (slot_tentative s u d t) h = absurd (false≢true h)

rollback_backs : (w : ℕ) (x : Slot) → back_on w (slot_rollback x) ≡ false
rollback_backs w vacant = refl
rollback_backs w (slot_normal s u d) = refl
rollback_backs w (slotBackup s u d) = refl
rollback_backs w (slot_tentative s u d t) = refl

commit_main : (w : ℕ) (x : Slot) → main_on w (slot_commit x) ≡ main_on w x
commit_main w vacant = refl
commit_main w (slot_normal s u d) = refl
commit_main w (slotBackup s u d) = refl
commit_main w (slot_tentative s u d t) = refl

commit_backs : (w : ℕ) (x : Slot) → back_on w (slot_commit x) ≡ false
commit_backs w vacant = refl
commit_backs w (slot_normal s u d) = refl
commit_backs w (slotBackup s u d) = refl
commit_backs w (slot_tentative s u d t) = refl

commit_copy : (w : ℕ) (x : Slot) (b : Back) → main_on w x ≡ true → slot_copy (slot_commit x) bare ≡ committed_copy (slot_copy x b)
commit_copy w vacant b h = refl
commit_copy w (slot_normal s u d) b h = refl
commit_copy w (slotBackup s u d) b h = refl
commit_copy w (slot_tentative s u d t) b h = refl

module _ (E : ℕ) (home : ℕ → ℕ) (slot slot' : ℕ → Slot) (line line' : ℕ → Line) (T : Tidy E home slot line)
    (sameLine : (i : ℕ) → line' i ≡ line i) where
  module _ (all : (i : ℕ) → i < E → slot' i ≡ slot_commit (slot i)) where
    pub tidy_committed : Tidy E home slot' line'
    tidy_committed = tidy_shrink E home slot slot' line line' T
        (λ i w l h. sym (commit_main w (slot i)) ∙ rw (all i l) at h)
        (λ i w l h. absurd (true≢false (sym (rw (all i l) at h) ∙ commit_backs w (slot i))))
        (λ i j w l l' h t. absurd (true≢false (sym (rw (all j l') at h) ∙ commit_backs w (slot j))))
        (λ w h. rw (sameLine (home w)) h)

    committed_has : (w : ℕ) (k : Copy) → Has E home slot line w k → Has E home slot' line' w (committed_copy k)
    committed_has w k (in_line h e) =
        in_line {k = committed_copy k} (rw (sameLine (home w)) h) (rw (sameLine (home w), ← e) (line_committed (line (home w))))
      where
        line_committed : (x : Line) → line_copy x ≡ committed_copy (line_copy x)
        line_committed blank = refl
        line_committed (filled s u d) = refl
    committed_has w k (in_slot {b = b} i l r m bk e) =
        in_slot {k = committed_copy k} {b = bare} i l (rw (sameLine (home w)) r) (rw (all i l) (commit_main w (slot i) ∙ m))
        (unbacked (λ j l'. rw (all j l') (commit_backs w (slot j))) refl)
        (rw (all i l, ← e) (commit_copy w (slot i) b m))
    committed_has w k (nowhere r g y) =
        nowhere {k = committed_copy k} (rw (sameLine (home w)) r) (λ i l. rw (all i l) (commit_main w (slot i) ∙ g i l)) (ap committed_copy y)

    pub look_committed : (w : ℕ) → look E home slot' line' w ≡ committed_copy (look E home slot line w)
    look_committed w = looks E home slot' line' tidy_committed w _ (committed_has w _ (look_is E home slot line w))

  module _ (all : (i : ℕ) → i < E → slot' i ≡ slot_rollback (slot i)) where
    -- where a backup is, no rolled NORMAL entry is
    rolled_clash : (w i j : ℕ) → i < E → j < E → main_on w (slot i) ≡ true → tentative_on w (slot i) ≡ false → back_on w (slot j) ≡ true → ⊥
    rolled_clash w i j l l' h z b =
        let x = T.paired w j l' b in
        true≢false (cc (T.mains w i x.0 l x.1 h (main_tentative w (slot x.0) x.2), x.2))

    pub tidy_rolled : Tidy E home slot' line'
    tidy_rolled = record {
      mains = ms;
      backs = λ w i j l l' h h'. absurd (true≢false (sym (rw (all i l) at h) ∙ rollback_backs w (slot i)));
      apart = ap';
      paired = λ w j l h. absurd (true≢false (sym (rw (all j l) at h) ∙ rollback_backs w (slot j)));
    }
      where
        ms : (w i j : ℕ) → i < E → j < E → main_on w (slot' i) ≡ true → main_on w (slot' j) ≡ true → i ≡ j
        ms w i j l l' h h' = go (rollback_main w (slot i) (rw (all i l) at h)) (rollback_main w (slot j) (rw (all j l') at h'))
          where
            go : ((main_on w (slot i) ≡ true) × (tentative_on w (slot i) ≡ false)) ⊎ (back_on w (slot i) ≡ true)
                → ((main_on w (slot j) ≡ true) × (tentative_on w (slot j) ≡ false)) ⊎ (back_on w (slot j) ≡ true) → i ≡ j
            go (inl a) (inl b) = T.mains w i j l l' a.0 b.0
            go (inl a) (inr b) = absurd (rolled_clash w i j l l' a.0 a.1 b)
            go (inr a) (inl b) = absurd (rolled_clash w j i l' l b.0 b.1 a)
            go (inr a) (inr b) = T.backs w i j l l' a b

        ap' : (w i : ℕ) → i < E → main_on w (slot' i) ≡ true → regular_on w (line' (home w)) ≡ false
        ap' w i l h = rw (sameLine (home w)) (go (rollback_main w (slot i) (rw (all i l) at h)))
          where
            go : ((main_on w (slot i) ≡ true) × (tentative_on w (slot i) ≡ false)) ⊎ (back_on w (slot i) ≡ true) → regular_on w (line (home w)) ≡ false
            go (inl a) = T.apart w i l a.0
            go (inr b) = let x = T.paired w i l b in T.apart w x.0 x.1 (main_tentative w (slot x.0) x.2)

    rolled_has : (w : ℕ) (k : Copy) → Has E home slot line w k → Has E home slot' line' w (rolled_copy k)
    rolled_has w k (in_line h e) = in_line {k = rolled_copy k} (rw (sameLine (home w)) h) (rw (sameLine (home w), ← e) (line_rolled (line (home w))))
      where
        line_rolled : (x : Line) → line_copy x ≡ rolled_copy (line_copy x)
        line_rolled blank = refl
        line_rolled (filled s u d) = refl
    rolled_has w k (in_slot {b = b} i l r m bk e) = go (slot i) refl bk
      where
        r' : regular_on w (line' (home w)) ≡ false
        r' = rw (sameLine (home w)) r

        ub : (j : ℕ) → j < E → back_on w (slot' j) ≡ false
        ub j l' = rw (all j l') (rollback_backs w (slot j))

        go : (x : Slot) → slot i ≡ x → Backs E home slot line w b → Has E home slot' line' w (rolled_copy k)
        go vacant y bk = absurd (false≢true (rw y at m))
        go (slot_normal s u d) y bk =
            in_slot {k = rolled_copy k} {b = bare} i l r' (rw (all i l, y) (rw y at m)) (unbacked ub refl) (rw (all i l, ← e, y))
        go (slotBackup s u d) y bk = absurd (false≢true (rw y at m))
        go (slot_tentative s u d t) y (backed j l' h z) = from (slot j) refl
          where
            from : (x : Slot) → slot j ≡ x → Has E home slot' line' w (rolled_copy k)
            from vacant q = absurd (false≢true (rw q at h))
            from (slot_normal s u d) q = absurd (false≢true (rw q at h))
            from (slotBackup s u d) q =
                in_slot {k = rolled_copy k} {b = bare} j l' r' (rw (all j l', q) (rw q at h)) (unbacked ub refl) (rw (all j l', ← e, y, ← z, q))
            from (slot_tentative s u d t) q = absurd (false≢true (rw q at h))
        go (slot_tentative s u d t) y (unbacked g z) = nowhere {k = rolled_copy k} r' off (rw (← e, y, ← z))
          where
            off : (j : ℕ) → j < E → main_on w (slot' j) ≡ false
            off j l' = not-true _ (λ h. on (rollback_main w (slot j) (rw (all j l') at h)))
              where
                on : ((main_on w (slot j) ≡ true) × (tentative_on w (slot j) ≡ false)) ⊎ (back_on w (slot j) ≡ true) → ⊥
                on (inl a) = true≢false (cc (T.mains w i j l l' m a.0))
                on (inr c) = true≢false (sym c ∙ g j l')
    rolled_has w k (nowhere r g y) = nowhere {k = rolled_copy k} (rw (sameLine (home w)) r) off (ap rolled_copy y)
      where
        off : (i : ℕ) → i < E → main_on w (slot' i) ≡ false
        off i l = not-true _ (λ h. go (rollback_main w (slot i) (rw (all i l) at h)))
          where
            go : ((main_on w (slot i) ≡ true) × (tentative_on w (slot i) ≡ false)) ⊎ (back_on w (slot i) ≡ true) → ⊥
            go (inl a) = true≢false (sym a.0 ∙ g i l)
            go (inr b) = let x = T.paired w i l b in true≢false (sym (main_tentative w (slot x.0) x.2) ∙ g x.0 x.1)

    pub look_rolled : (w : ℕ) → look E home slot' line' w ≡ rolled_copy (look E home slot line w)
    look_rolled w = looks E home slot' line' tidy_rolled w _ (rolled_has w _ (look_is E home slot line w))
