-- Coherence, and that every silent move and every event keeps it.
use mathlib.Core.Path.{◌≡◌, refl, sym, ◌∙◌}
use mathlib.Core.Logic.{◌≢◌}
use mathlib.Core.Bool.{true, false, true≢false}
use Prim.Native.Nat.{ℕ}
use native.Mathlib.Decide.{ℕ_discrete}
use Rattle.theory.specs.View.{bare, backup, Copy, none, regular, normal, tentative, is_tentative, own_value, rolled_copy, committed_copy, Word, View}
use Rattle.theory.proofs.Move.{Move, moved, drop_regular, drop_normal, drop_backup, lower_regular, lower_normal, begin_backed}
use Rattle.theory.proofs.Move.{begin_bare, fill_regular, fill_tentative, fill_backed, own_regular, own_tentative, own_backed, upgrade}
use Rattle.theory.proofs.OneWord.{Low, Alone, rolled, committed_word}
use Rattle.theory.specs.Change.{Live, OnlyWord, OnlyProcessor, same}
use Rattle.theory.proofs.Moves.{Silent, still, move, rollback, wake}

-- the view agrees with one memory of settled values
pub record Agree (S : View) (M : ℕ → ℕ) : Type 0 where
  pub words : (w : ℕ) → Word (S.memory w) (S.copy w) (M w)
  pub live : (w p : ℕ) → is_tentative (S.copy w p) ≡ true → Live S p

pub word_same : {m m' x x' : ℕ} {c c' : ℕ → Copy} → Word m c x → m' ≡ m → ((q : ℕ) → c' q ≡ c q) → x' ≡ x → Word m' c' x'
word_same W em ec ex = record {
  only = λ p q h n. ec q ∙ W.only p q (rw (ec p) at h) n;
  holds = λ p. rw (ec p, ex) (W.holds p);
  cell = λ h. em ∙ (W.cell (λ p. rw (ec p) at (h p)) ∙ sym ex);
}

-- a change at one place
pub agree_at : {S S' : View} {M M' : ℕ → ℕ} (p w : ℕ) → Agree S M → OnlyWord p w S S'
    → Word (S'.memory w) (S'.copy w) (M' w)
    → ((u : ℕ) → u ≢ w → M' u ≡ M u)
    → (is_tentative (S'.copy w p) ≡ true → Live S p)
    → Agree S' M'
agree_at {S} {S'} {M} {M'} p w A at W e l = record { words = ws; live = lv }
  where
    ws : (u : ℕ) → Word (S'.memory u) (S'.copy u) (M' u)
    ws u = elim (ℕ_discrete u w) [ yes i ↦ rw i W | no n ↦ word_same (A.words u) (at.memory_else u n) (at.word_else u n) (e u n) ]

    flags : (q : ℕ) → Live S q → Live S' q
    flags q h = (at.active_same q ∙ h.0, at.status_same q ∙ h.1)

    lv : (u q : ℕ) → is_tentative (S'.copy u q) ≡ true → Live S' q
    lv u q h = flags q (go (ℕ_discrete u w) (ℕ_discrete q p))
      where
        go : Dec (u ≡ w) → Dec (q ≡ p) → Live S q
        go (yes i) (yes j) = rw j (l (rw (i, j) at h))
        go (yes i) (no n) = A.live w q (rw (i, at.proc_else q n) at h)
        go (no n) d = A.live u q (rw (at.word_else u n q) at h)

-- a tentative copy comes only from one, or in a live transaction
pub move_live : {live low alone : Type 0} {m m' : ℕ} {k k' : Copy} → Move live low alone m k m' k' → (is_tentative k ≡ true → live)
    → is_tentative k' ≡ true → live
move_live drop_regular g h = g h
move_live drop_normal g h = g h
move_live drop_backup g h = g h
move_live lower_regular g h = g h
move_live lower_normal g h = g h
move_live (begin_backed a i) g h = a
move_live (begin_bare a) g h = a
move_live (fill_regular l) g h = g h
move_live (fill_tentative a l) g h = a
move_live (fill_backed a l) g h = a
move_live (own_regular z) g h = g h
move_live (own_tentative a z) g h = a
move_live (own_backed a z) g h = a
move_live (upgrade z) g h = g h

pub agree_move : {S S' : View} {M : ℕ → ℕ} (p w : ℕ) {k k' : Copy} {m m' : ℕ} → Agree S M → OnlyWord p w S S'
    → S.memory w ≡ m → S'.memory w ≡ m' → S.copy w p ≡ k → S'.copy w p ≡ k'
    → Move (Live S p) (Low (S.copy w) p) (Alone (S.copy w) p) m k m' k' → Agree S' M
agree_move {S} {S'} {M} p w {k} {k'} {m} {m'} A at em em' was here v =
    agree_at p w A at (rw em' (moved W p was here at.proc_else v)) (λ u n. refl) (λ h. move_live v (λ t. A.live w p (rw was t)) (rw here at h))
  where
    W : Word m (S.copy w) (M w)
    W = rw em at (A.words w)

-- a change of p's cache, or of its flags
pub agree_cache : {S S' : View} {M M' : ℕ → ℕ} {f : Copy → Copy} (p : ℕ) → Agree S M → OnlyProcessor f p S S'
    → ((w : ℕ) → Word (S.memory w) (S'.copy w) (M' w))
    → ((w : ℕ) → is_tentative (f (S.copy w p)) ≡ true → Live S' p)
    → Agree S' M'
agree_cache {S} {S'} {M} {M'} p A c ws l = record { words = λ w. rw (c.memory_same w) (ws w); live = lv }
  where
    lv : (w q : ℕ) → is_tentative (S'.copy w q) ≡ true → Live S' q
    lv w q h = go (ℕ_discrete q p)
      where
        go : Dec (q ≡ p) → Live S' q
        go (yes e) = rw e (l w (rw (e, c.here w) at h))
        go (no n) = let h = A.live w q (rw (c.else w q n) at h) in (c.active_else q n ∙ h.0, c.status_else q n ∙ h.1)

pub rolled_back_tentative : (k : Copy) → is_tentative (rolled_copy k) ≡ false
rolled_back_tentative none = refl
rolled_back_tentative (regular s d) = refl
rolled_back_tentative (normal s d) = refl
rolled_back_tentative (tentative s d bare t) = refl
rolled_back_tentative (tentative s d (backup r e) t) = refl

pub committed_tentative : (k : Copy) → is_tentative (committed_copy k) ≡ false
committed_tentative none = refl
committed_tentative (regular s d) = refl
committed_tentative (normal s d) = refl
committed_tentative (tentative s d b t) = refl

pub agree_undo : {S S' : View} {M : ℕ → ℕ} (p : ℕ) → Agree S M → OnlyProcessor rolled_copy p S S' → Agree S' M
agree_undo {S} p A c =
    agree_cache p A c (λ w. rolled (A.words w) p (c.here w) (c.else w)) (λ w h. absurd (true≢false (sym h ∙ rolled_back_tentative (S.copy w p))))

pub agree_commit : {S S' : View} {M : ℕ → ℕ} (p : ℕ) → Agree S M → OnlyProcessor committed_copy p S S' → Agree S' (λ w. own_value (S.copy w p) (M w))
agree_commit {S} p A c = agree_cache p A c (λ w. committed_word (A.words w) p (c.here w) (c.else w))
    (λ w h. absurd (true≢false (sym h ∙ committed_tentative (S.copy w p))))

-- only p's flags change: where it holds something tentatively, it stays live
pub agree_flags : {S S' : View} {M : ℕ → ℕ} (p : ℕ) → Agree S M → OnlyProcessor same p S S'
    → ((w : ℕ) → is_tentative (S.copy w p) ≡ true → Live S' p) → Agree S' M
agree_flags {S} {S'} p A c l = agree_cache p A c (λ w. word_same (A.words w) refl (all w) refl) l
  where
    all : (w q : ℕ) → S'.copy w q ≡ S.copy w q
    all w q = elim (ℕ_discrete q p) [ yes e ↦ rw e (c.here w) | no n ↦ c.else w q n ]

pub agree_silent : {S S' : View} {M : ℕ → ℕ} → Agree S M → Silent S S' → Agree S' M
agree_silent A (still i) = record {
  words = λ w. word_same (A.words w) (i.memory_same w) (i.copy_same w) refl;
  live = λ w p h. let l = A.live w p (rw (i.copy_same w p) at h) in (i.active_same p ∙ l.0, i.status_same p ∙ l.1);
}
agree_silent A (move p w at em em' was here v) = agree_move p w A at em em' was here v
agree_silent A (rollback p c st) = agree_undo p A c
agree_silent A (wake p c a s) = agree_flags p A c (λ w h. (a, s ∙ (A.live w p h).1))
