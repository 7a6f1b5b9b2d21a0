-- Every run of the view's moves and events is a run of the plain machine: the invariant and the theorem.
use mathlib.Core.Path.{◌≡◌, refl, sym, ◌∙◌}
use mathlib.Core.Logic.{◌≢◌}
use mathlib.Core.Bool.{true, false, true≢false, false≢true}
use mathlib.Core.List.{List, [], ◌∷◌}
use Prim.Native.Nat.{ℕ}
use native.Mathlib.Decide.{ℕ_discrete}
use Rattle.theory.specs.View.{LineState, valid, reserved, dirty, Copy, none, regular, normal, tentative}
use Rattle.theory.specs.View.{dirty_state, is_tentative, exclusive, owns, IsFine, own_value, Word, View}
use Rattle.theory.proofs.Move.{Move, drop_regular, drop_normal, drop_backup, lower_regular, lower_normal, begin_backed, begin_bare}
use Rattle.theory.proofs.Move.{fill_regular, fill_tentative, fill_backed, own_regular, own_tentative, own_backed, upgrade}
use Rattle.theory.proofs.OneWord.{Alone, stored_tentative, stored, low_cell, alone_low, released, clean_value}
use Rattle.theory.specs.Event.{Event, store, tread}
use Rattle.theory.specs.Change.{OnlyWord}
use Rattle.theory.proofs.Moves.{Silent, still, move, rollback, wake, SeesValue, Shown, loads, stores, writes}
use Rattle.theory.proofs.Moves.{treads, twrites, releases, commits, drops, Run, done, quietly, showing}
use Rattle.theory.specs.Log.{put, Item, read, write, replay, forget}
use Rattle.theory.proofs.Logs.{put_here, put_else, Good, good_copies, good_memory, good_empty}
use Rattle.theory.proofs.Logs.{good_read, good_write, plain_tv, unstored, good_forget, Keeps}
use Rattle.theory.specs.Plain.{Plain, next, Explains, Serial, Sees, Opaque, after_events}
use Rattle.theory.proofs.Agree.{Agree, agree_at, agree_silent, agree_commit, agree_flags, committed_tentative}

pub record Inv (S : View) (P : Plain) : Type 0 where
  pub agree : Agree S P.val
  pub logs : (p : ℕ) → S.status p ≡ true → Good (P.log p) P.val (λ w. S.copy w p)

pub move_value : {live low alone : Type 0} {m m' x : ℕ} {k k' : Copy} → Move live low alone m k m' k' → IsFine k x → (low → owns k ≡ false → m ≡ x)
    → (alone → low) → own_value k' x ≡ own_value k x
move_value drop_regular f g w = refl
move_value drop_normal f g w = refl
move_value drop_backup f g w = refl
move_value lower_regular f g w = refl
move_value lower_normal f g w = refl
move_value (begin_backed a i) f g w = f
move_value (begin_bare a) f g w = f
move_value (fill_regular l) f g w = refl
move_value (fill_tentative a l) f g w = g l refl
move_value (fill_backed a l) f g w = g l refl
move_value (own_regular z) f g w = refl
move_value (own_tentative a z) f g w = g (w z) refl
move_value (own_backed a z) f g w = g (w z) refl
move_value (upgrade z) f g w = refl

pub move_keeps : {live low alone : Type 0} {m m' : ℕ} {k k' : Copy} → Move live low alone m k m' k' → Keeps k k'
move_keeps drop_regular = ((λ h. h), (λ h. h))
move_keeps drop_normal = ((λ h. h), (λ h. h))
move_keeps drop_backup = ((λ h. h), (λ h. h))
move_keeps lower_regular = ((λ h. h), (λ h. h))
move_keeps lower_normal = ((λ h. h), (λ h. h))
move_keeps (begin_backed a i) = ((λ h. refl), (λ h. absurd (false≢true h)))
move_keeps (begin_bare a) = ((λ h. refl), (λ h. absurd (false≢true h)))
move_keeps (fill_regular l) = ((λ h. h), (λ h. h))
move_keeps (fill_tentative a l) = ((λ h. refl), (λ h. absurd (false≢true h)))
move_keeps (fill_backed a l) = ((λ h. refl), (λ h. absurd (false≢true h)))
move_keeps (own_regular z) = ((λ h. h), (λ h. h))
move_keeps (own_tentative a z) = ((λ h. refl), (λ h. absurd (false≢true h)))
move_keeps (own_backed a z) = ((λ h. refl), (λ h. absurd (false≢true h)))
move_keeps (upgrade z) = ((λ h. h), (λ h. h))

-- at one place
module _ {S S' : View} (p w : ℕ) (at : OnlyWord p w S S') where
  at_else : (u q : ℕ) → q ≢ p → S'.copy u q ≡ S.copy u q
  at_else u q n = elim (ℕ_discrete u w) [ yes e ↦ rw e (at.proc_else q n) | no n' ↦ at.word_else u n' q ]

  good_at : {l : List Item} {M : ℕ → ℕ} (q : ℕ) → Good l M (λ u. S.copy u q)
      → Keeps (S.copy w p) (S'.copy w p)
      → own_value (S'.copy w p) (M w) ≡ own_value (S.copy w p) (M w)
      → Good l M (λ u. S'.copy u q)
  good_at {l} {M} q G t e = good_copies G ts es
    where
      ts : (u : ℕ) → Keeps (S.copy u q) (S'.copy u q)
      ts u = go (ℕ_discrete u w) (ℕ_discrete q p)
        where
          go : Dec (u ≡ w) → Dec (q ≡ p) → Keeps (S.copy u q) (S'.copy u q)
          go (yes i) (yes j) = rw (i, j) t
          go (yes i) (no n) = rw (at_else u q n) ((λ h. h), (λ h. h))
          go (no n) d = rw (at.word_else u n q) ((λ h. h), (λ h. h))

      es : (u : ℕ) → own_value (S'.copy u q) (M u) ≡ own_value (S.copy u q) (M u)
      es u = go (ℕ_discrete u w) (ℕ_discrete q p)
        where
          go : Dec (u ≡ w) → Dec (q ≡ p) → own_value (S'.copy u q) (M u) ≡ own_value (S.copy u q) (M u)
          go (yes i) (yes j) = rw (i, j) e
          go (yes i) (no n) = rw (at_else u q n)
          go (no n) d = rw (at.word_else u n q)

pub good_same : {l : List Item} {M : ℕ → ℕ} {c c' : ℕ → Copy} → Good l M c → ((w : ℕ) → c' w ≡ c w) → Good l M c'
good_same G e = good_copies G (λ w. rw (e w) ((λ h. h), (λ h. h))) (λ w. rw (e w))

pub inv_silent : {S S' : View} {P : Plain} → Inv S P → Silent S S' → Inv S' P
inv_silent {S} {S'} {P} I s = record { agree = agree_silent I.agree s; logs = go s }
  where
    go : Silent S S' → (q : ℕ) → S'.status q ≡ true → Good (P.log q) P.val (λ w. S'.copy w q)
    go (still i) q h = good_same (I.logs q (sym (i.status_same q) ∙ h)) (λ w. i.copy_same w q)
    go (move p w {k} {k'} {m} at em em' was here v) q h =
        good_at p w at q (I.logs q (sym (at.status_same q) ∙ h)) (rw (here, was) (move_keeps v))
        (rw (here, was) (move_value v (rw was at ((I.agree.words w).holds p)) (λ l o. sym em ∙ low_cell (I.agree.words w) p was o l) alone_low))
    go (rollback p c st) q h = pick (ℕ_discrete q p)
      where
        pick : Dec (q ≡ p) → Good (P.log q) P.val (λ w. S'.copy w q)
        pick (yes e) = absurd (true≢false (cc))
        pick (no n) = good_same (I.logs q (sym (c.status_else q n) ∙ h)) (λ w. c.else w q n)
    go (wake p c a st) q h = pick (ℕ_discrete q p)
      where
        pick : Dec (q ≡ p) → Good (P.log q) P.val (λ w. S'.copy w q)
        pick (yes e) = good_same (I.logs q (cc)) (λ w. rw e (c.here w))
        pick (no n) = good_same (I.logs q (sym (c.status_else q n) ∙ h)) (λ w. c.else w q n)

pub sees_fine : (k : Copy) (x y : ℕ) → SeesValue k x → IsFine k y → y ≡ x
sees_fine none x y h f = absurd h
sees_fine (regular s d) x y h f = sym f ∙ h
sees_fine (normal s d) x y h f = sym f ∙ h
sees_fine (tentative s d b t) x y h f = sym (clean_value s d b t y f h.0) ∙ h.1

-- one processor's log is replaced
logs_put : (f : ℕ → List Item) (p : ℕ) (l : List Item) (G : List Item → ℕ → Type 0)
    → G l p → ((q : ℕ) → q ≢ p → G (f q) q) → (q : ℕ) → G (put f p l q) q
logs_put f p l G h g q = elim (ℕ_discrete q p) [ yes e ↦ rw (e, put_here f p l) h | no n ↦ rw (put_else f p l q n) (g q n) ]

agree_ext : {S : View} {M M' : ℕ → ℕ} → Agree S M → ((w : ℕ) → M' w ≡ M w) → Agree S M'
agree_ext A e = record { words = λ w. rw (e w) (A.words w); live = A.live }

-- where another processor holds a word, a commit does not change it
commit_else : {m x : ℕ} {c : ℕ → Copy} (p q : ℕ) → Word m c x → q ≢ p → is_tentative (c q) ≡ true → own_value (c p) x ≡ x
commit_else {m} {x} {c} p q W n t = go (c p) refl
  where
    off : exclusive (c p) ≡ true → ⊥
    off h = true≢false (cc (W.only p q h n))

    go : (k : Copy) → c p ≡ k → own_value k x ≡ x
    go none e = refl
    go (regular s d) e = refl
    go (normal s d) e = refl
    go (tentative valid d b t) e = clean_value valid d b t x (rw e at (W.holds p)) refl
    go (tentative reserved d b t) e = absurd (off (rw e))
    go (tentative dirty d b t) e = absurd (off (rw e))

inv_store : {S S' : View} {P : Plain} (p w : ℕ) {s : LineState} {v : ℕ} → Inv S P → OnlyWord p w S S' → is_tentative (S.copy w p) ≡ false
    → Alone (S.copy w) p
    → S'.copy w p ≡ regular s v → (dirty_state s ≡ false → S'.memory w ≡ v) → Inv S' (next (store p w v) P)
inv_store {S} {S'} {P} p w {s} {v} I at was al here g = record {
  agree = agree_at p w I.agree at (rw (put_here P.val w v) (stored (I.agree.words w) p al here at.proc_else g))
      (λ u n. put_else P.val w v u n) (λ h. absurd (true≢false (cc)));
  logs = λ q h. good_at p w at q (good_memory (I.logs q (sym (at.status_same q) ∙ h)) (λ u t. put_else P.val w v u (λ e. free q (rw e at t))))
      ((λ t. absurd (true≢false (cc))), (λ t. absurd (true≢false (sym t ∙ unstored (S.copy w p) was))))
      (rw here (sym (plain_tv (S.copy w p) _ was)));
}
  where
    free : (q : ℕ) → is_tentative (S.copy w q) ≡ true → ⊥
    free q t = elim (ℕ_discrete q p) [ yes e ↦ true≢false (cc) | no n ↦ true≢false (cc (al q n)) ]

pub inv_shown : {S S' : View} {P : Plain} {e : Event} → Inv S P → Shown S S' e → Explains e P × Inv S' (next e P)
inv_shown {S} {S'} {P} I (loads p w {x} e h) = (sees_fine (S.copy w p) x (P.val w) h ((I.agree.words w).holds p), inv_silent I (still e))
inv_shown {S} {S'} {P} I (stores p w at was u here) =
    (tt, inv_store p w I at (rw was) (λ q n. (I.agree.words w).only p q (rw was u) n) here (λ h. absurd (true≢false h)))
inv_shown {S} {S'} {P} I (writes p w at was al here e) = (tt, inv_store p w I at was al here e)
inv_shown {S} {S'} {P} I (treads p w {s} {x} {b} e was) = (tt, inv_silent J (still e))
  where
    J : Inv S (next (tread p w x) P)
    J = record {
      agree = I.agree;
      logs = logs_put P.log p (read w x ∷ P.log p) (λ l q. S.status q ≡ true → Good l P.val (λ u. S.copy u q))
          (λ h. good_read w x (I.logs p h) (rw was) (rw was)) (λ q n. I.logs q);
    }
inv_shown {S} {S'} {P} I (twrites p w {s} {d} {v} {b} at was u here em) = (
  tt,
  record {
    agree = agree_at p w I.agree at (rw em (stored_tentative (I.agree.words w) p was u here at.proc_else)) (λ u n. refl)
        (λ h. I.agree.live w p (rw was));
    logs = logs_put P.log p (write w v ∷ P.log p) (λ l q. S'.status q ≡ true → Good l P.val (λ u. S'.copy u q))
        (λ h. good_write w v (I.logs p (sym (at.status_same p) ∙ h)) (rw here) (rw here) (rw here) (λ u n. at.word_else u n p))
        (λ q n h. good_same (I.logs q (sym (at.status_same q) ∙ h)) (λ u. at_else p w at u q n));
  },
)
inv_shown {S} {S'} {P} I (releases p w {s} {d} {b} at was here em) = (
  tt,
  record {
    agree = agree_at p w I.agree at (rw em (released (I.agree.words w) p was here at.proc_else)) (λ u n. refl)
        (λ h. I.agree.live w p (rw was));
    logs = logs_put P.log p (forget w (P.log p)) (λ l q. S'.status q ≡ true → Good l P.val (λ u. S'.copy u q))
        (λ h. good_forget w (I.logs p (sym (at.status_same p) ∙ h)) (rw was)
        (rw (here, was) (sym ((rw was at ((I.agree.words w).holds p)).0 refl))) (λ u n. at.word_else u n p))
        (λ q n h. good_same (I.logs q (sym (at.status_same q) ∙ h)) (λ u. at_else p w at u q n));
  },
)
inv_shown {S} {S'} {P} I (commits p st c) = (
  (I.logs p st).reads,
  record {
    agree = agree_ext (agree_commit p I.agree c) (I.logs p st).vals;
    logs = logs_put P.log p [] (λ l q. S'.status q ≡ true → Good l (replay (P.log p) P.val) (λ u. S'.copy u q))
        (λ h. good_empty (λ w. rw (c.here w) (committed_tentative (S.copy w p))))
        (λ q n h. good_same
        (good_memory (I.logs q (sym (c.status_else q n) ∙ h)) (λ u t. (I.logs p st).vals u ∙ commit_else p q (I.agree.words u) n t))
        (λ u. c.else u q n));
  },
)
inv_shown {S} {S'} {P} I (drops p none_tentative c) = (
  tt,
  record {
    agree = agree_flags p I.agree c (λ w h. absurd (true≢false (sym h ∙ none_tentative w)));
    logs = logs_put P.log p [] (λ l q. S'.status q ≡ true → Good l P.val (λ u. S'.copy u q))
        (λ h. good_empty (λ w. rw (c.here w) (none_tentative w)))
        (λ q n h. good_same (I.logs q (sym (c.status_else q n) ∙ h)) (λ u. c.else u q n));
  },
)

-- what a processor is answered it sees in its log: its transaction is sound, as it holds the word tentatively
sees_shown : {S S' : View} {P : Plain} {e : Event} → Inv S P → Shown S S' e → Sees e P
sees_shown {S} {P = P} I (loads p w {x} e h) = sees_fine (S.copy w p) x (P.val w) h ((I.agree.words w).holds p)
sees_shown I (stores p w at was u here) = tt
sees_shown I (writes p w at was al here e) = tt
sees_shown {S} {P = P} I (treads p w {s} {x} e was) =
    let G = I.logs p (I.agree.live w p (rw was)).1 in
    (G.vals w ∙ rw was, G.reads)
sees_shown I (twrites p w at was u here em) = tt
sees_shown I (releases p w at was here em) = tt
sees_shown I (commits p st c) = tt
sees_shown I (drops p none_tentative c) = tt

-- the theorem: a run from a state that agrees with a plain one is a run of the plain machine
pub serial : {S S' : View} {P : Plain} {es : List Event} → Inv S P → Run S es S' → Serial es P × Opaque es P × Inv S' (after_events es P)
serial I done = (tt, tt, I)
serial I (quietly s r) = serial (inv_silent I s) r
serial {P = P} I (showing {e = e} s r) =
    let a = inv_shown I s in
    let b = serial a.1 r in
    ((a.0, b.0), (sees_shown I s, b.1), b.2)
