-- Each of document 01's steps is a run of silent moves and what it shows.
use mathlib.Core.Path.{◌≡◌, refl, sym, ◌∙◌, ap}
use mathlib.Core.Logic.{◌≢◌, ◌⊎◌, inl, inr}
use mathlib.Core.Bool.{Bool, true, false, true≢false}
use mathlib.Core.List.{List, [], ◌∷◌}
use Prim.Native.Nat.{ℕ, ◌≤◌}
use native.Mathlib.Decide.{ℕ_discrete}
use Rattle.theory.specs.View.{LineState, valid, Back, bare, backup, Copy, none, regular, normal, tentative, above, is_tentative, View}
use Rattle.theory.proofs.OneWord.{valid_clean}
use Rattle.theory.proofs.Move.{drop_regular, drop_normal, drop_backup, begin_backed, begin_bare}
use Rattle.theory.proofs.Move.{fill_regular, fill_tentative, fill_backed, own_tentative, own_backed, upgrade}
use Rattle.theory.specs.Event.{Event, load, drop}
use Rattle.theory.specs.Change.{Live, OnlyWord, OnlyProcessor, same, Same}
use Rattle.theory.proofs.Moves.{Silent, still, move, wake, SeesValue, Shown, loads, stores, writes, treads}
use Rattle.theory.proofs.Moves.{twrites, commits, drops, Run, done, quietly, showing, run_then, run_one}
use Rattle.theory.proofs.Agree.{Agree, rolled_back_tentative}
use Rattle.theory.specs.Protocol
use Rattle.theory.proofs.Serve.{Far, Gives, Phase, by_grant, by_plain, rollback_silent}

-- freeing a line or an entry
pub freed_silent : {S S' : View} (p : ℕ) → Protocol.Freed p S S' → Silent S S'
freed_silent p (Protocol.empty s) = still s
freed_silent p (Protocol.regular_freed u at was here m) = move p u at refl m was here drop_regular
freed_silent p (Protocol.normal_freed u at was here m) = move p u at refl m was here drop_normal
freed_silent p (Protocol.backup_freed u at was here m) = move p u at refl m was here drop_backup

pub at_other : {S S' : View} {p u : ℕ} → OnlyWord p u S S' → (w q : ℕ) → q ≢ p → S'.copy w q ≡ S.copy w q
at_other {S} {S'} {p} {u} at w q n = elim (ℕ_discrete w u) [ yes e ↦ rw e (at.proc_else q n) | no i ↦ at.word_else w i q ]

pub freed_other : {S S' : View} {p : ℕ} → Protocol.Freed p S S' → (w q : ℕ) → q ≢ p → S'.copy w q ≡ S.copy w q
freed_other (Protocol.empty s) w q n = s.copy_same w q
freed_other (Protocol.regular_freed u at was here m) w q n = at_other at w q n
freed_other (Protocol.normal_freed u at was here m) w q n = at_other at w q n
freed_other (Protocol.backup_freed u at was here m) w q n = at_other at w q n

pub freed_live : {S S' : View} {p : ℕ} → Protocol.Freed p S S' → Live S p → Live S' p
freed_live {p = p} (Protocol.empty s) l = (s.active_same p ∙ l.0, s.status_same p ∙ l.1)
freed_live {p = p} (Protocol.regular_freed u at was here m) l = (at.active_same p ∙ l.0, at.status_same p ∙ l.1)
freed_live {p = p} (Protocol.normal_freed u at was here m) l = (at.active_same p ∙ l.0, at.status_same p ∙ l.1)
freed_live {p = p} (Protocol.backup_freed u at was here m) l = (at.active_same p ∙ l.0, at.status_same p ∙ l.1)

pub freed_none : {S S' : View} {p : ℕ} → Protocol.Freed p S S' → (w : ℕ) → S.copy w p ≡ none → S'.copy w p ≡ none
freed_none {p = p} (Protocol.empty s) w e = s.copy_same w p ∙ e
freed_none {p = p} (Protocol.regular_freed u at was here m) w e = elim (ℕ_discrete w u) [ yes i ↦ rw i here | no i ↦ at.word_else w i p ∙ e ]
freed_none {p = p} (Protocol.normal_freed u at was here m) w e = elim (ℕ_discrete w u) [ yes i ↦ rw i here | no i ↦ at.word_else w i p ∙ e ]
freed_none {p = p} (Protocol.backup_freed u at was here m) w e =
    elim (ℕ_discrete w u) [ yes i ↦ absurd (true≢false (cc)) | no i ↦ at.word_else w i p ∙ e ]

far_freed : {S S' : View} {n p w : ℕ} → Far n p w S → Protocol.Freed p S S' → Far n p w S'
far_freed {w = w} f d q l i = freed_other d w q i ∙ f q l i

pub same_refl : {S : View} → Same S S
same_refl = record { memory_same = λ u. refl; copy_same = λ u q. refl; active_same = λ q. refl; status_same = λ q. refl }

pub cache_refl : {p : ℕ} {S : View} → OnlyProcessor same p S S
cache_refl = record { memory_same = λ u. refl; here = λ u. refl; else = λ u q n. refl; active_else = λ q n. refl; status_else = λ q n. refl }

hits_sees : (k : Copy) (x : ℕ) → Protocol.Hits k x → SeesValue k x
hits_sees none x h = h
hits_sees (regular s d) x h = h
hits_sees (normal s d) x h = h
hits_sees (tentative s d b t) x h = (valid_clean s h.0, h.1)

far_rolled : {S S' : View} {n p w : ℕ} → Far n p w S → Protocol.RolledBack p S S' → Far n p w S'
far_rolled {w = w} f u q l i = u.cache.else w q i ∙ f q l i

shown : {S S' : View} {e : Event} → Shown S S' e → Run S (e ∷ []) S'
shown s = showing s done

fetched_run : {S S' : View} (n p w x : ℕ) → Far n p w S → S.copy w p ≡ none → Protocol.Fetched n p w x S S' → Run S (load p w x ∷ []) S'
fetched_run {S} {S'} n p w x f e g =
    let s = by_plain Protocol.reading n p w (far_freed f g.frees) g.asks in
    let i : g.requested.copy w p ≡ none = s.phase.keeps.copy_kept ∙ freed_none g.frees w e in
    quietly (freed_silent p g.frees)
    (run_then s.phase.runs
    (quietly (move p w g.at refl g.memory_same i (g.here ∙ ap (regular valid) (sym g.gives)) (fill_regular s.gives))
    (shown (loads p w {x = x} same_refl (rw g.here refl)))))

-- STORE's and the transactional steps' preparations
unheld_run : {S S' : View} {p w : ℕ} → Protocol.Unheld p w S S' → Run S [] S'
unheld_run (Protocol.none_held h s) = run_one (still s)
unheld_run {p = p} (Protocol.was_held h u) = run_one (rollback_silent p u)

unheld_other : {S S' : View} {p w : ℕ} → Protocol.Unheld p w S S' → (q : ℕ) → q ≢ p → S'.copy w q ≡ S.copy w q
unheld_other {w = w} (Protocol.none_held h s) q n = s.copy_same w q
unheld_other {w = w} (Protocol.was_held h u) q n = u.cache.else w q n

unnormal_run : {S S' : View} {p w : ℕ} → Protocol.Unnormal p w S S' → Run S [] S'
unnormal_run (Protocol.none_normal h s) = run_one (still s)
unnormal_run {p = p} {w = w} (Protocol.was_normal at was here m) = run_one (move p w at refl m was here drop_normal)

unnormal_other : {S S' : View} {p w : ℕ} → Protocol.Unnormal p w S S' → (q : ℕ) → q ≢ p → S'.copy w q ≡ S.copy w q
unnormal_other {w = w} (Protocol.none_normal h s) q n = s.copy_same w q
unnormal_other (Protocol.was_normal at was here m) q n = at.proc_else q n

unregular_run : {S S' : View} {p w : ℕ} → Protocol.Unregular p w S S' → Run S [] S'
unregular_run (Protocol.none_regular h s) = run_one (still s)
unregular_run {p = p} {w = w} (Protocol.was_regular at was here m) = run_one (move p w at refl m was here drop_regular)

unregular_other : {S S' : View} {p w : ℕ} → Protocol.Unregular p w S S' → (q : ℕ) → q ≢ p → S'.copy w q ≡ S.copy w q
unregular_other {w = w} (Protocol.none_regular h s) q n = s.copy_same w q
unregular_other (Protocol.was_regular at was here m) q n = at.proc_else q n

unregular_live : {S S' : View} {p w : ℕ} → Protocol.Unregular p w S S' → Live S p → Live S' p
unregular_live {p = p} (Protocol.none_regular h s) l = (s.active_same p ∙ l.0, s.status_same p ∙ l.1)
unregular_live {p = p} (Protocol.was_regular at was here m) l = (at.active_same p ∙ l.0, at.status_same p ∙ l.1)

-- a phase of a live transaction: p stays live, and the others' copies of w stay
pub record Live→ (p w : ℕ) (S S' : View) : Type 0 where
  pub runs : Run S [] S'
  pub lives : Live S' p
  pub others : (q : ℕ) → q ≢ p → S'.copy w q ≡ S.copy w q

at_live : {S S' : View} {p w : ℕ} → OnlyWord p w S S' → Live S p → Live S' p
at_live {p = p} at l = (at.active_same p ∙ l.0, at.status_same p ∙ l.1)

begun_run : {S S' : View} (p w : ℕ) → Live S p → Protocol.Begun p w S S' → Live→ p w S S'
begun_run p w l (Protocol.with_backup fr was at here i m) = record {
  runs = quietly (freed_silent p fr) (run_one (move p w at refl m was here (begin_backed (freed_live fr l) i)));
  lives = at_live at (freed_live fr l);
  others = λ q n. at.proc_else q n ∙ freed_other fr w q n;
}
begun_run p w l (Protocol.without at was here m) = record {
  runs = run_one (move p w at refl m was here (begin_bare l));
  lives = at_live at l;
  others = at.proc_else;
}

starts_run : {S S' : View} (p w : ℕ) → Live S p → Protocol.Starts p w S S' → Live→ p w S S'
starts_run p w l (Protocol.not_normal h s) =
    record { runs = run_one (still s); lives = (s.active_same p ∙ l.0, s.status_same p ∙ l.1); others = λ q n. s.copy_same w q }
starts_run p w l (Protocol.opens b) = begun_run p w l b

opened_run : {S S' : View} (p w : ℕ) → Protocol.Opened p w S S' → Live→ p w S S'
opened_run p w o =
    let l = unregular_live o.clears (o.wakes.active, o.wakes.status ∙ o.sound) in
    let s = starts_run p w l o.starts in
    record {
      runs = quietly (wake p o.wakes.cache o.wakes.active o.wakes.status) (run_then (unregular_run o.clears) s.runs);
      lives = s.lives;
      others = λ q n. s.others q n ∙ (unregular_other o.clears q n ∙ o.wakes.cache.else w q n);
    }

far_live : {S S' : View} {n p w : ℕ} → Far n p w S → Live→ p w S S' → Far n p w S'
far_live f a q l i = a.others q i ∙ f q l i

phase_live : {n p w : ℕ} {S S' : View} → Live S p → Phase n p w S S' → Live S' p
phase_live l ph = (ph.keeps.active_kept ∙ l.0, ph.keeps.status_kept ∙ l.1)

held_run : {S S' : View} (k : Protocol.Kind) (n p w : ℕ) → Far n p w S → Live S p → Protocol.Obtained k n p w S S' → Run S [] S'
held_run k n p w f l (Protocol.has_it was en s) = run_one (still s)
held_run k n p w f l (Protocol.raises was g at here m) =
    let s = by_grant Protocol.owning n p w f g in
    run_then s.phase.runs (run_one (move p w at refl m (s.phase.keeps.copy_kept ∙ was) here (upgrade s.gives)))
held_run {S} {S'} k n p w f l (Protocol.misses {b} {S₁} {S₂} {S₃} was fr fr' g at bk here m) =
    let s = by_grant k n p w (far_freed (far_freed f fr) fr') g in
    let i : S₃.copy w p ≡ none = s.phase.keeps.copy_kept ∙ freed_none fr' w (freed_none fr w was) in
    let l₃ = phase_live (freed_live fr' (freed_live fr l)) s.phase in
    quietly (freed_silent p fr) (quietly (freed_silent p fr') (run_then s.phase.runs (run_one (fills k s.gives i l₃ bk here))))
  where
    fills : (k : Protocol.Kind) → Gives k (S₃.copy w) p → S₃.copy w p ≡ none → Live S₃ p → (b ≡ bare) ⊎ (b ≡ backup (Protocol.granted k) (S₃.memory w))
        → S'.copy w p ≡ tentative (Protocol.granted k) (S₃.memory w) b false → Silent S₃ S'
    fills Protocol.reading g i l (inl e) here = move p w at refl m i (rw e at here) (fill_tentative l g)
    fills Protocol.reading g i l (inr e) here = move p w at refl m i (rw e at here) (fill_backed l g)
    fills Protocol.owning g i l (inl e) here = move p w at refl m i (rw e at here) (own_tentative l g)
    fills Protocol.owning g i l (inr e) here = move p w at refl m i (rw e at here) (own_backed l g)

rollback_bare : {S S' : View} (p : ℕ) → Protocol.RolledBack p S S' → (w : ℕ) → is_tentative (S'.copy w p) ≡ false
rollback_bare {S} p u w = rw (u.cache.here w) (rolled_back_tentative (S.copy w p))

-- rolled back, p shows only that its transaction is lost
lost : {S S' : View} (p : ℕ) → Protocol.RolledBack p S S' → Run S (drop p ∷ []) S'
lost p u = quietly (rollback_silent p u) (shown (drops p (rollback_bare p u) cache_refl))

denied_run : {S S' : View} (k : Protocol.Kind) (p w : ℕ) → Protocol.Denied k p w S S' → Run S (drop p ∷ []) S'
denied_run k p w (Protocol.no_room was u) = lost p u
denied_run k p w (Protocol.no_raise was z u) = lost p u
denied_run k p w (Protocol.no_grant was fr fr' z u) = quietly (freed_silent p fr) (quietly (freed_silent p fr') (lost p u))

-- with TSTATUS false p holds nothing tentatively
dead_bare : {S : View} {M : ℕ → ℕ} (p : ℕ) → Agree S M → S.status p ≡ false → (w : ℕ) → is_tentative (S.copy w p) ≡ false
dead_bare {S} p A d w = go (is_tentative (S.copy w p)) refl
  where
    go : (b : Bool) → is_tentative (S.copy w p) ≡ b → b ≡ false
    go true e = absurd (true≢false (sym (A.live w p e).1 ∙ d))
    go false e = refl

held_above : {S S' : View} (n p w : ℕ) {s : LineState} {x : ℕ} {b : Back} {t : Bool} → Protocol.Obtained Protocol.owning n p w S S'
    → S'.copy w p ≡ tentative s x b t
    → above s ≡ true
held_above n p w (Protocol.has_it was en i) h = cc (i.copy_same w p)
held_above n p w (Protocol.raises was g at here m) h = cc
held_above n p w (Protocol.misses was fr fr' g at bk here m) h = cc

module _ {S : View} {M : ℕ → ℕ} (n : ℕ) (A : Agree S M) (within : (w p : ℕ) → n ≤ p → S.copy w p ≡ none) where
  far : (p w : ℕ) → Far n p w S
  far p w q l i = within w q l

  pub step_run : {S' : View} {es : List Event} → Protocol.Step n S S' es → Run S es S'
  step_run (Protocol.load_hit {p} {w} {x} h s) = shown (loads p w {x = x} s (hits_sees (S.copy w p) x h))
  step_run (Protocol.load_back {p} {w} {x} was u ud) =
      quietly (rollback_silent p ud) (shown (loads p w {x = x} same_refl (rw (ud.cache.here w, was) refl)))
  step_run (Protocol.load_miss {p} {w} {x} was g) = fetched_run n p w x (far p w) was g
  step_run (Protocol.load_bare {p} {w} {x} was u ud g) =
      quietly (rollback_silent p ud) (fetched_run n p w x (far_rolled (far p w) ud) (ud.cache.here w ∙ rw was) g)
  step_run (Protocol.store_hit {p} {w} a b was u at here m) =
      run_then (unheld_run a) (run_then (unnormal_run b) (shown (stores p w at was u here)))
  step_run (Protocol.store_through {p} {w} a b was g at here m) =
      let s = by_plain Protocol.owning n p w (λ q l i. unnormal_other b q i ∙ (unheld_other a q i ∙ far p w q l i)) g in
      run_then (unheld_run a) (run_then (unnormal_run b)
      (run_then s.phase.runs (shown (writes p w at (rw (s.phase.keeps.copy_kept ∙ was)) s.gives here (λ h. m)))))
  step_run (Protocol.store_miss {p} {w} a b was fr g at here m) =
      let s = by_plain Protocol.owning n p w (far_freed (λ q l i. unnormal_other b q i ∙ (unheld_other a q i ∙ far p w q l i)) fr) g in
      let was' = s.phase.keeps.copy_kept ∙ freed_none fr w was in
      run_then (unheld_run a) (run_then (unnormal_run b)
      (quietly (freed_silent p fr) (run_then s.phase.runs (shown (writes p w at (rw was') s.gives here (λ h. absurd (true≢false h)))))))
  step_run (Protocol.gets {p} {w} {x} k o h was) =
      let a = opened_run p w o in
      run_then a.runs (run_then (held_run k n p w (far_live (far p w) a) a.lives h) (shown (treads p w same_refl was)))
  step_run (Protocol.puts {p} {w} o h was at here m) =
      let a = opened_run p w o in
      run_then a.runs (run_then (held_run Protocol.owning n p w (far_live (far p w) a) a.lives h)
      (shown (twrites p w at was (held_above n p w h was) here m)))
  step_run (Protocol.fails {p} {w} k o d) = run_then (opened_run p w o).runs (denied_run k p w d)
  step_run (Protocol.dead {p} z k) = shown (drops p (dead_bare p A z) k.cache)
  step_run (Protocol.commit_yes {p} z c f g) = shown (commits p z c)
  step_run (Protocol.over {p} z e) = shown (drops p (dead_bare p A z) e.cache)
  step_run (Protocol.aborts {p} u e) = quietly (rollback_silent p u) (shown (drops p (rollback_bare p u) e.cache))
  step_run (Protocol.validate_yes {p} z s) = run_one (still s)
  step_run (Protocol.interrupts {p} u) = lost p u
