-- What a log replays, and that it agrees with the copies that its transaction holds.
use mathlib.Core.Path.{◌≡◌, refl, sym, ◌∙◌, ap}
use mathlib.Core.Logic.{◌≢◌}
use mathlib.Core.Bool.{true, false, true≢false}
use mathlib.Core.List.{List, [], ◌∷◌}
use Prim.Native.Nat.{ℕ}
use native.Mathlib.Decide.{ℕ_discrete}
use Rattle.theory.specs.Log.{pick_dec, put, Item, read, write, replay, Replays, forget}
use Rattle.theory.specs.View.{Copy, none, regular, normal, tentative, is_tentative, is_stored, own_value}

pub pick_yes : {A P : Type 0} (d : Dec P) (a b : A) → P → pick_dec d a b ≡ a
unfolding pick_dec
pick_yes (yes e) a b h = refl
pick_yes (no n) a b h = absurd (n h)

pub pick_no : {A P : Type 0} (d : Dec P) (a b : A) → ¬ P → pick_dec d a b ≡ b
unfolding pick_dec
pick_no (yes e) a b h = absurd (h e)
pick_no (no n) a b h = refl

pub put_here : {A : Type 0} (f : ℕ → A) (w : ℕ) (v : A) → put f w v w ≡ v
unfolding put
put_here f w v = pick_yes (ℕ_discrete w w) v (f w) refl

pub put_at : {A : Type 0} (f : ℕ → A) (w : ℕ) (v : A) (u : ℕ) → u ≡ w → put f w v u ≡ v
put_at f w v u e = rw e (put_here f w v)

pub put_else : {A : Type 0} (f : ℕ → A) (w : ℕ) (v : A) (u : ℕ) → u ≢ w → put f w v u ≡ f u
unfolding put
put_else f w v u n = pick_no (ℕ_discrete u w) v (f u) n

pub put_same : {A : Type 0} (f g : ℕ → A) (w : ℕ) (v : A) (u : ℕ) → f u ≡ g u → put f w v u ≡ put g w v u
unfolding put
put_same f g w v u e = ap (pick_dec (ℕ_discrete u w) v) e

-- every word of the log is held tentatively, and as stored to where the log writes it
abbrev pub Obtained : List Item → (ℕ → Copy) → Type 0
Obtained [] c = Unit {0}
Obtained (read w x ∷ l) c = (is_tentative (c w) ≡ true) × Obtained l c
Obtained (write w v ∷ l) c = (is_tentative (c w) ≡ true) × (is_stored (c w) ≡ true) × Obtained l c

abbrev pub Keeps : Copy → Copy → Type 0
Keeps k k' = (is_tentative k ≡ true → is_tentative k' ≡ true) × (is_stored k ≡ true → is_stored k' ≡ true)

-- the log replays on M, and what it leaves is what the processor sees in its transaction
pub record Good (l : List Item) (M : ℕ → ℕ) (c : ℕ → Copy) : Type 0 where
  pub reads : Replays l M
  pub held : Obtained l c
  pub vals : (w : ℕ) → replay l M w ≡ own_value (c w) (M w)

pub held_mono : (l : List Item) (c c' : ℕ → Copy) → ((w : ℕ) → Keeps (c w) (c' w)) → Obtained l c → Obtained l c'
held_mono [] c c' g h = tt
held_mono (read w x ∷ l) c c' g h = ((g w).0 h.0, held_mono l c c' g h.1)
held_mono (write w v ∷ l) c c' g h = ((g w).0 h.0, (g w).1 h.1, held_mono l c c' g h.2)

-- a word that is not held is not written by the log
pub untouched : (l : List Item) (M : ℕ → ℕ) (c : ℕ → Copy) → Obtained l c → (w : ℕ) → is_tentative (c w) ≡ false → replay l M w ≡ M w
unfolding replay
untouched [] M c h w t = refl
untouched (read u x ∷ l) M c h w t = untouched l M c h.1 w t
untouched (write u v ∷ l) M c h w t = put_else (replay l M) u v w (λ e. true≢false (cc h.0)) ∙ untouched l M c h.2 w t

module _ (M M' : ℕ → ℕ) (c : ℕ → Copy) (same : (w : ℕ) → is_tentative (c w) ≡ true → M' w ≡ M w) where
  replay_same : (l : List Item) → (w : ℕ) → is_tentative (c w) ≡ true → replay l M' w ≡ replay l M w
  unfolding replay
  replay_same [] w t = same w t
  replay_same (read u x ∷ l) w t = replay_same l w t
  replay_same (write u v ∷ l) w t = put_same (replay l M') (replay l M) u v w (replay_same l w t)

  reads_same : (l : List Item) → Obtained l c → Replays l M → Replays l M'
  reads_same [] h r = tt
  reads_same (read u x ∷ l) h r = (replay_same l u h.0 ∙ r.0, reads_same l h.1 r.1)
  reads_same (write u v ∷ l) h r = reads_same l h.2 r

-- the copies change, and the processor's own values do not
pub good_copies : {l : List Item} {M : ℕ → ℕ} {c c' : ℕ → Copy}
    → Good l M c
    → ((w : ℕ) → Keeps (c w) (c' w))
    → ((w : ℕ) → own_value (c' w) (M w) ≡ own_value (c w) (M w))
    → Good l M c'
good_copies {l} {M} {c} {c'} G t v = record { reads = G.reads; held = held_mono l c c' t G.held; vals = λ w. G.vals w ∙ sym (v w) }

-- the memory changes, but not where a word is held
pub good_memory : {l : List Item} {M M' : ℕ → ℕ} {c : ℕ → Copy} → Good l M c → ((w : ℕ) → is_tentative (c w) ≡ true → M' w ≡ M w) → Good l M' c
good_memory {l} {M} {M'} {c} G s = record { reads = reads_same M M' c s l G.held G.reads; held = G.held; vals = λ w. go w (c w) refl }
  where
    go : (w : ℕ) (k : Copy) → c w ≡ k → replay l M' w ≡ own_value (c w) (M' w)
    go w none e = rw e (untouched l M' c G.held w (rw e))
    go w (regular st d) e = rw e (untouched l M' c G.held w (rw e))
    go w (normal st d) e = rw e (untouched l M' c G.held w (rw e))
    go w (tentative st d b t) e = replay_same M M' c s l w (rw e) ∙ (G.vals w ∙ rw e)

pub plain_tv : (k : Copy) (x : ℕ) → is_tentative k ≡ false → own_value k x ≡ x
plain_tv none x h = refl
plain_tv (regular s d) x h = refl
plain_tv (normal s d) x h = refl
plain_tv (tentative s d b t) x h = absurd (true≢false h)

pub unstored : (k : Copy) → is_tentative k ≡ false → is_stored k ≡ false
unstored none h = refl
unstored (regular s d) h = refl
unstored (normal s d) h = refl
unstored (tentative s d b t) h = absurd (true≢false h)

pub good_empty : {M : ℕ → ℕ} {c : ℕ → Copy} → ((w : ℕ) → is_tentative (c w) ≡ false) → Good [] M c
unfolding replay
good_empty {M} {c} n = record { reads = tt; held = tt; vals = λ w. sym (plain_tv (c w) (M w) (n w)) }

pub good_read : {l : List Item} {M : ℕ → ℕ} {c : ℕ → Copy} (w x : ℕ) → Good l M c → is_tentative (c w) ≡ true → own_value (c w) (M w) ≡ x
    → Good (read w x ∷ l) M c
unfolding replay
good_read w x G t e = record { reads = (G.vals w ∙ e, G.reads); held = (t, G.held); vals = G.vals }

pub good_write : {l : List Item} {M : ℕ → ℕ} {c c' : ℕ → Copy} (w v : ℕ) → Good l M c
    → is_tentative (c' w) ≡ true → is_stored (c' w) ≡ true → own_value (c' w) (M w) ≡ v
    → ((u : ℕ) → u ≢ w → c' u ≡ c u) → Good (write w v ∷ l) M c'
unfolding replay
good_write {l} {M} {c} {c'} w v G t i e s = record { reads = G.reads; held = (t, i, held_mono l c c' keep G.held); vals = vs }
  where
    keep : (u : ℕ) → Keeps (c u) (c' u)
    keep u = elim (ℕ_discrete u w) [ yes j ↦ rw j ((λ h. t), (λ h. i)) | no n ↦ rw (s u n) ((λ h. h), (λ h. h)) ]

    vs : (u : ℕ) → put (replay l M) w v u ≡ own_value (c' u) (M u)
    vs u = elim (ℕ_discrete u w) [ yes i ↦ put_at _ w v u i ∙ sym (rw i e) | no n ↦ put_else _ w v u n ∙ rw (s u n) (G.vals u) ]

forget_replay : (w : ℕ) (l : List Item) (M : ℕ → ℕ) (u : ℕ) → replay (forget w l) M u ≡ replay l M u
unfolding forget replay pick_dec
forget_replay w [] M u = refl
forget_replay w (read v x ∷ l) M u = one (ℕ_discrete v w) (forget_replay w l M u)
  where
    one : (d : Dec (v ≡ w)) → replay (forget w l) M u ≡ replay l M u → replay (pick_dec d (forget w l) (read v x ∷ forget w l)) M u ≡ replay l M u
    one (yes e) h = h
    one (no n) h = h
forget_replay w (write v x ∷ l) M u = put_same (replay (forget w l) M) (replay l M) v x u (forget_replay w l M u)

forget_reads : (w : ℕ) (l : List Item) (M : ℕ → ℕ) → Replays l M → Replays (forget w l) M
unfolding forget pick_dec
forget_reads w [] M r = tt
forget_reads w (read v x ∷ l) M r = one (ℕ_discrete v w) (forget_reads w l M r.1)
  where
    one : (d : Dec (v ≡ w)) → Replays (forget w l) M → Replays (pick_dec d (forget w l) (read v x ∷ forget w l)) M
    one (yes e) h = h
    one (no n) h = (forget_replay w l M v ∙ r.0, h)
forget_reads w (write v x ∷ l) M r = forget_reads w l M r

forget_held : (w : ℕ) (l : List Item) (c c' : ℕ → Copy) → is_stored (c w) ≡ false → ((u : ℕ) → u ≢ w → c' u ≡ c u) → Obtained l c → Obtained (forget w l) c'
unfolding forget pick_dec
forget_held w [] c c' i s h = tt
forget_held w (read v x ∷ l) c c' i s h = one (ℕ_discrete v w) (forget_held w l c c' i s h.1)
  where
    one : (d : Dec (v ≡ w)) → Obtained (forget w l) c' → Obtained (pick_dec d (forget w l) (read v x ∷ forget w l)) c'
    one (yes e) k = k
    one (no n) k = (rw (s v n) h.0, k)
forget_held w (write v x ∷ l) c c' i s h = (rw (s v n) h.0, rw (s v n) h.1, forget_held w l c c' i s h.2)
  where
    n : v ≢ w
    n e = true≢false (cc h.1)

pub good_forget : {l : List Item} {M : ℕ → ℕ} {c c' : ℕ → Copy} (w : ℕ) → Good l M c → is_stored (c w) ≡ false
    → own_value (c' w) (M w) ≡ own_value (c w) (M w) → ((u : ℕ) → u ≢ w → c' u ≡ c u) → Good (forget w l) M c'
good_forget {l} {M} {c} {c'} w G i e s = record {
  reads = forget_reads w l M G.reads;
  held = forget_held w l c c' i s G.held;
  vals = λ u. forget_replay w l M u ∙ (G.vals u ∙ sym (vs u));
}
  where
    vs : (u : ℕ) → own_value (c' u) (M u) ≡ own_value (c u) (M u)
    vs u = elim (ℕ_discrete u w) [ yes j ↦ rw j e | no n ↦ rw (s u n) ]
