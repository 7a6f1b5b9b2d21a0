-- The settled value of a word as a function, coherence as document 01 lists it, and that the two make `Agree`.
use mathlib.Core.Path.{◌≡◌, refl, sym, ◌∙◌}
use mathlib.Core.Logic.{◌≢◌}
use mathlib.Core.Bool.{Bool, true, false, cond, true≢false, false≢true}
use mathlib.Core.List.{List}
use Prim.Native.Nat.{ℕ, zero, suc, ◌≤◌, ◌<◌}
use native.Mathlib.Decide.{ℕ_discrete, dec_lt}
use native.Mathlib.Omega.{arith}
use Rattle.theory.specs.View.{LineState, Back, bare, backup, Copy, none, regular, normal, tentative, above}
use Rattle.theory.specs.View.{dirty_state, IsBelow, is_tentative, exclusive, owns, IsFineBack, IsFine, has, Word, View}
use Rattle.theory.proofs.OneWord.{owns_exclusive, clean_backup, clean_value, below_above, below_clean, dirty_above}
use Rattle.theory.specs.Event.{Event}
use Rattle.theory.specs.Change.{Live}
use Rattle.theory.proofs.Moves.{Run}
use Rattle.theory.proofs.Logs.{good_empty}
use Rattle.theory.specs.Plain.{Serial, Opaque, after_events, unlogged}
use Rattle.theory.proofs.Agree.{Agree}
use Rattle.theory.proofs.Invariant.{Inv, serial}

abbrev pub back_data : Back → ℕ
back_data bare = 0
back_data (backup r e) = e

-- the data of a regular, NORMAL or backup copy
abbrev pub base_data : Copy → ℕ
base_data none = 0
base_data (regular s d) = d
base_data (normal s d) = d
base_data (tentative s d b t) = back_data b

unfoldable pub settled_by : ℕ → ℕ → (ℕ → Copy) → ℕ
settled_by zero m c = m
settled_by (suc n) m c = cond (owns (c n)) (base_data (c n)) (settled_by n m c)

abbrev pub settled : ℕ → View → ℕ → ℕ
settled n S w = settled_by n (S.memory w) (S.copy w)

pub owns_data : (k : Copy) (x : ℕ) → IsFine k x → owns k ≡ true → base_data k ≡ x
owns_data none x f h = absurd (false≢true h)
owns_data (regular s d) x f h = f
owns_data (normal s d) x f h = f
owns_data (tentative s d bare t) x f h = absurd (false≢true h)
owns_data (tentative s d (backup r e) t) x f h = f.2.0

settled_go : {m x : ℕ} {c : ℕ → Copy} → Word m c x → (n : ℕ) → ((p : ℕ) → n ≤ p → owns (c p) ≡ false) → settled_by n m c ≡ x
unfolding settled_by
settled_go W zero h = W.cell (λ p. h p (omega arith))
settled_go {m} {x} {c} W (suc n) h = go (owns (c n)) refl (settled_go W n)
  where
    go : (b : Bool) → owns (c n) ≡ b → (((p : ℕ) → n ≤ p → owns (c p) ≡ false) → settled_by n m c ≡ x) → cond b (base_data (c n)) (settled_by n m c) ≡ x
    go true e k = owns_data (c n) x (W.holds n) e
    go false e k = k (λ p l. elim (ℕ_discrete p n) [ yes i ↦ rw i e | no i ↦ h p (omega arith) ])

-- no processor past n has a copy
abbrev pub Within : ℕ → View → Type 0
Within n S = (w p : ℕ) → n ≤ p → S.copy w p ≡ none

pub settled_is : {S : View} {M : ℕ → ℕ} (n : ℕ) → Agree S M → Within n S → (w : ℕ) → settled n S w ≡ M w
settled_is n A b w = settled_go (A.words w) n (λ p l. rw (b w p l))

-- document 01's soundness, as far as the view shows it
abbrev pub back_up : Back → Bool
back_up bare = false
back_up (backup r e) = above r

abbrev pub BackAgrees : Back → ℕ → Type 0
BackAgrees bare m = Unit {0}
BackAgrees (backup r e) m = dirty_state r ≡ false → e ≡ m

-- VALID and RESERVED data equal memory
abbrev pub Agrees : Copy → ℕ → Type 0
Agrees none m = Unit {0}
Agrees (regular s d) m = dirty_state s ≡ false → d ≡ m
Agrees (normal s d) m = dirty_state s ≡ false → d ≡ m
Agrees (tentative s d b t) m = (dirty_state s ≡ false → d ≡ m) × BackAgrees b m

-- a backup's state is not above its tentative copy's
abbrev pub BackBelow : Back → LineState → Type 0
BackBelow bare s = Unit {0}
BackBelow (backup r e) s = IsBelow r s

abbrev pub IsOrdered : Copy → Type 0
IsOrdered none = Unit {0}
IsOrdered (regular s d) = Unit {0}
IsOrdered (normal s d) = Unit {0}
IsOrdered (tentative s d b t) = BackBelow b s

pub record Coherent (n : ℕ) (S : View) : Type 0 where
  pub only : (w p q : ℕ) → exclusive (S.copy w p) ≡ true → q ≢ p → S.copy w q ≡ none
  pub equal : (w p : ℕ) → Agrees (S.copy w p) (S.memory w)
  pub order : (w p : ℕ) → IsOrdered (S.copy w p)
  pub live : (w p : ℕ) → is_tentative (S.copy w p) ≡ true → Live S p
  pub within : Within n S

-- a word that somebody has, and has not DIRTY, is in memory
pub clean_cell : {m x : ℕ} {c : ℕ → Copy} → Word m c x → (p : ℕ) {k : Copy} → c p ≡ k → has k ≡ true → owns k ≡ false → m ≡ x
clean_cell {m} {x} {c} W p {k} was h o = W.cell each
  where
    each : (q : ℕ) → owns (c q) ≡ false
    each q = go (ℕ_discrete q p) (exclusive (c q)) refl
      where
        go : Dec (q ≡ p) → (b : Bool) → exclusive (c q) ≡ b → owns (c q) ≡ false
        go (yes e) b i = rw (e, was) o
        go (no n) true i = absurd (true≢false (cc (W.only q p i (λ e. n (sym e)))))
        go (no n) false i = owns_exclusive (c q) x (W.holds q) i

pub agree→coherent : {S : View} {M : ℕ → ℕ} (n : ℕ) → Agree S M → Within n S → Coherent n S
agree→coherent {S} {M} n A b = record {
  only = λ w. (A.words w).only;
  equal = λ w p. eq w p (S.copy w p) refl ((A.words w).holds p);
  order = λ w p. od (S.copy w p) (M w) ((A.words w).holds p);
  live = A.live;
  within = b;
}
  where
    odb : (b : Back) (s : LineState) (x : ℕ) → IsFineBack b s x → BackBelow b s
    odb bare s x f = tt
    odb (backup r e) s x f = f.1

    od : (k : Copy) (x : ℕ) → IsFine k x → IsOrdered k
    od none x f = tt
    od (regular s d) x f = tt
    od (normal s d) x f = tt
    od (tentative s d b t) x f = odb b s x f.2

    eq : (w p : ℕ) (k : Copy) → S.copy w p ≡ k → IsFine k (M w) → Agrees k (S.memory w)
    eq w p none e f = tt
    eq w p (regular s d) e f = λ h. f ∙ sym (clean_cell (A.words w) p e refl h)
    eq w p (normal s d) e f = λ h. f ∙ sym (clean_cell (A.words w) p e refl h)
    eq w p (tentative s d bare t) e f = ((λ h. clean_value s d bare t (M w) f h ∙ sym (clean_cell (A.words w) p e refl refl)), tt)
    eq w p (tentative s d (backup r v) t) e f = (
      (λ h. clean_value s d (backup r v) t (M w) f h ∙ sym (clean_cell (A.words w) p e refl (clean_backup (backup r v) s (M w) h f.2))),
      (λ h. f.2.0 ∙ sym (clean_cell (A.words w) p e refl h)),
    )

-- the view is taken with every DIRTY tentative copy as stored to
abbrev pub IsCoarse : Copy → Type 0
IsCoarse none = Unit {0}
IsCoarse (regular s d) = Unit {0}
IsCoarse (normal s d) = Unit {0}
IsCoarse (tentative s d b t) = t ≡ dirty_state s

owns_above : (k : Copy) → IsOrdered k → owns k ≡ true → exclusive k ≡ true
owns_above none o h = h
owns_above (regular s d) o h = dirty_above s h
owns_above (normal s d) o h = dirty_above s h
owns_above (tentative s d bare t) o h = absurd (false≢true h)
owns_above (tentative s d (backup r e) t) o h = below_above r s (dirty_above r h) o

settled_mem : (n m : ℕ) (c : ℕ → Copy) → ((p : ℕ) → owns (c p) ≡ false) → settled_by n m c ≡ m
unfolding settled_by
settled_mem zero m c h = refl
settled_mem (suc n) m c h = rw (h n) (settled_mem n m c h)

settled_own : (n m : ℕ) (c : ℕ → Copy) (p : ℕ) → p < n → owns (c p) ≡ true → ((q : ℕ) → q ≢ p → c q ≡ none) → settled_by n m c ≡ base_data (c p)
unfolding settled_by
settled_own zero m c p l h o = absurd (omega arith)
settled_own (suc n) m c p l h o = go (ℕ_discrete n p) (settled_own n m c p)
  where
    go : Dec (n ≡ p) → (p < n → owns (c p) ≡ true → ((q : ℕ) → q ≢ p → c q ≡ none) → settled_by n m c ≡ base_data (c p))
        → cond (owns (c n)) (base_data (c n)) (settled_by n m c) ≡ base_data (c p)
    go (yes e) k = rw (e, h)
    go (no i) k = rw (o n i) (k (omega arith) h o)

by : {A : Type 0} (b : Bool) → (b ≡ true → A) → (b ≡ false → A) → A
by true f g = f refl
by false f g = g refl

pub coherent→agree : {S : View} (n : ℕ) → Coherent n S → ((w p : ℕ) → IsCoarse (S.copy w p)) → Agree S (settled n S)
coherent→agree {S} n C co =
    record {
      words = λ w. record {
        only = C.only w;
        holds = λ p. hold w p (S.copy w p) refl (C.order w p) (C.equal w p) (co w p);
        cell =
            λ h. sym (settled_mem n _ _ h);
      };
      live = C.live;
    }
  where
    inside : (w p : ℕ) → owns (S.copy w p) ≡ true → p < n
    inside w p h = elim (dec_lt p n) [ yes l ↦ l | no g ↦ absurd (true≢false (cc (C.within w p (omega arith)))) ]

    -- an owner's data is the settled value
    wetly : (w p : ℕ) {k : Copy} → S.copy w p ≡ k → owns k ≡ true → base_data k ≡ settled n S w
    wetly w p e h = let h' = rw (← e) at h in rw (← e)
        (sym (settled_own n (S.memory w) (S.copy w) p (inside w p h') h' (λ q. C.only w p q (owns_above (S.copy w p) (C.order w p) h'))))

    -- and without one the memory has it
    dryly : (w p : ℕ) {k : Copy} → S.copy w p ≡ k → has k ≡ true → owns k ≡ false → S.memory w ≡ settled n S w
    dryly w p {k} e h o = sym (settled_mem n (S.memory w) (S.copy w) each)
      where
        each : (q : ℕ) → owns (S.copy w q) ≡ false
        each q = go (ℕ_discrete q p) (owns (S.copy w q)) refl
          where
            go : Dec (q ≡ p) → (b : Bool) → owns (S.copy w q) ≡ b → owns (S.copy w q) ≡ false
            go (yes i) b j = rw (i, e) o
            go (no i) true j = absurd (true≢false (cc (C.only w q p (owns_above (S.copy w q) (C.order w q) j) (λ i'. i (sym i')))))
            go (no i) false j = j

    hold : (w p : ℕ) (k : Copy) → S.copy w p ≡ k → IsOrdered k → Agrees k (S.memory w) → IsCoarse k → IsFine k (settled n S w)
    hold w p none e o a g = tt
    hold w p (regular s d) e o a g = by (dirty_state s) (λ h. wetly w p e h) (λ h. a h ∙ dryly w p e refl h)
    hold w p (normal s d) e o a g = by (dirty_state s) (λ h. wetly w p e h) (λ h. a h ∙ dryly w p e refl h)
    hold w p (tentative s d bare t) e o a g =
        ((λ h. a.0 (sym g ∙ h) ∙ dryly w p e refl refl), (λ h. sym g ∙ h), tt)
    hold w p (tentative s d (backup r v) t) e o a g = (
      (λ h. a.0 (sym g ∙ h) ∙ dryly w p e refl (below_clean r s (sym g ∙ h) o)),
      (λ h. sym g ∙ h),
      (by (dirty_state r) (λ h. wetly w p e h) (λ h. a.1 h ∙ dryly w p e refl h), o),
    )

-- a machine with empty caches
abbrev pub Bare : View → Type 0
Bare S = (w p : ℕ) → S.copy w p ≡ none

pub bare_inv : (S : View) → Bare S → Inv S (unlogged S.memory)
bare_inv S z = record {
  agree = record {
    words = λ w. record { only = λ p q h n. z w q; holds = λ p. rw (z w p) tt; cell = λ h. refl };
    live = λ w p h. absurd (false≢true (rw (z w p) at h));
  };
  logs = λ p h. good_empty (λ w. rw (z w p));
}

-- THE THEOREM. What a machine of n processors shows, from empty caches, the plain machine shows; at the end each word's settled value is the
-- plain memory's.
pub serializable : (n : ℕ) {es : List Event} {S S' : View} → Bare S → Run S es S' → Within n S'
    → Serial es (unlogged S.memory) × Opaque es (unlogged S.memory)
    × ((w : ℕ) → settled n S' w ≡ (after_events es (unlogged S.memory)).val w) × Coherent n S'
serializable n {S = S} z r b =
    let t = serial (bare_inv S z) r in
    (t.0, t.1, settled_is n t.2.agree b, agree→coherent n t.2.agree b)
