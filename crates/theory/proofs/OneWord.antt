-- One word: what a change of one processor's copy asks, and that each small operation meets it.
use mathlib.Core.Path.{◌≡◌, refl, sym, ◌∙◌}
use mathlib.Core.Logic.{◌≢◌, ◌⊎◌, inl, inr}
use mathlib.Core.Bool.{Bool, true, false, true≢false, false≢true}
use Prim.Native.Nat.{ℕ}
use native.Mathlib.Decide.{ℕ_discrete}
use Rattle.theory.specs.View.{has, LineState, valid, reserved, dirty, Back, bare, backup, Copy, none, regular, normal, tentative}
use Rattle.theory.specs.View.{above, dirty_state, IsBelow, exclusive, back_dirty, owns, IsFineBack, IsFine, own_value, rolled_copy, committed_copy, Word}

pub changed : {m m' x x' : ℕ} {c c' : ℕ → Copy} {p : ℕ} {k : Copy}
    → Word m c x
    → c' p ≡ k
    → ((q : ℕ) → q ≢ p → c' q ≡ c q)
    → (exclusive k ≡ true → (q : ℕ) → q ≢ p → c q ≡ none)
    → ((q : ℕ) → q ≢ p → exclusive (c q) ≡ true → k ≡ none)
    → IsFine k x'
    → ((q : ℕ) → q ≢ p → IsFine (c q) x')
    → (owns k ≡ false → ((q : ℕ) → q ≢ p → owns (c q) ≡ false) → m' ≡ x')
    → Word m' c' x'
changed {m} {m'} {x} {x'} {c} {c'} {p} {k} W here else ex₁ ex₂ f₁ f₂ cl =
    record { only = on; holds = hs; cell = λ h. cl (rw here at (h p)) (λ q n. rw (else q n) at (h q)) }
  where
    hs : (q : ℕ) → IsFine (c' q) x'
    hs q = elim (ℕ_discrete q p) [ yes e ↦ rw e (rw here f₁) | no n ↦ rw (else q n) (f₂ q n) ]

    on : (r q : ℕ) → exclusive (c' r) ≡ true → q ≢ r → c' q ≡ none
    on r q h n = go (ℕ_discrete r p) (ℕ_discrete q p)
      where
        go : Dec (r ≡ p) → Dec (q ≡ p) → c' q ≡ none
        go (yes e) (yes e') = absurd (n (e' ∙ sym e))
        go (yes e) (no n') = else q n' ∙ ex₁ (cc) q n'
        go (no n') (yes e) = rw e (here ∙ ex₂ r n' (cc (else r n')))
        go (no n') (no n'') = else q n'' ∙ W.only r q (cc (else r n')) n

pub dirty_above : (s : LineState) → dirty_state s ≡ true → above s ≡ true
dirty_above valid h = h
dirty_above reserved h = refl
dirty_above dirty h = refl

pub valid_clean : (s : LineState) → above s ≡ false → dirty_state s ≡ false
valid_clean valid h = refl
valid_clean reserved h = refl
valid_clean dirty h = h

pub below_self : (s : LineState) → IsBelow s s
below_self valid = tt
below_self reserved = refl
below_self dirty = refl

pub below_valid : (r s : LineState) → IsBelow r valid → IsBelow r s
below_valid valid s h = tt
below_valid reserved s h = absurd (false≢true h)
below_valid dirty s h = absurd (false≢true h)

pub below_above : (r s : LineState) → above r ≡ true → IsBelow r s → above s ≡ true
below_above valid s u h = absurd (false≢true u)
below_above reserved s u h = h
below_above dirty s u h = dirty_above s h

pub below_clean : (r s : LineState) → dirty_state s ≡ false → IsBelow r s → dirty_state r ≡ false
below_clean valid s u h = refl
below_clean reserved s u h = refl
below_clean dirty s u h = sym h ∙ u

pub below_dirty : (r : LineState) → IsBelow r dirty
below_dirty valid = tt
below_dirty reserved = refl
below_dirty dirty = refl

pub back_raise : (b : Back) (s s' : LineState) (x : ℕ) → ((r : LineState) → IsBelow r s → IsBelow r s') → IsFineBack b s x → IsFineBack b s' x
back_raise bare s s' x g f = tt
back_raise (backup r e) s s' x g f = (f.0, g r f.1)

pub clean_backup : (b : Back) (s : LineState) (x : ℕ) → dirty_state s ≡ false → IsFineBack b s x → back_dirty b ≡ false
clean_backup bare s x h f = refl
clean_backup (backup r e) s x h f = below_clean r s h f.1

-- a tentative copy that is not DIRTY holds the settled value
pub clean_value : (s : LineState) (d : ℕ) (b : Back) (t : Bool) (x : ℕ) → IsFine (tentative s d b t) x → dirty_state s ≡ false → d ≡ x
clean_value s d b false x f h = f.0 refl
clean_value s d b true x f h = absurd (true≢false (sym (f.1 refl) ∙ h))

-- a copy that is not exclusive owns nothing
pub owns_exclusive : (k : Copy) (x : ℕ) → IsFine k x → exclusive k ≡ false → owns k ≡ false
owns_exclusive none x f h = refl
owns_exclusive (regular s d) x f h = valid_clean s h
owns_exclusive (normal s d) x f h = valid_clean s h
owns_exclusive (tentative s d b t) x f h = clean_backup b s x (valid_clean s h) f.2

abbrev pub Low : (ℕ → Copy) → ℕ → Type 0
Low c p = (q : ℕ) → q ≢ p → exclusive (c q) ≡ false

abbrev pub Alone : (ℕ → Copy) → ℕ → Type 0
Alone c p = (q : ℕ) → q ≢ p → c q ≡ none

pub alone_low : {c : ℕ → Copy} {p : ℕ} → Alone c p → Low c p
alone_low a q n = rw (a q n)

pub rolled_exclusive : (k : Copy) (x : ℕ) → IsFine k x → exclusive (rolled_copy k) ≡ true → exclusive k ≡ true
rolled_exclusive none x f h = h
rolled_exclusive (regular s d) x f h = h
rolled_exclusive (normal s d) x f h = h
rolled_exclusive (tentative s d bare t) x f h = absurd (false≢true h)
rolled_exclusive (tentative s d (backup r e) t) x f h = below_above r s h f.2.1

pub rolled_none : (k : Copy) → has k ≡ false → rolled_copy k ≡ none
rolled_none none h = refl
rolled_none (regular s d) h = absurd (true≢false h)
rolled_none (normal s d) h = absurd (true≢false h)
rolled_none (tentative s d b t) h = absurd (true≢false h)

pub rolled_fine : (k : Copy) (x : ℕ) → IsFine k x → IsFine (rolled_copy k) x
rolled_fine none x f = f
rolled_fine (regular s d) x f = f
rolled_fine (normal s d) x f = f
rolled_fine (tentative s d bare t) x f = tt
rolled_fine (tentative s d (backup r e) t) x f = f.2.0

pub rolled_owns : (k : Copy) → owns (rolled_copy k) ≡ owns k
rolled_owns none = refl
rolled_owns (regular s d) = refl
rolled_owns (normal s d) = refl
rolled_owns (tentative s d bare t) = refl
rolled_owns (tentative s d (backup r e) t) = refl

module _ {m x : ℕ} {c : ℕ → Copy} (W : Word m c x) where
  -- with no exclusive copy elsewhere and none here that owns the value, the memory has it
  pub low_cell : (p : ℕ) {k : Copy} → c p ≡ k → owns k ≡ false → Low c p → m ≡ x
  low_cell p was o l = W.cell each
    where
      each : (q : ℕ) → owns (c q) ≡ false
      each q = elim (ℕ_discrete q p) [ yes e ↦ rw (e, was) o | no n ↦ owns_exclusive (c q) x (W.holds q) (l q n) ]

  -- a silent change: each premise is about the two copies alone, or says that the others are low or absent
  pub quiet : {m' : ℕ} {c' : ℕ → Copy} (p : ℕ) {k k' : Copy}
      → c p ≡ k
      → c' p ≡ k'
      → ((q : ℕ) → q ≢ p → c' q ≡ c q)
      → (exclusive k' ≡ true → (exclusive k ≡ true) ⊎ Alone c p)
      → (has k ≡ false → (k' ≡ none) ⊎ Low c p)
      → IsFine k' x
      → ((owns k ≡ false → m ≡ x) → owns k' ≡ false → m' ≡ x)
      → Word m' c' x
  quiet {m'} {c'} p {k} {k'} was here else e₁ e₂ f g =
      changed W here else a₁ a₂ f (λ q n. W.holds q) (λ h o. g (λ o'. W.cell (each o' o)) h)
    where
      a₁ : exclusive k' ≡ true → Alone c p
      a₁ h q n = elim (e₁ h) [ inl e ↦ W.only p q (rw was e) n | inr a ↦ a q n ]

      a₂ : (q : ℕ) → q ≢ p → exclusive (c q) ≡ true → k' ≡ none
      a₂ q n h = elim (e₂ (rw (sym was ∙ W.only q p h (λ e. n (sym e))))) [ inl e ↦ e | inr l ↦ absurd (true≢false (sym h ∙ l q n)) ]

      each : owns k ≡ false → ((q : ℕ) → q ≢ p → owns (c q) ≡ false) → (q : ℕ) → owns (c q) ≡ false
      each o o' q = elim (ℕ_discrete q p) [ yes e ↦ rw (e, was) o | no n ↦ o' q n ]

  -- the processor that alone has the word stores into its tentative copy: the settled value stays
  pub stored_tentative : {c' : ℕ → Copy} (p : ℕ) {s : LineState} {d v : ℕ} {b : Back} {t : Bool}
      → c p ≡ tentative s d b t
      → above s ≡ true
      → c' p ≡ tentative dirty v b true
      → ((q : ℕ) → q ≢ p → c' q ≡ c q)
      → Word m c' x
  stored_tentative p {s} {d} {v} {b} was u here else =
      let f = rw was at (W.holds p) in
      quiet p was here else (λ h. inl u) (λ h. absurd (true≢false h))
      ((λ h. absurd (true≢false h)), (λ h. refl), back_raise b s dirty x (λ r h. below_dirty r) f.2) (λ g h. g h)

  -- a tentative copy that was not stored to becomes NORMAL, and its backup goes
  pub released : {c' : ℕ → Copy} (p : ℕ) {s : LineState} {d : ℕ} {b : Back}
      → c p ≡ tentative s d b false
      → c' p ≡ normal s d
      → ((q : ℕ) → q ≢ p → c' q ≡ c q)
      → Word m c' x
  released p {s} {d} {b} was here else =
      let f = rw was at (W.holds p) in
      quiet p was here else inl (λ h. absurd (true≢false h)) (f.0 refl) (λ g h. g (clean_backup b s x h f.2))

  -- the processor that alone has the word puts a new value into its copy (`s'` DIRTY), or into its copy and memory too
  pub stored : {m' : ℕ} {c' : ℕ → Copy} (p : ℕ) {s : LineState} {v : ℕ}
      → Alone c p
      → c' p ≡ regular s v
      → ((q : ℕ) → q ≢ p → c' q ≡ c q)
      → (dirty_state s ≡ false → m' ≡ v)
      → Word m' c' v
  stored p {s} {v} al here else g =
      changed W here else (λ h. al) (λ q n h. absurd (false≢true (rw (al q n) at h))) refl (λ q n. rw (al q n) tt) (λ h o. g h)

  pub rolled : {c' : ℕ → Copy} (p : ℕ)
      → c' p ≡ rolled_copy (c p)
      → ((q : ℕ) → q ≢ p → c' q ≡ c q)
      → Word m c' x
  rolled p here else = quiet p refl here else (λ h. inl (rolled_exclusive (c p) x (W.holds p) h)) (λ h. inl (rolled_none (c p) h))
      (rolled_fine (c p) x (W.holds p)) (λ g h. g (sym (rolled_owns (c p)) ∙ h))

  pub committed_word : {c' : ℕ → Copy} (p : ℕ)
      → c' p ≡ committed_copy (c p)
      → ((q : ℕ) → q ≢ p → c' q ≡ c q)
      → Word m c' (own_value (c p) x)
  committed_word {c'} p here else = go (c p) refl here
    where
      go : (k : Copy) → c p ≡ k → c' p ≡ committed_copy k → Word m c' (own_value k x)
      go none was here = quiet p was here else inl (λ h. inl refl) tt (λ g h. g h)
      go (regular s d) was here = quiet p was here else inl (λ h. absurd (true≢false h)) (rw was at (W.holds p)) (λ g h. g h)
      go (normal s d) was here = quiet p was here else inl (λ h. absurd (true≢false h)) (rw was at (W.holds p)) (λ g h. g h)
      go (tentative s d b t) was here =
          let f : IsFine (tentative s d b t) x = rw was at (W.holds p) in
          changed W here else (λ h q n. W.only p q (rw was h) n) (λ q n h. gone q n h) refl (others s was (clean_value s d b t x f))
          (λ h o. low_cell' h o f ∙ sym (clean_value s d b t x f h))
        where
          gone : (q : ℕ) → q ≢ p → exclusive (c q) ≡ true → normal s d ≡ none
          gone q n h = let z : true ≡ false = cc (W.only q p h (λ e. n (sym e))) in absurd (true≢false z)

          others : (s : LineState) → c p ≡ tentative s d b t → (dirty_state s ≡ false → d ≡ x) → (q : ℕ) → q ≢ p → IsFine (c q) d
          others valid was g q n = rw (g refl) (W.holds q)
          others reserved was g q n = rw (W.only p q (rw was) n) tt
          others dirty was g q n = rw (W.only p q (rw was) n) tt

          low_cell' : dirty_state s ≡ false → ((q : ℕ) → q ≢ p → owns (c q) ≡ false) → IsFine (tentative s d b t) x → m ≡ x
          low_cell' h o f = W.cell (λ q. elim (ℕ_discrete q p) [ yes e ↦ rw (e, was) (clean_backup b s x h f.2) | no n ↦ o q n ])
