-- A request: others are rolled back where that is asked, then each answers; what it gives the processor that asked.
use mathlib.Core.Path.{◌≡◌, refl, sym, ◌∙◌, ap}
use mathlib.Core.Logic.{◌≢◌, inl, inr}
use mathlib.Core.Bool.{Bool, false, true≢false}
use mathlib.Core.List.{[]}
use Prim.Native.Nat.{ℕ, suc, ◌≤◌, ◌<◌}
use native.Mathlib.Decide.{ℕ_discrete, dec_lt}
use native.Mathlib.Omega.{arith}
use Rattle.theory.specs.View.{valid, reserved, dirty, bare, backup, Copy, none, regular, normal, tentative, exclusive, rolled_copy, View}
use Rattle.theory.proofs.OneWord.{Low, Alone}
use Rattle.theory.proofs.Move.{drop_regular, drop_normal, lower_regular, lower_normal}
use Rattle.theory.specs.Change.{OnlyWord, Same}
use Rattle.theory.proofs.Moves.{Silent, still, move, rollback, Run, done, run_then, run_one}
use Rattle.theory.proofs.Agree.{rolled_back_tentative}
use Rattle.theory.specs.Protocol

-- p's own side of a phase: its copy of w, its flags
pub record Kept (p w : ℕ) (S S' : View) : Type 0 where
  pub copy_kept : S'.copy w p ≡ S.copy w p
  pub active_kept : S'.active p ≡ S.active p
  pub status_kept : S'.status p ≡ S.status p

-- a phase that is silent, keeps p's side, and touches no other processor past n
pub record Phase (n p w : ℕ) (S S' : View) : Type 0 where
  pub runs : Run S [] S'
  pub keeps : Kept p w S S'
  pub far : (q : ℕ) → n ≤ q → q ≢ p → S'.copy w q ≡ S.copy w q

pub at_still : {S S' : View} (p w : ℕ) → OnlyWord p w S S' → S'.copy w p ≡ S.copy w p → S'.memory w ≡ S.memory w → Same S S'
at_still {S} {S'} p w at e m = record {
  memory_same = λ u. elim (ℕ_discrete u w) [ yes i ↦ rw i m | no n ↦ at.memory_else u n ];
  copy_same = λ u q. cs u q (ℕ_discrete u w) (ℕ_discrete q p);
  active_same = at.active_same;
  status_same = at.status_same;
}
  where
    cs : (u q : ℕ) → Dec (u ≡ w) → Dec (q ≡ p) → S'.copy u q ≡ S.copy u q
    cs u q (yes i) (yes j) = rw (i, j) e
    cs u q (yes i) (no n) = rw i (at.proc_else q n)
    cs u q (no n) d = at.word_else u n q

-- one processor answers a request
snoop_silent : {S S' : View} (k : Protocol.Kind) (p w q : ℕ) → Protocol.Snooped (Protocol.snoops k) Protocol.supplied p w q S S'
    → (q ≢ p → Protocol.opposing k (S.copy w q) ≡ false) → Silent S S'
snoop_silent k p w q (Protocol.own e s) h = still s
snoop_silent {S} {S'} k p w q (Protocol.other n at e m) h = go k (S.copy w q) refl (h n) e m
  where
    go : (k : Protocol.Kind) (c : Copy) → S.copy w q ≡ c → Protocol.opposing k c ≡ false → S'.copy w q ≡ Protocol.snoops k c
        → S'.memory w ≡ Protocol.supplied c (S.memory w) → Silent S S'
    go Protocol.reading none i r e m = still (at_still q w at (e ∙ sym i) m)
    go Protocol.reading (regular s d) i r e m = move q w at refl m i e lower_regular
    go Protocol.reading (normal s d) i r e m = move q w at refl m i e lower_normal
    go Protocol.reading (tentative valid d b t) i r e m = still (at_still q w at (e ∙ sym i) m)
    go Protocol.reading (tentative reserved d b t) i r e m = absurd (true≢false r)
    go Protocol.reading (tentative dirty d b t) i r e m = absurd (true≢false r)
    go Protocol.owning none i r e m = still (at_still q w at (e ∙ sym i) m)
    go Protocol.owning (regular s d) i r e m = move q w at refl m i e drop_regular
    go Protocol.owning (normal s d) i r e m = move q w at refl m i e drop_normal
    go Protocol.owning (tentative s d b t) i r e m = absurd (true≢false r)

module _ {f : Copy → Copy} {g : Copy → ℕ → ℕ} {p w q : ℕ} {S S' : View} where
  snoop_else : Protocol.Snooped f g p w q S S' → (r : ℕ) → r ≢ q → S'.copy w r ≡ S.copy w r
  snoop_else (Protocol.own e s) r n = s.copy_same w r
  snoop_else (Protocol.other n at e m) r n' = at.proc_else r n'

  snoop_here : Protocol.Snooped f g p w q S S' → q ≢ p → S'.copy w q ≡ f (S.copy w q)
  snoop_here (Protocol.own e s) n = absurd (n e)
  snoop_here (Protocol.other n at e m) n' = e

  snoop_keeps : Protocol.Snooped f g p w q S S' → Kept p w S S'
  snoop_keeps (Protocol.own e s) = record { copy_kept = s.copy_same w p; active_kept = s.active_same p; status_kept = s.status_same p }
  snoop_keeps (Protocol.other n at e m) =
      record { copy_kept = at.proc_else p (λ i. n (sym i)); active_kept = at.active_same p; status_kept = at.status_same p }

kept_refl : {p w : ℕ} {S : View} → Kept p w S S
kept_refl = record { copy_kept = refl; active_kept = refl; status_kept = refl }

kept_trans : {p w : ℕ} {S S₁ S₂ : View} → Kept p w S S₁ → Kept p w S₁ S₂ → Kept p w S S₂
kept_trans a b =
    record { copy_kept = b.copy_kept ∙ a.copy_kept; active_kept = b.active_kept ∙ a.active_kept; status_kept = b.status_kept ∙ a.status_kept }

-- every processor below n answers
pub record Asked (k : Protocol.Kind) (n p w : ℕ) (S S' : View) : Type 0 where
  pub phase : Phase n p w S S'
  pub near : (q : ℕ) → q < n → q ≢ p → S'.copy w q ≡ Protocol.snoops k (S.copy w q)

pub asked : (k : Protocol.Kind) (p w n : ℕ) {S S' : View} → ((q : ℕ) → q ≢ p → Protocol.opposing k (S.copy w q) ≡ false)
    → Protocol.Each (Protocol.Snooped (Protocol.snoops k) Protocol.supplied p w) n S S' → Asked k n p w S S'
asked k p w n h Protocol.start = record { phase = record { runs = done; keeps = kept_refl; far = λ q l i. refl }; near = λ q l i. absurd (omega arith) }
asked k p w n {S} {S'} h (Protocol.and_then {n = n₁} {S₁ = S₁} c r) = snoc (asked k p w n₁ h c)
  where
    snoc : Asked k n₁ p w S S₁ → Asked k (suc n₁) p w S S'
    snoc a = record {
      phase = record {
        runs = run_then a.phase.runs (run_one (snoop_silent k p w n₁ r (λ i. rw (a.phase.far n₁ (omega arith) i) (h n₁ i))));
        keeps = kept_trans a.phase.keeps (snoop_keeps r);
        far = λ q l i. snoop_else r q (λ j. omega arith) ∙ a.phase.far q (omega arith) i;
      };
      near = λ q l i. elim (ℕ_discrete q n₁) [
        | yes j ↦ rw j (snoop_here r (rw j at i) ∙ ap (Protocol.snoops k) (a.phase.far n₁ (omega arith) (rw j at i)))
        | no j ↦ snoop_else r q j ∙ a.near q (omega arith) i
      ];
    }

-- what a request gives: for T_READ and READ nobody else's copy is exclusive, for the others nobody else has one
abbrev pub Gives : Protocol.Kind → (ℕ → Copy) → ℕ → Type 0
Gives Protocol.reading c p = Low c p
Gives Protocol.owning c p = Alone c p

pub record Served (k : Protocol.Kind) (n p w : ℕ) (S S' : View) : Type 0 where
  pub phase : Phase n p w S S'
  pub gives : Gives k (S'.copy w) p

shared_exclusive : (c : Copy) → exclusive (Protocol.shared_copy c) ≡ false
shared_exclusive none = refl
shared_exclusive (regular s d) = refl
shared_exclusive (normal s d) = refl
shared_exclusive (tentative s d b t) = refl

taken_none : (c : Copy) → Protocol.taken_copy c ≡ none
taken_none none = refl
taken_none (regular s d) = refl
taken_none (normal s d) = refl
taken_none (tentative s d b t) = refl

-- no processor but p, from n on, has the word
abbrev pub Far : ℕ → ℕ → ℕ → View → Type 0
Far n p w S = (q : ℕ) → n ≤ q → q ≢ p → S.copy w q ≡ none

far_after : {S S' : View} {n p w : ℕ} → Far n p w S → Phase n p w S S' → Far n p w S'
far_after f ph q l i = ph.far q l i ∙ f q l i

served : {S S' : View} (k : Protocol.Kind) (n p w : ℕ) → Far n p w S → Asked k n p w S S' → Served k n p w S S'
served {S} {S'} k n p w f a = record { phase = a.phase; gives = go k (λ q l i. a.near q l i) }
  where
    go : (k : Protocol.Kind) → ((q : ℕ) → q < n → q ≢ p → S'.copy w q ≡ Protocol.snoops k (S.copy w q)) → Gives k (S'.copy w) p
    go Protocol.reading h =
        λ q i. elim (dec_lt q n) [ yes l ↦ rw (h q l i) (shared_exclusive (S.copy w q)) | no l ↦ rw (far_after f a.phase q (omega arith) i) ]
    go Protocol.owning h = λ q i. elim (dec_lt q n) [ yes l ↦ h q l i ∙ taken_none (S.copy w q) | no l ↦ far_after f a.phase q (omega arith) i ]

pub by_grant : {S S' : View} (k : Protocol.Kind) (n p w : ℕ) → Far n p w S → Protocol.Granted k n p w S S' → Served k n p w S S'
by_grant k n p w f g = served k n p w f (asked k p w n g.nobody g.asks)

-- rollbacks of others
pub rollback_silent : {S S' : View} (p : ℕ) → Protocol.RolledBack p S S' → Silent S S'
rollback_silent p u = rollback p u.cache u.status

module _ {so : Copy → Bool} {p w q : ℕ} {S S' : View} where
  rollif_silent : Protocol.RollIf so p w q S S' → Silent S S'
  rollif_silent (Protocol.spared h s) = still s
  rollif_silent (Protocol.rolls_back n h u) = rollback_silent q u

  rollif_else : Protocol.RollIf so p w q S S' → (r : ℕ) → r ≢ q → S'.copy w r ≡ S.copy w r
  rollif_else (Protocol.spared h s) r i = s.copy_same w r
  rollif_else (Protocol.rolls_back n h u) r i = u.cache.else w r i

  rollif_here : Protocol.RollIf so p w q S S' → q ≢ p → ((c : Copy) → so (rolled_copy c) ≡ false) → so (S'.copy w q) ≡ false
  rollif_here (Protocol.spared (inl e) s) i z = absurd (i e)
  rollif_here (Protocol.spared (inr e) s) i z = rw (s.copy_same w q) e
  rollif_here (Protocol.rolls_back n h u) i z = rw (u.cache.here w) (z (S.copy w q))

  rollif_keeps : Protocol.RollIf so p w q S S' → Kept p w S S'
  rollif_keeps (Protocol.spared h s) = record { copy_kept = s.copy_same w p; active_kept = s.active_same p; status_kept = s.status_same p }
  rollif_keeps (Protocol.rolls_back n h u) =
      let i : p ≢ q = λ e. n (sym e) in
      record { copy_kept = u.cache.else w p i; active_kept = u.cache.active_else p i; status_kept = u.cache.status_else p i }

pub record Cleared (so : Copy → Bool) (n p w : ℕ) (S S' : View) : Type 0 where
  pub phase : Phase n p w S S'
  pub near : (q : ℕ) → q < n → q ≢ p → so (S'.copy w q) ≡ false

pub cleared : (so : Copy → Bool) → ((c : Copy) → so (rolled_copy c) ≡ false) → (p w n : ℕ) {S S' : View}
    → Protocol.Each (Protocol.RollIf so p w) n S S' → Cleared so n p w S S'
cleared so z p w n Protocol.start = record { phase = record { runs = done; keeps = kept_refl; far = λ q l i. refl }; near = λ q l i. absurd (omega arith) }
cleared so z p w n {S} {S'} (Protocol.and_then {n = n₁} {S₁ = S₁} c r) = snoc (cleared so z p w n₁ c)
  where
    snoc : Cleared so n₁ p w S S₁ → Cleared so (suc n₁) p w S S'
    snoc a = record {
      phase = record {
        runs = run_then a.phase.runs (run_one (rollif_silent r));
        keeps = kept_trans a.phase.keeps (rollif_keeps r);
        far = λ q l i. rollif_else r q (λ j. omega arith) ∙ a.phase.far q (omega arith) i;
      };
      near = λ q l i. elim (ℕ_discrete q n₁) [
        | yes j ↦ rw j (rollif_here r (rw j at i) z)
        | no j ↦ rw (rollif_else r q j) (a.near q (omega arith) i)
      ];
    }

pub opposing_roll : (k : Protocol.Kind) (c : Copy) → Protocol.opposing k (rolled_copy c) ≡ false
opposing_roll Protocol.reading none = refl
opposing_roll Protocol.reading (regular s d) = refl
opposing_roll Protocol.reading (normal s d) = refl
opposing_roll Protocol.reading (tentative s d bare t) = refl
opposing_roll Protocol.reading (tentative s d (backup r e) t) = refl
opposing_roll Protocol.owning c = rolled_back_tentative c

pub opposing_none : (k : Protocol.Kind) → Protocol.opposing k none ≡ false
opposing_none Protocol.reading = refl
opposing_none Protocol.owning = refl

phase_trans : {n p w : ℕ} {S S₁ S₂ : View} → Phase n p w S S₁ → Phase n p w S₁ S₂ → Phase n p w S S₂
phase_trans a b = record { runs = run_then a.runs b.runs; keeps = kept_trans a.keeps b.keeps; far = λ q l i. b.far q l i ∙ a.far q l i }

pub by_plain : {S S' : View} (k : Protocol.Kind) (n p w : ℕ) → Far n p w S → Protocol.Plainly k n p w S S' → Served k n p w S S'
by_plain k n p w f g =
    let a = cleared (Protocol.opposing k) (opposing_roll k) p w n g.rolls in
    let f' = far_after f a.phase in
    let b = served k n p w f'
    (asked k p w n (λ q i. elim (dec_lt q n) [ yes l ↦ a.near q l i | no l ↦ rw (f' q (omega arith) i) (opposing_none k) ]) g.asks) in
    record { phase = phase_trans a.phase b.phase; gives = b.gives }
