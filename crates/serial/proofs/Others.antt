-- Refusing the bus, and rolling other processors back, are the theory's.
use mathlib.Core.Path.{◌≡◌, refl, sym, ◌∙◌, ap}
use mathlib.Core.Logic.{◌≢◌, inl, inr}
use mathlib.Core.Bool.{Bool, true, false, not, true≢false}
use Prim.Native.Nat.{ℕ, zero, suc, ◌+◌, ◌≤◌, ◌<◌}
use native.Mathlib.Omega.{arith}
use lib.Dec.{eqb, ltb, leb}
use borrow.Author.Tests.{eqb-true, eqb-false, ne_eqb, ltb-true, ltb-false, not-true}
use Rattle.laws.specs.Choice.{pick, both, either, both_left, both_right}
use Rattle.laws.specs.Fold.{fold_range}
use Rattle.laws.specs.Search.{first_from, first_has, first_not}
use Rattle.entry.specs.Numbers.{RESERVED, BACKUP, TENTATIVE}
use Rattle.entry.specs.Entry.{rolled_back, shares, takes}
use Rattle.rules.specs.declared.Dims.{Dims}
use Rattle.rules.specs.declared.Caches.{Caches}
use Rattle.rules.specs.State.{entry_at, line_at}
use Rattle.rules.specs.Own.{find_entry}
use Rattle.rules.specs.Rollback.{rolled_entries, rollback}
use Rattle.rules.specs.Snoop.{opposes, other_opposes, first_opposing, refuses, roll_one, roll_others}
use Rattle.theory.specs.View.{Copy, none, regular, normal, tentative, is_tentative, View}
use Rattle.theory.specs.Protocol.{Each, start, and_then, RollIf, spared, rolls_back, Kind, reading, owning, tentative_above, Busy, busy}
use Rattle.theory.specs.Protocol
use Rattle.theory.proofs.Refine.{same_refl}
use Rattle.serial.proofs.Decode.{seen}
use Rattle.serial.proofs.Set.{Fit}
use Rattle.serial.proofs.Over.{over_else, range_ends}
use Rattle.serial.proofs.Ends.{rollback_fit, rollback_is}
use Rattle.serial.proofs.Codes.{above_code, tagged_fits}
use Rattle.serial.proofs.Find.{found_tag, found_word, entry_fits, has_tentative, no_tentative}

-- READ and T_READ share a word, the other cycles take it
abbrev pub sharing : Kind → Bool
sharing reading = true
sharing owning = false

abbrev pub taking : Kind → Bool
taking reading = false
taking owning = true

pub record Cycle (k : Kind) (c : ℕ) : Type 0 where
  pub share : shares c ≡ sharing k
  pub take : takes c ≡ taking k

-- p's own copies stay
pub record Own (p : ℕ) (s s' : Caches) : Type 0 where
  pub entries : (i : ℕ) → i < 64 → entry_at s' p i ≡ entry_at s p i
  pub lines : (i : ℕ) → i < 64 → line_at s' p i ≡ line_at s p i

pub own_refl : {p : ℕ} {s : Caches} → Own p s s
own_refl = record { entries = λ i l. refl; lines = λ i l. refl }

pub own_trans : {p : ℕ} {s s₁ s₂ : Caches} → Own p s s₁ → Own p s₁ s₂ → Own p s s₂
own_trans a b = record { entries = λ i l. b.entries i l ∙ a.entries i l; lines = λ i l. b.lines i l ∙ a.lines i l }

fold_snoc : {A : Type 0} (g : ℕ → A → A) (i n : ℕ) (x : A) → fold_range g i (suc n) x ≡ g (i + n) (fold_range g i n x)
unfolding fold_range
fold_snoc g i zero x = let e : i + 0 ≡ i = omega arith in rw e
fold_snoc g i (suc n) x = let e : i + suc n ≡ suc i + n = omega arith in rw e (fold_snoc g (suc i) n (g i x))

-- a loop over the processors, each turn of which is R on the view and keeps P
pub each : {A : Type 0} (v : A → View) (P : A → Type 0) (R : ℕ → View → View → Type 0) (g : ℕ → A → A) (m : ℕ)
    → ((q : ℕ) (x : A) → q < m → P x → P (g q x) × R q (v x) (v (g q x)))
    → (n : ℕ) → n ≤ m → (x : A) → P x → P (fold_range g 0 n x) × Each R n (v x) (v (fold_range g 0 n x))
unfolding fold_range
each v P R g m h zero l x px = (px, start)
each v P R g m h (suc n) l x px = go (each v P R g m h n (omega arith) x px)
  where
    go : P (fold_range g 0 n x) × Each R n (v x) (v (fold_range g 0 n x))
        → P (fold_range g 0 (suc n) x) × Each R (suc n) (v x) (v (fold_range g 0 (suc n) x))
    go a =
        let b = h n (fold_range g 0 n x) (omega arith) a.0 in
        let z : 0 + n ≡ n = omega arith in
        rw (fold_snoc g 0 n x, z) (b.0, and_then a.1 b.1)

not_above : (c : Copy) → is_tentative c ≡ false → tentative_above c ≡ false
not_above none h = refl
not_above (regular s d) h = refl
not_above (normal s d) h = refl
not_above (tentative s d b t) h = absurd (true≢false h)

-- whether q's copy stands against a cycle
pub opposes_is : {d : Dims} {s : Caches} → Fit d s → (q : ℕ) → q < d.processors → (w : ℕ) (k : Kind) (c : ℕ) → Cycle k c
    → opposes d w c q s.entries ≡ Protocol.opposing k ((seen d s).copy w q)
unfolding opposes
opposes_is {d} {s} F q lq w k c C = go (ltb i d.entries) refl
  where
    i : ℕ
    i = find_entry s.entries q d.entries TENTATIVE w

    none_by : (k : Kind) → is_tentative ((seen d s).copy w q) ≡ false → false ≡ Protocol.opposing k ((seen d s).copy w q)
    none_by reading h = sym (not_above ((seen d s).copy w q) h)
    none_by owning h = sym h

    some_by : (k : Kind) → Cycle k c → i < d.entries
        → either (takes c) (leb RESERVED (entry_at s q i).state) ≡ Protocol.opposing k ((seen d s).copy w q)
    some_by reading C l =
        let t = found_tag s q d.entries TENTATIVE w l in
        let f = tagged_fits (entry_fits F q lq i l) (λ z. omega arith) in
        let h = has_tentative F q lq w i l (entry_at s q i) refl (found_word s q d.entries TENTATIVE w l) t in
        ap (λ (b : Bool). either b (leb RESERVED (entry_at s q i).state)) C.take ∙
        (sym (above_code (entry_at s q i).state (omega arith) f.held) ∙ ap tentative_above (sym h))
    some_by owning C l =
        let h = has_tentative F q lq w i l (entry_at s q i) refl (found_word s q d.entries TENTATIVE w l)
        (found_tag s q d.entries TENTATIVE w l) in
        ap (λ (b : Bool). either b (leb RESERVED (entry_at s q i).state)) C.take ∙ ap is_tentative (sym h)

    go : (b : Bool) → ltb i d.entries ≡ b
        → pick b (either (takes c) (leb RESERVED (entry_at s q i).state)) false ≡ Protocol.opposing k ((seen d s).copy w q)
    go true e = some_by k C (ltb-true i d.entries e)
    go false e = none_by k (no_tentative F q lq w (ltb-false i d.entries e))

-- T_READ and T_RFO: who refuses
module _ {d : Dims} {s : Caches} (F : Fit d s) (p w : ℕ) (k : Kind) (c : ℕ) (C : Cycle k c) where
  pub refused_busy : refuses d p w c s.entries ≡ true → Busy k p w (seen d s)
  unfolding refuses first_opposing
  refused_busy h =
      let l = ltb-true q d.processors h in
      let e = first_has (other_opposes d p w c s.entries) 0 d.processors (omega arith) in
      busy q (eqb-false q p (not-true (eqb q p) (both_left (not (eqb q p)) (opposes d w c q s.entries) e)))
      (sym (opposes_is F q l w k c C) ∙ both_right (not (eqb q p)) (opposes d w c q s.entries) e)
    where
      q : ℕ
      q = first_from (other_opposes d p w c s.entries) 0 d.processors

  pub granted_unopposed : refuses d p w c s.entries ≡ false → (q : ℕ) → q < d.processors → q ≢ p
      → Protocol.opposing k ((seen d s).copy w q) ≡ false
  unfolding refuses first_opposing
  granted_unopposed h q l n =
      sym (opposes_is F q l w k c C) ∙
      rest (eqb q p) (opposes d w c q s.entries) (ne_eqb q p n)
      (first_not (other_opposes d p w c s.entries) 0 d.processors q (omega arith)
      (omega (arith, ltb-false (first_from (other_opposes d p w c s.entries) 0 d.processors) d.processors h)))
    where
      rest : (x y : Bool) → x ≡ false → both (not x) y ≡ false → y ≡ false
      rest true y e h = absurd (true≢false e)
      rest false y e h = h

-- READ, RFO and WRITE roll back first
pub record Rolling (d : Dims) (p : ℕ) (s₀ s : Caches) : Type 0 where
  pub fit : Fit d s
  pub own : Own p s₀ s

module _ (d : Dims) (k : Kind) (c : ℕ) (C : Cycle k c) (p w : ℕ) (lp : p < d.processors) (s₀ : Caches) where
  own_rolled : (q : ℕ) (s : Caches) → q < d.processors → q ≢ p → Fit d s → Own p s (rollback d q s)
  unfolding rolled_entries
  own_rolled q s lq n F = record {
    entries = λ i l.
        over_else rolled_back (range_ends TENTATIVE BACKUP) q d.entries (omega (arith, F.frame.size.processors)) F.frame.size.entries
        s.entries
        F.frame.entries.long p i (omega (arith, F.frame.size.processors)) l (inl (λ z. n (sym z)));
    lines = λ i l. refl;
  }

  roll_one_lem : (q : ℕ) (s : Caches) → q < d.processors → Rolling d p s₀ s
      → Rolling d p s₀ (roll_one d p w c q s) × RollIf (Protocol.opposing k) p w q (seen d s) (seen d (roll_one d p w c q s))
  unfolding roll_one
  roll_one_lem q s l R = go (eqb q p) (opposes d w c q s.entries) refl refl
    where
      go : (x y : Bool) → eqb q p ≡ x → opposes d w c q s.entries ≡ y
          → Rolling d p s₀ (pick (both (not x) y) (rollback d q s) s)
          × RollIf (Protocol.opposing k) p w q (seen d s) (seen d (pick (both (not x) y) (rollback d q s) s))
      go true y e f = (R, spared (inl (eqb-true q p e)) same_refl)
      go false true e f = (
        record { fit = rollback_fit R.fit q l; own = own_trans R.own (own_rolled q s l (eqb-false q p e) R.fit) },
        rolls_back (eqb-false q p e) (sym (opposes_is R.fit q l w k c C) ∙ f) (rollback_is R.fit q l),
      )
      go false false e f = (R, spared (inr (sym (opposes_is R.fit q l w k c C) ∙ f)) same_refl)

  pub roll_others_lem : Fit d s₀ → Rolling d p s₀ (roll_others d p w c s₀)
      × Each (RollIf (Protocol.opposing k) p w) d.processors (seen d s₀) (seen d (roll_others d p w c s₀))
  unfolding roll_others
  roll_others_lem F =
      each (seen d) (Rolling d p s₀) (RollIf (Protocol.opposing k) p w) (roll_one d p w c) d.processors roll_one_lem d.processors (omega arith) s₀
      (record { fit = F; own = own_refl })
