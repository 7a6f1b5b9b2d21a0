-- The bus requests: every other processor is asked in turn. READ, RFO and WRITE roll back first; T_READ and T_RFO may be refused.
use mathlib.Core.Path.{◌≡◌, refl, sym, ◌∙◌, ap, subst⁻¹}
use mathlib.Core.Logic.{◌≢◌, ◌⊎◌, inl, inr}
use mathlib.Core.Bool.{Bool, true, false, true≢false, false≢true}
use Prim.Native.Nat.{ℕ, ◌≤◌, ◌<◌}
use native.Mathlib.Decide.{ℕ_discrete, dec_lt}
use native.Mathlib.Omega.{arith}
use lib.Dec.{eqb, ltb}
use borrow.Author.Tests.{eqb-true, eqb-false, eq-eqb, ltb-true, ltb-false, le-ltb}
use Rattle.laws.specs.Choice.{pick, both, either, both_true, either_left, either_right}
use Rattle.laws.specs.Search.{first_from, first_has, first_not}
use Rattle.entry.specs.declared.Entry.{Entry}
use Rattle.entry.specs.Numbers.{INVALID, NORMAL, TENTATIVE, READ, RFO, WRITE, T_READ, T_RFO}
use Rattle.entry.specs.Packing.{unpack_range}
use Rattle.entry.specs.Entry.{snooped}
use Rattle.rules.specs.declared.Dims.{Dims}
use Rattle.rules.specs.declared.Caches.{Caches}
use Rattle.rules.specs.State.{line_at, entry_at}
use Rattle.rules.specs.Own.{home, holds, has_live, live_entry}
use Rattle.rules.specs.Snoop.{written_back, snoop_line, snoop_entry, snoop_one, snoop, refuses, roll_others, plain_request}
use Rattle.theory.specs.View.{Copy, none, regular, normal, tentative}
use Rattle.theory.proofs.Cache.{vacant, blank, main_on, is_self}
use Rattle.theory.proofs.Looks.{normal_seen, tentative_seen, look_empty}
use Rattle.theory.specs.Protocol.{Each, Snooped, own, other, Kind, reading, owning, snoops, supplied, Plainly, Granted}
use Rattle.theory.specs.Protocol
use Rattle.theory.proofs.Refine.{same_refl}
use Rattle.theory.proofs.Serve.{cleared, opposing_roll, opposing_none}
use Rattle.serial.proofs.Decode.{slot_of, line_of, decoded, seen, read_out}
use Rattle.serial.proofs.Set.{Fit, entry_on, line_on}
use Rattle.serial.proofs.Codes.{pick_no, slot_normal_lem, slot_tentative_lem, tagged_fits}
use Rattle.serial.proofs.Find.{entry_fits, slot_at, no_regular, slot_normal_at, slot_tentative_at}
use Rattle.serial.proofs.Others.{Cycle, Own, own_refl, own_trans, each, granted_unopposed, roll_others_lem}
use Rattle.serial.proofs.Snoop.{left, snooped_is, Asks, opposing_left, Asked, nothing_asked}
use Rattle.serial.proofs.Snoop.{line_held, main, line_asked, normal_asked, tentative_asked}

-- the search for a NORMAL or tentative entry
module _ (s : Caches) (q n w : ℕ) where
  pub live_found : live_entry s.entries q n w < n
      → (((entry_at s q (live_entry s.entries q n w)).tag ≡ NORMAL) ⊎ ((entry_at s q (live_entry s.entries q n w)).tag ≡ TENTATIVE))
      × ((entry_at s q (live_entry s.entries q n w)).word ≡ w)
  unfolding live_entry
  live_found l = by (eqb (entry_at s q i).tag NORMAL) (eqb (entry_at s q i).tag TENTATIVE) (eqb (entry_at s q i).word w) refl refl refl h
    where
      i : ℕ
      i = first_from (has_live s.entries q w) 0 n

      h : has_live s.entries q w i ≡ true
      h = first_has (has_live s.entries q w) 0 n (omega arith)

      by : (x y z : Bool) → eqb (entry_at s q i).tag NORMAL ≡ x → eqb (entry_at s q i).tag TENTATIVE ≡ y → eqb (entry_at s q i).word w ≡ z
          → both (either x y) z ≡ true → (((entry_at s q i).tag ≡ NORMAL) ⊎ ((entry_at s q i).tag ≡ TENTATIVE)) × ((entry_at s q i).word ≡ w)
      by true y z hx hy hz t = (inl (eqb-true (entry_at s q i).tag NORMAL hx), eqb-true (entry_at s q i).word w (hz ∙ t))
      by false true z hx hy hz t = (inr (eqb-true (entry_at s q i).tag TENTATIVE hy), eqb-true (entry_at s q i).word w (hz ∙ t))
      by false false z hx hy hz t = absurd (false≢true t)

  pub live_none : n ≤ live_entry s.entries q n w → (i : ℕ) → i < n → ((entry_at s q i).tag ≡ NORMAL) ⊎ ((entry_at s q i).tag ≡ TENTATIVE)
      → (entry_at s q i).word ≡ w → ⊥
  unfolding live_entry
  live_none l i li t hw = true≢false (sym (on t) ∙ first_not (has_live s.entries q w) 0 n i (omega arith) (omega arith))
    where
      x : Bool
      x = eqb (entry_at s q i).tag NORMAL

      y : Bool
      y = eqb (entry_at s q i).tag TENTATIVE

      on : ((entry_at s q i).tag ≡ NORMAL) ⊎ ((entry_at s q i).tag ≡ TENTATIVE) → has_live s.entries q w i ≡ true
      on (inl z) = both_true (either x y) (eqb (entry_at s q i).word w) (either_left x y (eq-eqb (entry_at s q i).tag NORMAL z))
          (eq-eqb (entry_at s q i).word w hw)
      on (inr z) = both_true (either x y) (eqb (entry_at s q i).word w) (either_right x y (eq-eqb (entry_at s q i).tag TENTATIVE z))
          (eq-eqb (entry_at s q i).word w hw)

module _ {d : Dims} {s : Caches} (F : Fit d s) (q : ℕ) (lq : q < d.processors) (w : ℕ) (k : Kind) (c : ℕ) (C : Cycle k c)
    (grants : Protocol.opposing k ((seen d s).copy w q) ≡ false) where
  -- no slot of q is w's own: no entry is asked
  no_live : ((i : ℕ) → i < d.entries → main_on w ((decoded d s).slot q i) ≡ false) → d.entries ≤ live_entry s.entries q d.entries w
  no_live g = elim (dec_lt i d.entries) [ yes l ↦ absurd (clash l (live_found s q d.entries w l)) | no l ↦ omega arith ]
    where
      i : ℕ
      i = live_entry s.entries q d.entries w

      clash : i < d.entries → (((entry_at s q i).tag ≡ NORMAL) ⊎ ((entry_at s q i).tag ≡ TENTATIVE)) × ((entry_at s q i).word ≡ w) → ⊥
      clash l (inl t, e) = true≢false (sym (ap (main_on w) (slot_normal_at F q lq w i l (entry_at s q i) refl e t) ∙ is_self w) ∙ g i l)
      clash l (inr t, e) = true≢false (sym (ap (main_on w) (slot_tentative_at F q lq w i l (entry_at s q i) refl e t) ∙ is_self w) ∙ g i l)

  entry_skipped : (x : Caches) → d.entries ≤ live_entry x.entries q d.entries w → snoop_entry d w c q x ≡ x
  unfolding snoop_entry
  entry_skipped x l =
      pick_no (ltb (live_entry x.entries q d.entries w) d.entries) _ x (le-ltb (live_entry x.entries q d.entries w) d.entries l)

  -- q's entry, q having no regular copy
  entry_turn_lem : holds (line_at s q (home d w)) w ≡ false → Asked d k w q s (snoop_entry d w c q s)
  unfolding snoop_entry
  entry_turn_lem o = by (ltb i d.entries) refl
    where
      i : ℕ
      i = live_entry s.entries q d.entries w

      e : Entry
      e = entry_at s q i

      asked : (l : i < d.entries) → ((e.tag ≡ NORMAL) ⊎ (e.tag ≡ TENTATIVE)) × (e.word ≡ w)
          → Asked d k w q s (entry_on s (written_back s.memory e) q i (left k e))
      asked l (inl t, ew) = normal_asked F q lq w k grants i l e refl (unpack_range _) ew t
      asked l (inr t, ew) = tentative_asked F q lq w k grants i l e refl (unpack_range _) ew t

      held : (l : i < d.entries) → ((e.tag ≡ NORMAL) ⊎ (e.tag ≡ TENTATIVE)) × (e.word ≡ w) → e.state ≢ INVALID
      held l (inl t, ew) = (tagged_fits (entry_fits F q lq i l) (λ z. omega arith)).held
      held l (inr t, ew) = (tagged_fits (entry_fits F q lq i l) (λ z. omega arith)).held

      gone : d.entries ≤ i → (seen d s).copy w q ≡ none
      gone l = go ((seen d s).copy w q) refl (no_regular F q lq w (line_at s q (home d w)) refl o)
        where
          go : (x : Copy) → (seen d s).copy w q ≡ x → Protocol.is_regular x ≡ false → x ≡ none
          go none z n = refl
          go (regular a b) z n = absurd (true≢false n)
          go (normal a b) z n =
              let r = normal_seen d.entries (home d) ((decoded d s).slot q) ((decoded d s).line q) w z in
              let y = slot_normal_lem (entry_at s q r.0) (sym (slot_at F q lq r.0 r.1) ∙ r.2) in
              absurd (live_none s q d.entries w l r.0 r.1 (inl y.tagged) y.word)
          go (tentative a b x y) z n =
              let r = tentative_seen d.entries (home d) ((decoded d s).slot q) ((decoded d s).line q) w z in
              let y = (slot_tentative_lem (entry_at s q r.0) (sym (slot_at F q lq r.0 r.1) ∙ r.2)).0 in
              absurd (live_none s q d.entries w l r.0 r.1 (inr y.tagged) y.word)

      by : (b : Bool) → ltb i d.entries ≡ b → Asked d k w q s (pick b (entry_on s (written_back s.memory e) q i (snooped c e)) s)
      by true h =
          let l = ltb-true i d.entries h in
          let f = live_found s q d.entries w l in
          subst⁻¹ (λ (x : Entry). Asked d k w q s (entry_on s (written_back s.memory e) q i x)) (snooped_is k c C e (omega arith) (held l f))
          (asked l f)
      by false h = nothing_asked F q lq w k grants (gone (ltb-false i d.entries h))

  pub turn_asked : Asked d k w q s (snoop_entry d w c q (snoop_line (home d w) w c q s))
  unfolding snoop_line
  turn_asked = by (holds (line_at s q (home d w)) w) refl
    where
      e : Entry
      e = line_at s q (home d w)

      by : (b : Bool) → holds (line_at s q (home d w)) w ≡ b
          → Asked d k w q s (snoop_entry d w c q (pick b (line_on s (written_back s.memory e) q (home d w) (snooped c e)) s))
      by true o =
          let x : Caches = line_on s (written_back s.memory e) q (home d w) (snooped c e) in
          subst⁻¹ (Asked d k w q s)
          (entry_skipped x (no_live (main F q lq w k grants e refl (unpack_range _) o)) ∙
          ap (λ (y : Entry). line_on s (written_back s.memory e) q (home d w) y)
          (snooped_is k c C e (omega arith) (line_held F q lq w k grants e refl (unpack_range _) o)))
          (line_asked F q lq w k grants e refl (unpack_range _) o)
      by false o = entry_turn_lem o

-- one turn, and the loop
module _ (d : Dims) (k : Kind) (c : ℕ) (C : Cycle k c) (p w : ℕ) (lp : p < d.processors) (s₀ : Caches) where
  turned : (q : ℕ) (s s' : Caches) → q < d.processors → q ≢ p → Asks d k p w s₀ s → Asked d k w q s s'
      → Asks d k p w s₀ s' × Snooped (snoops k) supplied p w q (seen d s) (seen d s')
  turned q s s' lq n A a = (
    record {
      fit = a.fit;
      spared = λ r j. elim (ℕ_discrete r q) [
        | yes e ↦ rw (e, a.copy) (opposing_left k ((seen d s).copy w q))
        | no x ↦ rw (a.at.proc_else r x) (A.spared r j)
      ];
      kept = own_trans A.kept (a.kept p (omega (arith, A.fit.frame.size.processors)) (λ z. n (sym z)));
    },
    other n a.at a.copy a.memory,
  )

  snoop_one_lem : (q : ℕ) (s : Caches) → q < d.processors → Asks d k p w s₀ s
      → Asks d k p w s₀ (snoop_one d (home d w) p w c q s)
      × Snooped (snoops k) supplied p w q (seen d s) (seen d (snoop_one d (home d w) p w c q s))
  unfolding snoop_one
  snoop_one_lem q s lq A = go (eqb q p) refl
    where
      go : (b : Bool) → eqb q p ≡ b
          → Asks d k p w s₀ (pick b s (snoop_entry d w c q (snoop_line (home d w) w c q s)))
          × Snooped (snoops k) supplied p w q (seen d s) (seen d (pick b s (snoop_entry d w c q (snoop_line (home d w) w c q s))))
      go true e = (A, own (eqb-true q p e) same_refl)
      go false e =
          turned q s (snoop_entry d w c q (snoop_line (home d w) w c q s)) lq (eqb-false q p e) A
          (turn_asked A.fit q lq w k c C (A.spared q (eqb-false q p e)))

  pub snoop_asks : (s : Caches) → Asks d k p w s₀ s
      → Asks d k p w s₀ (snoop d p w c s) × Each (Snooped (snoops k) supplied p w) d.processors (seen d s) (seen d (snoop d p w c s))
  unfolding snoop
  snoop_asks s A =
      each (seen d) (Asks d k p w s₀) (Snooped (snoops k) supplied p w) (snoop_one d (home d w) p w c) d.processors snoop_one_lem d.processors
      (omega arith) s A

-- past the processors nobody has a copy
pub beyond_none : (d : Dims) (s : Caches) (w q : ℕ) → d.processors ≤ q → (seen d s).copy w q ≡ none
beyond_none d s w q l =
    look_empty d.entries (home d) ((decoded d s).slot q) ((decoded d s).line q)
    (λ i. read_out slot_of vacant d.processors d.entries s.entries q i l)
    (λ i. read_out line_of blank d.processors d.lines s.lines q i l) w

-- what a request leaves: the state is fit, and p's own copies stay
pub record Served (d : Dims) (p : ℕ) (s s' : Caches) : Type 0 where
  pub fit : Fit d s'
  pub own : Own p s s'

module _ {d : Dims} {s : Caches} (F : Fit d s) (k : Kind) (c : ℕ) (C : Cycle k c) (p w : ℕ) (lp : p < d.processors) where
  spare : ((q : ℕ) → q < d.processors → q ≢ p → Protocol.opposing k ((seen d s).copy w q) ≡ false)
      → (q : ℕ) → q ≢ p → Protocol.opposing k ((seen d s).copy w q) ≡ false
  spare g q n = elim (dec_lt q d.processors) [ yes l ↦ g q l n | no l ↦ rw (beyond_none d s w q (omega arith)) (opposing_none k) ]

  -- T_READ and T_RFO, not refused
  pub granted_served : refuses d p w c s.entries ≡ false → Served d p s (snoop d p w c s)
      × Granted k d.processors p w (seen d s) (seen d (snoop d p w c s))
  granted_served h =
      let free = spare (granted_unopposed F p w k c C h) in
      let a = snoop_asks d k c C p w lp s s (record { fit = F; spared = free; kept = own_refl }) in
      (record { fit = a.0.fit; own = a.0.kept }, record { nobody = free; asks = a.1 })

-- READ, RFO and WRITE
pub plain_request_served : {d : Dims} {s : Caches} → Fit d s → (k : Kind) (c : ℕ) → Cycle k c → (p w : ℕ) → p < d.processors
    → Served d p s (plain_request d p w c s) × Plainly k d.processors p w (seen d s) (seen d (plain_request d p w c s))
unfolding plain_request
plain_request_served {d} {s} F k c C p w lp =
    let r = roll_others_lem d k c C p w lp s F in
    let near = cleared (Protocol.opposing k) (opposing_roll k) p w d.processors r.1 in
    let free = spare r.0.fit k c C p w lp (λ q l n. near.near q l n) in
    let a = snoop_asks d k c C p w lp s (roll_others d p w c s) (record { fit = r.0.fit; spared = free; kept = r.0.own }) in
    (record { fit = a.0.fit; own = a.0.kept }, record { mid = seen d (roll_others d p w c s); rolls = r.1; asks = a.1 })

-- the five cycles
pub is-READ : Cycle reading READ
is-READ = record { share = refl; take = refl }

pub is-RFO : Cycle owning RFO
is-RFO = record { share = refl; take = refl }

pub is-WRITE : Cycle owning WRITE
is-WRITE = record { share = refl; take = refl }

pub is-T-READ : Cycle reading T_READ
is-T-READ = record { share = refl; take = refl }

pub is-T-RFO : Cycle owning T_RFO
is-T-RFO = record { share = refl; take = refl }
