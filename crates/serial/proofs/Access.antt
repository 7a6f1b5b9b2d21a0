-- LT, LTX and ST with a tentative entry: an upgrade where it is asked, then the answer or the store.
use mathlib.Core.Path.{◌≡◌, refl, ◌∙◌, ap, subst, subst⁻¹, fun_ext}
use mathlib.Core.Logic.{◌≢◌, inr}
use mathlib.Core.Bool.{Bool, true, false}
use Prim.Native.Nat.{ℕ, ◌+◌, ◌<◌}
use native.Mathlib.Omega.{arith}
use lib.Dec.{eqb}
use borrow.Author.Tests.{eqb-true, eqb-false, le-leb}
use Rattle.laws.specs.Choice.{pick}
use Rattle.entry.specs.declared.Entry.{Entry}
use Rattle.entry.specs.declared.answer.Answer.TheVariants.{Done, Aborted}
use Rattle.entry.specs.declared.answer.Counts.{Counts}
use Rattle.entry.specs.Numbers.{INVALID, VALID, RESERVED, DIRTY, TENTATIVE, LT, LTX, ST, T_RFO}
use Rattle.entry.specs.Packing.{entry, InRange}
use Rattle.entry.specs.Entry.{stored, with_state}
use Rattle.entry.specs.Answer.{asked, quiet}
use Rattle.rules.specs.declared.Dims.{Dims}
use Rattle.rules.specs.declared.Caches.{Caches}
use Rattle.rules.specs.State.{gives, entry_at, with_entry}
use Rattle.rules.specs.Own.{home}
use Rattle.rules.specs.Rollback.{rollback}
use Rattle.rules.specs.Snoop.{snoop, refuses}
use Rattle.rules.specs.Transact.{finish, busy, hit}
use Rattle.theory.specs.View.{valid, reserved, Back, tentative, View}
use Rattle.theory.specs.Change.{OnlyWord}
use Rattle.theory.proofs.Cache.{Slot, is_self, back_of, back_is, Line}
use Rattle.theory.proofs.Updates.{AllTidy, turned}
use Rattle.theory.specs.Protocol.{Kind, reading, owning, gets, puts, fails, Opened, Obtained, has_it, raises, Denied, no_raise, enough}
use Rattle.theory.proofs.Refine.{same_refl}
use Rattle.serial.specs.Shown.{by_access}
use Rattle.serial.specs.Taking.{value_end}
use Rattle.serial.proofs.Decode.{state_of, decoded, seen, copy_here}
use Rattle.serial.proofs.Frame.{EntryFits, Fits}
use Rattle.serial.proofs.Set.{Fit, memory_same, set_slot, entry_fit}
use Rattle.serial.proofs.Ends.{Does, rollback_fit, rollback_is}
use Rattle.serial.proofs.Codes.{above_code, tagged_fits}
use Rattle.serial.proofs.Find.{entry_fits, backing, slot_tentative_at, has_tentative}
use Rattle.serial.proofs.Others.{refused_busy}
use Rattle.serial.proofs.Requests.{granted_served, is-T-RFO}
use Rattle.serial.proofs.Lined.{own_slot, own_line}

pub data Access : Type 0 where
  lt ltx st : Access

abbrev pub number : Access → ℕ
number lt = LT
number ltx = LTX
number st = ST

abbrev pub kind : Access → Kind
kind lt = reading
kind ltx = owning
kind st = owning

-- p's tentative entry of w, at i
module _ {d : Dims} {s : Caches} (F : Fit d s) (p : ℕ) (lp : p < d.processors) (w : ℕ) (i : ℕ) (li : i < d.entries)
    (ht : (entry_at s p i).tag ≡ TENTATIVE) (hw : (entry_at s p i).word ≡ w) where
  pub held : (entry_at s p i).state ≢ INVALID
  held = (tagged_fits (entry_fits F p lp i li) (λ z. omega arith)).held

  pub copy_is : (seen d s).copy w p ≡ tentative (state_of (entry_at s p i).state) (entry_at s p i).«data» (backing F p lp w)
      (eqb (entry_at s p i).state DIRTY)
  copy_is = has_tentative F p lp w i li (entry_at s p i) refl hw ht

  -- it becomes another tentative entry of the same word
  module _ (x v : ℕ) (lx : x < 4) (nx : x ≢ INVALID) (lv : v < value_end) where
    word_in : w < d.words
    word_in = subst (λ (u : ℕ). u < d.words) hw (tagged_fits (entry_fits F p lp i li) (λ z. omega arith)).word

    to_range : InRange (entry x TENTATIVE w v)
    to_range = let l = word_in in record { state = lx; tag = omega arith; word = omega (arith, F.frame.size.words); «data» = lv }

    to_fits : Fits (EntryFits d) p i (entry x TENTATIVE w v)
    to_fits = inr (record { processor = lp; slot = li; held = nx; tag = λ z. omega arith; word = word_in })

    pub turn : AllTidy d.entries (home d) (decoded d (with_entry s p i (entry x TENTATIVE w v)))
        × OnlyWord p w (seen d s) (seen d (with_entry s p i (entry x TENTATIVE w v)))
        × ((seen d (with_entry s p i (entry x TENTATIVE w v))).copy w p ≡ tentative (state_of x) v (backing F p lp w) (eqb x DIRTY))
    turn =
        let g = turned d.entries (home d) F.tidy li (set_slot F.frame (memory_same F.frame w) p i lp (entry x TENTATIVE w v) to_range li)
        (slot_tentative_at F p lp w i li (entry_at s p i) refl hw ht) refl refl (is_self w) (is_self w) (λ z. is_self w) (backing F p lp w)
        (back_is d.entries (home d) ((decoded d s).slot p) ((decoded d s).line p) w) in
        (g.0, g.1, g.3)

    pub turn_fit : Fit d (with_entry s p i (entry x TENTATIVE w v))
    turn_fit = entry_fit F.frame (memory_same F.frame w) p i lp (entry x TENTATIVE w v) to_range li to_fits turn.0

    pub turn_here : entry_at (with_entry s p i (entry x TENTATIVE w v)) p i ≡ entry x TENTATIVE w v
    turn_here =
        copy_here s.entries F.frame.entries.long p i (omega (arith, F.frame.size.processors)) (omega (arith, F.frame.size.entries))
        (entry x TENTATIVE w v) to_range

module _ {d : Dims} (a : Access) (p : ℕ) (lp : p < d.processors) (w v : ℕ) (lv : v < value_end) {S S₁ : View} (O : Opened p w S S₁) where
  -- p is rolled back
  pub aborted_does : {s : Caches} → Fit d s → (c : Counts) → Denied (kind a) p w S₁ (seen d (rollback d p s))
      → Does d S (by_access p w v) (gives Aborted c (rollback d p s))
  aborted_does F c D = record { fit = rollback_fit F p lp; step = fails (kind a) O D }

  -- p holds w tentatively, at i: the answer, or the store
  pub finish_does : {s : Caches} (F : Fit d s) (i : ℕ) (li : i < d.entries) → (entry_at s p i).tag ≡ TENTATIVE → (entry_at s p i).word ≡ w
      → (c : Counts) → Obtained (kind a) d.processors p w S₁ (seen d s) → Does d S (by_access p w v) (finish (number a) p i v c s)
  unfolding finish
  finish_does {s} F i li ht hw c H = by a H
    where
      as_stored : stored (entry_at s p i) v ≡ entry DIRTY TENTATIVE w v
      as_stored = ap (λ (t : ℕ). entry DIRTY t (entry_at s p i).word v) ht ∙ ap (λ (u : ℕ). entry DIRTY TENTATIVE u v) hw

      by : (a : Access) → Obtained (kind a) d.processors p w S₁ (seen d s) → Does d S (by_access p w v) (finish (number a) p i v c s)
      by lt H = record { fit = F; step = gets reading O H (copy_is F p lp w i li ht hw) }
      by ltx H = record { fit = F; step = gets owning O H (copy_is F p lp w i li ht hw) }
      by st H =
          let n : DIRTY ≢ INVALID = λ z. omega arith in
          let l : DIRTY < 4 = omega arith in
          let g = turn F p lp w i li ht hw DIRTY v l n lv in
          subst⁻¹ (λ (e : Entry). Does d S (by_access p w v) (gives Done c (with_entry s p i e))) as_stored
          (record { fit = turn_fit F p lp w i li ht hw DIRTY v l n lv; step = puts O H (copy_is F p lp w i li ht hw) g.1 g.2 refl })

-- a tentative entry is there
module _ {d : Dims} (p : ℕ) (lp : p < d.processors) (w v : ℕ) (lv : v < value_end) {S : View} {s : Caches} (F : Fit d s) (O : Opened p w S (seen d s))
    (i : ℕ) (li : i < d.entries) (ht : (entry_at s p i).tag ≡ TENTATIVE) (hw : (entry_at s p i).word ≡ w) where
  -- an upgrade, or a refusal
  raise_does : (a : Access) → (n : ℕ) → (entry_at s p i).state ≡ VALID
      → Does d S (by_access p w v)
      (pick (refuses d p w T_RFO s.entries) (busy d p T_RFO n s)
      (finish (number a) p i v (asked T_RFO n 0) (with_entry (snoop d p w T_RFO s) p i (with_state (entry_at s p i) RESERVED))))
  raise_does a n hv = by (refuses d p w T_RFO s.entries) refl
    where
      x : ℕ
      x = (entry_at s p i).«data»

      was : (seen d s).copy w p ≡ tentative valid x (backing F p lp w) false
      was = copy_is F p lp w i li ht hw ∙ ap (λ (c : ℕ). tentative (state_of c) x (backing F p lp w) (eqb c DIRTY)) hv

      s₂ : Caches
      s₂ = snoop d p w T_RFO s

      raised : with_state (entry_at s p i) RESERVED ≡ entry RESERVED TENTATIVE w x
      raised = ap (λ (t : ℕ). entry RESERVED t (entry_at s p i).word x) ht ∙ ap (λ (u : ℕ). entry RESERVED TENTATIVE u x) hw

      s₃ : Caches
      s₃ = with_entry s₂ p i (entry RESERVED TENTATIVE w x)

      granted : refuses d p w T_RFO s.entries ≡ false → Does d S (by_access p w v) (finish (number a) p i v (asked T_RFO n 0) s₃)
      granted h =
          let g = granted_served F owning T_RFO is-T-RFO p w lp h in
          let F₂ = g.0.fit in
          let same = g.0.own.entries i (omega (arith, F.frame.size.entries)) in
          let ht₂ : (entry_at s₂ p i).tag ≡ TENTATIVE = ap (λ (e : Entry). e.tag) same ∙ ht in
          let hw₂ : (entry_at s₂ p i).word ≡ w = ap (λ (e : Entry). e.word) same ∙ hw in
          let nr : RESERVED ≢ INVALID = λ z. omega arith in
          let lx : x < value_end = omega arith in
          let l : RESERVED < 4 = omega arith in
          let k = turn F₂ p lp w i li ht₂ hw₂ RESERVED x l nr lx in
          let z = turn_here F₂ p lp w i li ht₂ hw₂ RESERVED x l nr lx in
          let back : backing F₂ p lp w ≡ backing F p lp w =
          ap (λ (f : ℕ → Slot). back_of d.entries (home d) f ((decoded d s₂).line p) w) (fun_ext (own_slot F.frame.size p g.0.own)) ∙
          ap (λ (f : ℕ → Line). back_of d.entries (home d) ((decoded d s).slot p) f w) (fun_ext (own_line F.frame.size p g.0.own)) in
          finish_does a p lp w v lv O (turn_fit F₂ p lp w i li ht₂ hw₂ RESERVED x l nr lx) i li (ap (λ (e : Entry). e.tag) z)
          (ap (λ (e : Entry). e.word) z)
          (asked T_RFO n 0) (raises was g.1 k.1 (k.2 ∙ ap (λ (b : Back). tentative reserved x b false) back) refl)

      by : (b : Bool) → refuses d p w T_RFO s.entries ≡ b
          → Does d S (by_access p w v)
          (pick b (busy d p T_RFO n s) (finish (number a) p i v (asked T_RFO n 0) (with_entry s₂ p i (with_state (entry_at s p i) RESERVED))))
      by true h = aborted_does a p lp w v lv O F (asked T_RFO n 1) (no_raise was (refused_busy F p w owning T_RFO is-T-RFO h) (rollback_is F p lp))
      by false h =
          subst⁻¹ (λ (e : Entry). Does d S (by_access p w v) (finish (number a) p i v (asked T_RFO n 0) (with_entry s₂ p i e))) raised (granted h)

  silent_does : (a : Access) → (n : ℕ) → enough (kind a) (state_of (entry_at s p i).state) ≡ true
      → Does d S (by_access p w v) (finish (number a) p i v (quiet n) s)
  silent_does a n h = finish_does a p lp w v lv O F i li ht hw (quiet n) (has_it (copy_is F p lp w i li ht hw) h same_refl)

  -- LTX and ST
  owning_does : (a : Access) → kind a ≡ owning → (n : ℕ) → (b : Bool) → eqb (entry_at s p i).state VALID ≡ b
      → Does d S (by_access p w v)
      (pick b
      (pick (refuses d p w T_RFO s.entries) (busy d p T_RFO n s)
      (finish (number a) p i v (asked T_RFO n 0) (with_entry (snoop d p w T_RFO s) p i (with_state (entry_at s p i) RESERVED))))
      (finish (number a) p i v (quiet n) s))
  owning_does a e n true h = raise_does a n (eqb-true (entry_at s p i).state VALID h)
  owning_does a e n false h =
      let z = held F p lp w i li ht hw in
      silent_does a n
      (rw e
      (above_code (entry_at s p i).state (omega arith) z ∙
      le-leb RESERVED (entry_at s p i).state (omega (arith, z, eqb-false (entry_at s p i).state VALID h))))

  pub hit_does : (a : Access) (w₁ w₂ : ℕ) → Does d S (by_access p w v) (hit d (number a) p i w v w₁ w₂ s)
  unfolding hit
  hit_does lt w₁ w₂ = silent_does lt (w₁ + w₂) refl
  hit_does ltx w₁ w₂ = owning_does ltx refl (w₁ + w₂) (eqb (entry_at s p i).state VALID) refl
  hit_does st w₁ w₂ = owning_does st refl (w₁ + w₂) (eqb (entry_at s p i).state VALID) refl
