-- What a request does to another processor's copy of its word.
use mathlib.Core.Path.{◌≡◌, refl, sym, ◌∙◌, ap, subst}
use mathlib.Core.Logic.{◌≢◌, inl, inr}
use mathlib.Core.Bool.{Bool, true, false, not, true≢false, false≢true}
use Prim.Native.Nat.{ℕ, ◌<◌}
use native.Mathlib.Omega.{arith}
use lib.Dec.{eqb}
use lib.ListN.{get_or}
use borrow.Author.Tests.{eqb-true, eqb-false, not-true, leb-false}
use Rattle.laws.specs.Choice.{pick, both_left, both_right}
use Rattle.entry.specs.declared.Entry.{Entry}
use Rattle.entry.specs.Numbers.{INVALID, VALID, RESERVED, DIRTY, NORMAL, TENTATIVE}
use Rattle.entry.specs.Packing.{no_entry, InRange, same_entry}
use Rattle.entry.specs.Entry.{with_state, reserved_or_dirty, shared, snooped, takes}
use Rattle.rules.specs.declared.Dims.{Dims}
use Rattle.rules.specs.declared.Caches.{Caches}
use Rattle.rules.specs.State.{line_at, entry_at, word_at}
use Rattle.rules.specs.Own.{home, holds}
use Rattle.rules.specs.Snoop.{written_back}
use Rattle.theory.specs.View.{valid, Copy, none, regular, normal, tentative, wrote, View}
use Rattle.theory.specs.Change.{OnlyWord, Same}
use Rattle.theory.proofs.Cache.{Slot, slot_normal, slot_copy, filled, main_on, is_self, back_is}
use Rattle.theory.proofs.Lines.{LineIs, line_main}
use Rattle.theory.proofs.Updates.{AllTidy, SlotSet, turned, normal_gone, unmoved}
use Rattle.theory.specs.Protocol.{Kind, reading, owning, snoops, supplied}
use Rattle.theory.specs.Protocol
use Rattle.theory.proofs.Refine.{same_refl}
use Rattle.serial.proofs.Decode.{state_of, slot_of, line_of, decoded, seen, copy_else}
use Rattle.serial.proofs.Frame.{LineFits, EntryFits, Fits, fits_word, line_word}
use Rattle.serial.proofs.Set.{Fit, entry_on, line_on, Memory, back_at, back_here, set_slot, entry_fit}
use Rattle.serial.proofs.Codes.{normal_slot, above_code, tagged_fits}
use Rattle.serial.proofs.Find.{home_in, backing, entry_fits, line_fits, line_filled}
use Rattle.serial.proofs.Find.{has_regular, slot_at, slot_normal_at, has_normal, has_tentative}
use Rattle.serial.proofs.Lined.{none_range, lined_at, lined_fit, lined_blank, lined_regular}
use Rattle.serial.proofs.Others.{Cycle, Own, own_refl}

-- what a copy becomes
abbrev pub left : Kind → Entry → Entry
left reading e = with_state e VALID
left owning e = no_entry

shared_is : (e : Entry) → e.state < 4 → e.state ≢ INVALID → shared e ≡ with_state e VALID
shared_is e l n = by (reserved_or_dirty e.state) refl
  where
    by : (b : Bool) → reserved_or_dirty e.state ≡ b → pick b (with_state e VALID) e ≡ with_state e VALID
    by true h = refl
    by false h = same_entry e (with_state e VALID) (omega (arith, n, leb-false RESERVED e.state h)) refl refl refl

pub snooped_is : (k : Kind) (c : ℕ) → Cycle k c → (e : Entry) → e.state < 4 → e.state ≢ INVALID → snooped c e ≡ left k e
snooped_is reading c C e l n = ap (λ (b : Bool). pick b (shared e) (pick (takes c) no_entry e)) C.share ∙ shared_is e l n
snooped_is owning c C e l n =
    ap (λ (b : Bool). pick b (shared e) (pick (takes c) no_entry e)) C.share ∙ ap (λ (b : Bool). pick b no_entry e) C.take

left_range : (k : Kind) (e : Entry) → InRange e → InRange (left k e)
left_range reading e h = record { state = omega arith; tag = h.tag; word = h.word; «data» = h.«data» }
left_range owning e h = none_range

-- a state after q's turn, and what the theory asks of it
pub record Asks (d : Dims) (k : Kind) (p w : ℕ) (s₀ s : Caches) : Type 0 where
  pub fit : Fit d s
  pub spared : (r : ℕ) → r ≢ p → Protocol.opposing k ((seen d s).copy w r) ≡ false
  pub kept : Own p s₀ s

pub opposing_left : (k : Kind) (c : Copy) → Protocol.opposing k (snoops k c) ≡ false
opposing_left reading none = refl
opposing_left reading (regular s d) = refl
opposing_left reading (normal s d) = refl
opposing_left reading (tentative s d b t) = refl
opposing_left owning none = refl
opposing_left owning (regular s d) = refl
opposing_left owning (normal s d) = refl
opposing_left owning (tentative s d b t) = refl

-- q's copy of w is asked, and nothing else changes
pub record Asked (d : Dims) (k : Kind) (w q : ℕ) (s s' : Caches) : Type 0 where
  pub fit : Fit d s'
  pub at : OnlyWord q w (seen d s) (seen d s')
  pub copy : (seen d s').copy w q ≡ snoops k ((seen d s).copy w q)
  pub memory : word_at s' w ≡ supplied ((seen d s).copy w q) (word_at s w)
  pub kept : (p : ℕ) → p < 8 → p ≢ q → Own p s s'

same_at : {S S' : View} (q w : ℕ) → Same S S' → OnlyWord q w S S'
same_at q w i = record {
  memory_else = λ u n. i.memory_same u;
  word_else = λ u n r. i.copy_same u r;
  proc_else = λ r n. i.copy_same w r;
  active_same = i.active_same;
  status_same = i.status_same;
}

module _ {d : Dims} {s : Caches} (F : Fit d s) (q : ℕ) (lq : q < d.processors) (w : ℕ) (k : Kind)
    (grants : Protocol.opposing k ((seen d s).copy w q) ≡ false) where
  -- q has nothing of w
  pub nothing_asked : (seen d s).copy w q ≡ none → Asked d k w q s s
  nothing_asked e =
      record {
        fit = F;
        at = same_at q w same_refl;
        copy = e ∙ sym (ap (snoops k) e ∙ none_stays k);
        memory =
            sym (ap (λ (c : Copy). supplied c (word_at s w)) e);
        kept = λ p lp n. own_refl;
      }
    where
      none_stays : (k : Kind) → snoops k none ≡ none
      none_stays reading = refl
      none_stays owning = refl

  -- q's regular copy
  module _ (e : Entry) (h : line_at s q (home d w) ≡ e) (r : InRange e) (o : holds e w ≡ true) where
    pub line_held : e.state ≢ INVALID
    line_held = eqb-false e.state INVALID (not-true (eqb e.state INVALID) (both_left (not (eqb e.state INVALID)) (eqb e.word w) o))

    line_of_w : e.word ≡ w
    line_of_w = eqb-true e.word w (both_right (not (eqb e.state INVALID)) (eqb e.word w) o)

    fits : Fits (LineFits d) q (home d w) e
    fits = subst (Fits (LineFits d) q (home d w)) h (line_fits F q lq w)

    line_memory : Memory d s w (written_back s.memory e)
    line_memory = back_at F.frame e line_of_w (line_word fits) r.«data»

    full : (decoded d s).line q (home d w) ≡ filled (state_of e.state) w e.«data»
    full = line_filled F q lq w e h o

    old : LineIs w ((decoded d s).line q (home d w))
    old = rw full refl

    pub main : (i : ℕ) → i < d.entries → main_on w ((decoded d s).slot q i) ≡ false
    main =
        line_main d.entries (home d) ((decoded d s).slot q) ((decoded d s).line q) ((decoded d s).line q) (F.tidy q) w (home d w) refl (λ g i. refl)
        full

    was : (seen d s).copy w q ≡ regular (state_of e.state) e.«data»
    was = has_regular F q lq w e h o

    -- what the line becomes, and the copy with it
    whole : (to : Entry) (rt : InRange to) (ft : Fits (LineFits d) q (home d w) to) (yt : LineIs w (line_of to))
        → (seen d (line_on s (written_back s.memory e) q (home d w) to)).copy w q ≡ snoops k ((seen d s).copy w q)
        → Asked d k w q s (line_on s (written_back s.memory e) q (home d w) to)
    whole to rt ft yt c = record {
      fit = lined_fit F q lq w (home d w) refl line_memory to rt ft yt old main;
      at = lined_at F q lq w (home d w) refl line_memory to rt ft yt old main;
      copy = c;
      memory = back_here F.frame e line_of_w (line_word fits) ∙ sym (ap (λ (c : Copy). supplied c (word_at s w)) was);
      kept = λ p lp n. record {
        entries = λ i l. refl;
        lines = λ i l.
            copy_else s.lines F.frame.lines.long q (home d w) (omega (arith, F.frame.size.processors))
            (omega (arith, home_in F.frame.size w, F.frame.size.lines)) to rt p i lp l (inl n);
      };
    }

    pub line_asked : Asked d k w q s (line_on s (written_back s.memory e) q (home d w) (left k e))
    line_asked = by k refl
      where
        kept_fits : Fits (LineFits d) q (home d w) e → Fits (LineFits d) q (home d w) (with_state e VALID)
        kept_fits (inl z) = absurd (line_held (ap (λ (x : Entry). x.state) z))
        kept_fits (inr f) =
            inr (record { processor = f.processor; slot = f.slot; held = λ z. omega arith; tag = f.tag; word = f.word; at_home = f.at_home })

        valid_line : line_of (with_state e VALID) ≡ filled valid w e.«data»
        valid_line = ap (λ (u : ℕ). filled valid u e.«data») line_of_w

        by : (k' : Kind) → k ≡ k' → Asked d k w q s (line_on s (written_back s.memory e) q (home d w) (left k' e))
        by reading ek =
            let r' = left_range reading e r in
            let f' = kept_fits fits in
            whole (with_state e VALID) r' f' line_of_w
            (lined_regular F q lq w (home d w) refl line_memory (with_state e VALID) r' f' line_of_w old main valid_line ∙ sym
            (ap (snoops k) was ∙ rw ek))
        by owning ek =
            whole no_entry none_range (inl refl) tt
            (lined_blank F q lq w (home d w) refl line_memory no_entry none_range (inl refl) tt old main refl ∙ sym (ap (snoops k) was ∙ rw ek))

  -- q's NORMAL or tentative one, at entry i
  module _ (i : ℕ) (li : i < d.entries) (e : Entry) (h : entry_at s q i ≡ e) (r : InRange e) (ew : e.word ≡ w) where
    efits : Fits (EntryFits d) q i e
    efits = subst (Fits (EntryFits d) q i) h (entry_fits F q lq i li)

    entry_memory : Memory d s w (written_back s.memory e)
    entry_memory = back_at F.frame e ew (fits_word efits) r.«data»

    module _ (to : Entry) (rt : InRange to) (ft : Fits (EntryFits d) q i to) where
      abbrev t' : Caches
      t' = entry_on s (written_back s.memory e) q i to

      turn : SlotSet d.entries (home d) q i (slot_of to) w (decoded d s) (decoded d t')
      turn = set_slot F.frame entry_memory q i lq to rt li

      asked_by : AllTidy d.entries (home d) (decoded d t') → OnlyWord q w (seen d s) (seen d t')
          → (seen d t').copy w q ≡ snoops k ((seen d s).copy w q)
          → get_or (written_back s.memory e) w 0 ≡ supplied ((seen d s).copy w q) (word_at s w) → Asked d k w q s t'
      asked_by T a c m = record {
        fit = entry_fit F.frame entry_memory q i lq to rt li ft T;
        at = a;
        copy = c;
        memory = m;
        kept = λ p lp n. record {
          entries = λ j l.
              copy_else s.entries F.frame.entries.long q i (omega (arith, F.frame.size.processors))
              (omega (arith, F.frame.size.entries)) to rt
              p j lp l (inl n);
          lines = λ j l. refl;
        };
      }

    valid_fits : e.tag ≢ INVALID → Fits (EntryFits d) q i (with_state e VALID)
    valid_fits n =
        let f = tagged_fits efits n in
        inr (record { processor = f.processor; slot = f.slot; held = λ z. omega arith; tag = f.tag; word = f.word })

    pub normal_asked : e.tag ≡ NORMAL → Asked d k w q s (entry_on s (written_back s.memory e) q i (left k e))
    normal_asked ht = by k refl
      where
        was : (seen d s).copy w q ≡ normal (state_of e.state) e.«data»
        was = has_normal F q lq w i li e h ew ht

        mem : get_or (written_back s.memory e) w 0 ≡ supplied ((seen d s).copy w q) (word_at s w)
        mem = back_here F.frame e ew (fits_word efits) ∙ sym (ap (λ (c : Copy). supplied c (word_at s w)) was)

        sl : slot_of (with_state e VALID) ≡ slot_normal valid w e.«data»
        sl = normal_slot (with_state e VALID) ht ∙ ap (λ (u : ℕ). slot_normal valid u e.«data») ew

        tagged : e.tag ≢ INVALID
        tagged z = omega arith

        by : (k' : Kind) → k ≡ k' → Asked d k w q s (entry_on s (written_back s.memory e) q i (left k' e))
        by reading ek =
            let b = back_is d.entries (home d) ((decoded d s).slot q) ((decoded d s).line q) w in
            let g = turned d.entries (home d) F.tidy li (turn (with_state e VALID) (left_range reading e r) (valid_fits tagged))
            (slot_normal_at F q lq w i li e h ew ht) refl (rw sl refl) (is_self w) (rw sl (is_self w)) (λ z. absurd (false≢true z))
            (backing F q lq w) b in
            asked_by (with_state e VALID) (left_range reading e r) (valid_fits tagged) g.0 g.1
            (g.3 ∙ (ap (λ (x : Slot). slot_copy x (backing F q lq w)) sl ∙ sym (ap (snoops k) was ∙ rw ek))) mem
        by owning ek =
            let g = normal_gone d.entries (home d) F.tidy li (turn no_entry none_range (inl refl)) refl
            (slot_normal_at F q lq w i li e h ew ht) in
            asked_by no_entry none_range (inl refl) g.0 g.1 (g.3 ∙ sym (ap (snoops k) was ∙ rw ek)) mem

    -- a tentative copy that does not refuse is VALID, and the request a T_READ or READ: it stays
    pub tentative_asked : e.tag ≡ TENTATIVE → Asked d k w q s (entry_on s (written_back s.memory e) q i (left k e))
    tentative_asked ht = by k refl
      where
        was : (seen d s).copy w q ≡ tentative (state_of e.state) e.«data» (backing F q lq w) (eqb e.state DIRTY)
        was = has_tentative F q lq w i li e h ew ht

        tagged : e.tag ≢ INVALID
        tagged z = omega arith

        code : (k' : Kind) → k ≡ k' → (k' ≡ reading) × (e.state ≡ VALID)
        code reading ek =
            let f = tagged_fits efits tagged in
            let u = sym (above_code e.state r.state f.held) ∙ (rw (ek, was) at grants) in
            (refl, omega (arith, leb-false RESERVED e.state u, f.held))
        code owning ek = absurd (true≢false (rw (ek, was) at grants))

        by : (k' : Kind) → k ≡ k' → Asked d k w q s (entry_on s (written_back s.memory e) q i (left k' e))
        by reading ek =
            let v = (code reading ek).1 in
            let still : slot_of e ≡ slot_of (with_state e VALID) = ap slot_of (same_entry e (with_state e VALID) v refl refl refl) in
            let m : get_or (written_back s.memory e) w 0 ≡ word_at s w =
            back_here F.frame e ew (fits_word efits) ∙ ap (λ (x : ℕ). wrote (state_of x) e.«data» (word_at s w)) v in
            let g = unmoved d.entries (home d) F.tidy li (turn (with_state e VALID) (left_range reading e r) (valid_fits tagged))
            (slot_at F q lq i li ∙ (ap slot_of h ∙ still)) m in
            let st : tentative (state_of e.state) e.«data» (backing F q lq w) (eqb e.state DIRTY) ≡ snoops k ((seen d s).copy w q) =
            ap (λ (x : ℕ). tentative (state_of x) e.«data» (backing F q lq w) (eqb e.state DIRTY)) v ∙ sym (ap (snoops k) was ∙ rw ek) in
            asked_by (with_state e VALID) (left_range reading e r) (valid_fits tagged) g.0 (same_at q w g.1) (g.1.copy_same w q ∙ (was ∙ st))
            (m ∙ sym (ap (λ (c : Copy). supplied c (word_at s w)) was ∙ ap (λ (x : ℕ). wrote (state_of x) e.«data» (word_at s w)) v))
        by owning ek = absurd (true≢false (rw (ek, was) at grants))
