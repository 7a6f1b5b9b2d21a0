-- STORE is the theory's.
use mathlib.Core.Path.{◌≡◌, refl, ◌∙◌, ap}
use mathlib.Core.Logic.{◌≢◌, inl}
use mathlib.Core.Bool.{Bool, true, false, not}
use Prim.Native.Nat.{ℕ, ◌<◌}
use native.Mathlib.Omega.{arith}
use lib.Dec.{eqb, ltb}
use lib.ListN.{set}
use lib.Seq.{get_or-set_same}
use borrow.Author.Tests.{eqb-true, eqb-false, ltb-true, ltb-false, le-leb, not-true}
use Rattle.laws.specs.Choice.{pick, both_left}
use Rattle.entry.specs.declared.Entry.{Entry}
use Rattle.entry.specs.declared.answer.Answer.TheVariants.{Done}
use Rattle.entry.specs.Numbers.{INVALID, VALID, RESERVED, DIRTY, NORMAL, TENTATIVE, RFO, WRITE}
use Rattle.entry.specs.Packing.{entry, no_entry, InRange, unpack_range}
use Rattle.entry.specs.Answer.{quiet}
use Rattle.rules.specs.declared.Dims.{Dims}
use Rattle.rules.specs.declared.Caches.{Caches}
use Rattle.rules.specs.State.{gives, counted, line_at, entry_at, with_line}
use Rattle.rules.specs.Own.{home, holds, find_entry}
use Rattle.rules.specs.Rollback.{rollback}
use Rattle.rules.specs.Snoop.{writes, written_back, clear_line, clear_entry, plain_request}
use Rattle.rules.specs.Store
use Rattle.theory.specs.View.{none, regular, normal, is_tentative, View}
use Rattle.theory.specs.Change.{OnlyWord}
use Rattle.theory.proofs.Cache.{filled, main_on}
use Rattle.theory.proofs.Slots.{look_none}
use Rattle.theory.proofs.Lines.{LineIs, line_main}
use Rattle.theory.proofs.Updates.{AllTidy, normal_gone}
use Rattle.theory.proofs.Agree.{rolled_back_tentative}
use Rattle.theory.specs.Protocol.{store_hit, store_through, store_miss, Plainly, owning, is_normal}
use Rattle.theory.specs.Protocol.{Unheld, none_held, was_held, Unnormal, none_normal, was_normal}
use Rattle.theory.proofs.Refine.{same_refl, freed_none}
use Rattle.serial.specs.Shown.{by_store}
use Rattle.serial.specs.Taking.{value_end}
use Rattle.serial.proofs.Decode.{state_of, decoded, seen}
use Rattle.serial.proofs.Frame.{LineFits, Fits, fits_word}
use Rattle.serial.proofs.Set.{Fit, Memory, memory_same, memory_set, back_at, back_here, set_slot, entry_fit}
use Rattle.serial.proofs.Ends.{Does, rollback_fit, rollback_is}
use Rattle.serial.proofs.Codes.{above_code}
use Rattle.serial.proofs.Find.{home_in, is_none, found_tag, found_word, entry_fits, line_filled, has_regular}
use Rattle.serial.proofs.Find.{no_regular, slot_normal_at, has_tentative, no_normal, no_tentative}
use Rattle.serial.proofs.Requests.{Served, plain_request_served, is-RFO, is-WRITE}
use Rattle.serial.proofs.Lined.{none_range, lined_at, lined_fit, lined_regular, own_line, own_copy, Evicted, evicts}
use Rattle.serial.proofs.Load.{line_entry, line_range}

-- the tentative copy is given up
pub record Unheld-by (d : Dims) (p w : ℕ) (s s' : Caches) : Type 0 where
  pub fit : Fit d s'
  pub gives_up : Unheld p w (seen d s) (seen d s')
  pub not_tentative : is_tentative ((seen d s').copy w p) ≡ false

pub roll_own_unheld : {d : Dims} {s : Caches} → Fit d s → (p : ℕ) → p < d.processors → (w : ℕ) → Unheld-by d p w s (Store.roll_own d p w s)
unfolding Store.roll_own
roll_own_unheld {d} {s} F p lp w = by (ltb i d.entries) refl
  where
    i : ℕ
    i = find_entry s.entries p d.entries TENTATIVE w

    by : (b : Bool) → ltb i d.entries ≡ b → Unheld-by d p w s (pick b (rollback d p s) s)
    by true h =
        let l = ltb-true i d.entries h in
        let U = rollback_is F p lp in
        let c = has_tentative F p lp w i l (entry_at s p i) refl (found_word s p d.entries TENTATIVE w l)
        (found_tag s p d.entries TENTATIVE w l) in
        record {
          fit = rollback_fit F p lp;
          gives_up = was_held (rw c) U;
          not_tentative =
              rw (U.cache.here w) (rolled_back_tentative ((seen d s).copy w p));
        }
    by false h = let z = no_tentative F p lp w (ltb-false i d.entries h) in record { fit = F; gives_up = none_held z same_refl; not_tentative = z }

-- the NORMAL copy is given up
pub record Bared (d : Dims) (p w : ℕ) (s s' : Caches) : Type 0 where
  pub fit : Fit d s'
  pub clears : Unnormal p w (seen d s) (seen d s')
  pub not_normal : is_normal ((seen d s').copy w p) ≡ false
  pub not_tentative : is_tentative ((seen d s').copy w p) ≡ false

pub drop_normal_bared : {d : Dims} {s : Caches} → Fit d s → (p : ℕ) → p < d.processors → (w : ℕ) → is_tentative ((seen d s).copy w p) ≡ false
    → Bared d p w s (Store.drop_normal d p w s).after
unfolding Store.drop_normal
drop_normal_bared {d} {s} F p lp w nt = by (ltb i d.entries) refl
  where
    i : ℕ
    i = find_entry s.entries p d.entries NORMAL w

    e : Entry
    e = entry_at s p i

    by : (b : Bool) → ltb i d.entries ≡ b → Bared d p w s (pick b (counted (writes e) (clear_entry s p i)) (counted 0 s)).after
    by true h = record {
      fit = entry_fit F.frame M p i lp no_entry none_range l (inl refl) g.0;
      clears = was_normal g.1 g.2 g.3 (back_here F.frame e ew (fits_word (entry_fits F p lp i l)));
      not_normal = rw g.3;
      not_tentative = rw g.3;
    }
      where
        l : i < d.entries
        l = ltb-true i d.entries h

        ew : e.word ≡ w
        ew = found_word s p d.entries NORMAL w l

        M : Memory d s w (written_back s.memory e)
        M = back_at F.frame e ew (fits_word (entry_fits F p lp i l)) (unpack_range _).«data»

        g : AllTidy d.entries (home d) (decoded d (clear_entry s p i)) × OnlyWord p w (seen d s) (seen d (clear_entry s p i))
            × ((seen d s).copy w p ≡ normal (state_of e.state) e.«data») × ((seen d (clear_entry s p i)).copy w p ≡ none)
        g =
            normal_gone d.entries (home d) F.tidy l (set_slot F.frame M p i lp no_entry none_range l) refl
            (slot_normal_at F p lp w i l e refl ew (found_tag s p d.entries NORMAL w l))
    by false h =
        let z = no_normal F p lp w (ltb-false i d.entries h) in
        record { fit = F; clears = none_normal z same_refl; not_normal = z; not_tentative = nt }

-- the store itself, from a state in which p has a regular copy or none
module _ {d : Dims} (p : ℕ) (lp : p < d.processors) (w : ℕ) (lw : w < d.words) (v : ℕ) (lv : v < value_end) {s : Caches} (F : Fit d s) {S S₁ : View}
    (U : Unheld p w S S₁) (N : Unnormal p w S₁ (seen d s)) where
  abbrev h : ℕ
  h = home d w

  rt : (x : ℕ) → x < 4 → InRange (entry x INVALID w v)
  rt x lx = line_range x w v lx (omega (arith, F.frame.size.words)) lv

  ft : (x : ℕ) → x ≢ INVALID → Fits (LineFits d) p (home d w) (entry x INVALID w v)
  ft x n = line_entry x v lp (home_in F.frame.size w) lw n

  -- p's line has the word
  module _ (o : holds (line_at s p (home d w)) w ≡ true) where
    abbrev line : Entry
    line = line_at s p (home d w)

    full : (decoded d s).line p (home d w) ≡ filled (state_of (line_at s p (home d w)).state) w (line_at s p (home d w)).«data»
    full = line_filled F p lp w line refl o

    free : (i : ℕ) → i < d.entries → main_on w ((decoded d s).slot p i) ≡ false
    free =
        line_main d.entries (home d) ((decoded d s).slot p) ((decoded d s).line p) ((decoded d s).line p) (F.tidy p) w (home d w) refl
        (λ g i. refl) full

    old : LineIs w ((decoded d s).line p (home d w))
    old = rw full refl

    held : (line_at s p (home d w)).state ≢ INVALID
    held = eqb-false line.state INVALID (not-true (eqb line.state INVALID) (both_left (not (eqb line.state INVALID)) (eqb line.word w) o))

    -- RESERVED or DIRTY
    hit_does : (n : ℕ) → eqb (line_at s p (home d w)).state VALID ≡ false
        → Does d S (by_store p w v) (gives Done (quiet n) (with_line s p (home d w) (entry DIRTY INVALID w v)))
    hit_does n x =
        let M = memory_same F.frame w in
        let r = rt DIRTY (omega arith) in
        let f = ft DIRTY (λ z. omega arith) in
        let z = held in
        record {
          fit = lined_fit F p lp w h refl M (entry DIRTY INVALID w v) r f refl old free;
          step = store_hit U N (has_regular F p lp w line refl o)
              (above_code line.state (omega arith) z ∙ le-leb RESERVED line.state (omega (arith, z, eqb-false line.state VALID x)))
              (lined_at F p lp w h refl M (entry DIRTY INVALID w v) r f refl old free)
              (lined_regular F p lp w h refl M (entry DIRTY INVALID w v) r f refl old free refl) refl;
        }

    -- VALID: the new value is written through
    through_does : (n : ℕ) → eqb (line_at s p (home d w)).state VALID ≡ true → Does d S (by_store p w v) (Store.store_through d p w v n s)
    unfolding Store.store_through
    through_does n x = record {
      fit = lined_fit F₂ p lp w h refl M (entry RESERVED INVALID w v) r f refl old₂ free₂;
      step = store_through U N
          (has_regular F p lp w line refl o ∙ ap (λ (c : ℕ). regular (state_of c) line.«data») (eqb-true line.state VALID x)) request.1
          (lined_at F₂ p lp w h refl M (entry RESERVED INVALID w v) r f refl old₂ free₂)
          (lined_regular F₂ p lp w h refl M (entry RESERVED INVALID w v) r f refl old₂ free₂ refl)
          (get_or-set_same s₂.memory w v 0 (omega (arith, F₂.frame.memory.long, F.frame.size.words)));
    }
      where
        s₂ : Caches
        s₂ = plain_request d p w WRITE s

        request : Served d p s s₂ × Plainly owning d.processors p w (seen d s) (seen d s₂)
        request = plain_request_served F owning WRITE is-WRITE p w lp

        F₂ : Fit d s₂
        F₂ = request.0.fit

        M : Memory d s₂ w (set s₂.memory w v)
        M = memory_set F₂.frame w lw v lv

        r : InRange (entry RESERVED INVALID w v)
        r = rt RESERVED (omega arith)

        f : Fits (LineFits d) p (home d w) (entry RESERVED INVALID w v)
        f = ft RESERVED (λ z. omega arith)

        full₂ : (decoded d s₂).line p (home d w) ≡ filled (state_of line.state) w line.«data»
        full₂ = own_line F.frame.size p request.0.own (home d w) ∙ full

        old₂ : LineIs w ((decoded d s₂).line p (home d w))
        old₂ = rw full₂ refl

        free₂ : (i : ℕ) → i < d.entries → main_on w ((decoded d s₂).slot p i) ≡ false
        free₂ =
            line_main d.entries (home d) ((decoded d s₂).slot p) ((decoded d s₂).line p) ((decoded d s₂).line p) (F₂.tidy p) w (home d w) refl
            (λ g i. refl)
            full₂

  -- a miss
  miss_does : (n : ℕ) → (seen d s).copy w p ≡ none → Does d S (by_store p w v) (Store.store_miss d p w v n s)
  unfolding Store.store_miss
  miss_does n gone = record {
    fit = lined_fit F₂ p lp w h refl M (entry DIRTY INVALID w v) r f refl old free;
    step = store_miss U N gone ev.freed request.1 (lined_at F₂ p lp w h refl M (entry DIRTY INVALID w v) r f refl old free)
        (lined_regular F₂ p lp w h refl M (entry DIRTY INVALID w v) r f refl old free refl) refl;
  }
    where
      s₂ : Caches
      s₂ = clear_line s p (home d w)

      s₃ : Caches
      s₃ = plain_request d p w RFO s₂

      ev : Evicted d p w s s₂
      ev = evicts F p lp w gone

      request : Served d p s₂ s₃ × Plainly owning d.processors p w (seen d s₂) (seen d s₃)
      request = plain_request_served ev.fit owning RFO is-RFO p w lp

      F₂ : Fit d s₃
      F₂ = request.0.fit

      M : Memory d s₃ w s₃.memory
      M = memory_same F₂.frame w

      r : InRange (entry DIRTY INVALID w v)
      r = rt DIRTY (omega arith)

      f : Fits (LineFits d) p (home d w) (entry DIRTY INVALID w v)
      f = ft DIRTY (λ z. omega arith)

      old : LineIs w ((decoded d s₃).line p (home d w))
      old = rw (own_line F.frame.size p request.0.own (home d w) ∙ ev.blank_now) tt

      free : (i : ℕ) → i < d.entries → main_on w ((decoded d s₃).slot p i) ≡ false
      free =
          (look_none d.entries (home d) ((decoded d s₃).slot p) ((decoded d s₃).line p) w
          (own_copy F.frame.size p request.0.own w ∙ freed_none ev.freed w gone)).1

  line_does : (n : ℕ) → is_normal ((seen d s).copy w p) ≡ false → is_tentative ((seen d s).copy w p) ≡ false
      → Does d S (by_store p w v) (Store.store_line d p w v (counted n s))
  unfolding Store.store_line
  line_does n nn nt = by (holds (line_at s p (home d w)) w) refl (eqb (line_at s p (home d w)).state VALID) refl
    where
      by : (x : Bool) → holds (line_at s p (home d w)) w ≡ x → (y : Bool) → eqb (line_at s p (home d w)).state VALID ≡ y
          → Does d S (by_store p w v)
          (pick x
          (pick y (Store.store_through d p w v n s) (gives Done (quiet n) (with_line s p (home d w) (entry DIRTY INVALID w v))))
          (Store.store_miss d p w v n s))
      by true hx true hy = through_does hx n hy
      by true hx false hy = hit_does hx n hy
      by false hx y hy = miss_does n (is_none ((seen d s).copy w p) (no_regular F p lp w (line_at s p (home d w)) refl hx) nn nt)

pub store_does : {d : Dims} {s : Caches} → Fit d s → (p : ℕ) → p < d.processors → (w : ℕ) → w < d.words → (v : ℕ) → v < value_end
    → Does d (seen d s) (by_store p w v) (Store.store d p w v s)
unfolding Store.store
store_does {d} {s} F p lp w lw v lv =
    let u = roll_own_unheld F p lp w in
    let b = drop_normal_bared u.fit p lp w u.not_tentative in
    line_does p lp w lw v lv b.fit u.gives_up b.clears (Store.drop_normal d p w (Store.roll_own d p w s)).writes b.not_normal
    b.not_tentative
