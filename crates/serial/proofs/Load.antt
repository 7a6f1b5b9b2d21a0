-- LOAD is the theory's.
use mathlib.Core.Path.{◌≡◌, refl, sym, ◌∙◌, ap}
use mathlib.Core.Logic.{◌≢◌, inr}
use mathlib.Core.Bool.{Bool, true, false, true≢false, false≢true}
use Prim.Native.Nat.{ℕ, ◌<◌}
use native.Mathlib.Omega.{arith}
use lib.Dec.{eqb, ltb}
use borrow.Author.Tests.{eqb-true, eqb-false, ltb-true, ltb-false, le-leb}
use Rattle.laws.specs.Choice.{pick}
use Rattle.entry.specs.declared.Entry.{Entry}
use Rattle.entry.specs.declared.answer.Answer.TheVariants.{Value}
use Rattle.entry.specs.Numbers.{INVALID, VALID, RESERVED, DIRTY, NORMAL, TENTATIVE, READ}
use Rattle.entry.specs.Packing.{entry, InRange}
use Rattle.entry.specs.Answer.{no_cycles}
use Rattle.rules.specs.declared.Dims.{Dims}
use Rattle.rules.specs.declared.Caches.{Caches}
use Rattle.rules.specs.State.{gives, line_at, entry_at, word_at}
use Rattle.rules.specs.Own.{home, holds, find_entry}
use Rattle.rules.specs.Rollback.{rollback}
use Rattle.rules.specs.Snoop.{clear_line, plain_request}
use Rattle.rules.specs.Load
use Rattle.theory.specs.View.{LineState, Back, bare, backup, Copy, none, regular, normal, tentative, above, is_tentative, rolled_copy}
use Rattle.theory.proofs.Cache.{main_on}
use Rattle.theory.proofs.Slots.{look_none}
use Rattle.theory.proofs.Lines.{LineIs}
use Rattle.theory.proofs.Agree.{rolled_back_tentative}
use Rattle.theory.specs.Protocol.{load_hit, load_back, load_miss, load_bare, Fetched, Plainly, reading, is_regular, RolledBack}
use Rattle.theory.proofs.Refine.{same_refl, freed_none}
use Rattle.serial.specs.Shown.{by_load}
use Rattle.serial.specs.Taking.{value_end}
use Rattle.serial.proofs.Decode.{state_of, decoded, seen}
use Rattle.serial.proofs.Frame.{LineFits, Fits}
use Rattle.serial.proofs.Set.{Fit, Memory, memory_same}
use Rattle.serial.proofs.Ends.{Does, rollback_fit, rollback_is}
use Rattle.serial.proofs.Codes.{above_code, tagged_fits}
use Rattle.serial.proofs.Find.{home_in, is_none, found_tag, found_word, entry_fits, backing, has_regular}
use Rattle.serial.proofs.Find.{no_regular, has_normal, has_tentative, no_normal, no_tentative}
use Rattle.serial.proofs.Requests.{Served, plain_request_served, is-READ}
use Rattle.serial.proofs.Lined.{lined_at, lined_fit, lined_regular, own_line, own_copy, Evicted, evicts}

-- a held line of a word of the machine
pub line_entry : {d : Dims} {p w : ℕ} (x v : ℕ) → p < d.processors → home d w < d.lines → w < d.words → x ≢ INVALID
    → Fits (LineFits d) p (home d w) (entry x INVALID w v)
line_entry x v lp lh lw n = inr (record { processor = lp; slot = lh; held = n; tag = refl; word = lw; at_home = refl })

pub line_range : (x w v : ℕ) → x < 4 → w < 256 → v < value_end → InRange (entry x INVALID w v)
line_range x w v lx lw lv = record { state = lx; tag = omega arith; word = lw; «data» = lv }

module _ {d : Dims} {s : Caches} (F : Fit d s) (p : ℕ) (lp : p < d.processors) (w : ℕ) (lw : w < d.words) (gone : (seen d s).copy w p ≡ none) where
  abbrev h : ℕ
  h = home d w

  abbrev s₁ : Caches
  s₁ = clear_line s p h

  abbrev s₂ : Caches
  s₂ = plain_request d p w READ s₁

  ev : Evicted d p w s s₁
  ev = evicts F p lp w gone

  request : Served d p s₁ s₂ × Plainly reading d.processors p w (seen d s₁) (seen d s₂)
  request = plain_request_served ev.fit reading READ is-READ p w lp

  pub load_miss_fetched : Fit d (Load.load_miss d p w s).after
      × Fetched d.processors p w (word_at s₂ w) (seen d s) (seen d (Load.load_miss d p w s).after)
  unfolding Load.load_miss
  load_miss_fetched = (
    lined_fit F₂ p lp w h refl M to rt ft refl old free,
    record {
      gap = seen d s₁;
      requested = seen d s₂;
      frees = ev.freed;
      asks = request.1;
      at = lined_at F₂ p lp w h refl M to rt ft refl old free;
      gives = refl;
      here = lined_regular F₂ p lp w h refl M to rt ft refl old free refl;
      memory_same = refl;
    },
  )
    where
      F₂ : Fit d s₂
      F₂ = request.0.fit

      to : Entry
      to = entry VALID INVALID w (word_at s₂ w)

      rt : InRange to
      rt = line_range VALID w (word_at s₂ w) (omega arith) (omega (arith, F.frame.size.words)) (F₂.frame.memory.small w)

      ft : Fits (LineFits d) p h to
      ft = line_entry VALID (word_at s₂ w) lp (home_in F.frame.size w) lw (λ z. omega arith)

      M : Memory d s₂ w s₂.memory
      M = memory_same F₂.frame w

      old : LineIs w ((decoded d s₂).line p h)
      old = rw (own_line F.frame.size p request.0.own h ∙ ev.blank_now) tt

      free : (i : ℕ) → i < d.entries → main_on w ((decoded d s₂).slot p i) ≡ false
      free =
          (look_none d.entries (home d) ((decoded d s₂).slot p) ((decoded d s₂).line p) w
          (own_copy F.frame.size p request.0.own w ∙ freed_none ev.freed w gone)).1

-- after a rollback, p's copy is what its backup was
unroll_normal : (k : Copy) {s : LineState} {d : ℕ} → is_tentative k ≡ true → rolled_copy k ≡ normal s d
    → (s₀ : LineState) × (d₀ : ℕ) × (t : Bool) × (k ≡ tentative s₀ d₀ (backup s d) t)
unroll_normal none h e = absurd (false≢true h)
unroll_normal (regular s d) h e = absurd (false≢true h)
unroll_normal (normal s d) h e = absurd (false≢true h)
unroll_normal (tentative s d bare t) h e = let z : true ≡ false = cc in absurd (true≢false z)
unroll_normal (tentative s d (backup r x) t) h e = (s, d, t, cc)

unroll_none : (k : Copy) → is_tentative k ≡ true → rolled_copy k ≡ none → (s₀ : LineState) × (d₀ : ℕ) × (t : Bool) × (k ≡ tentative s₀ d₀ bare t)
unroll_none none h e = absurd (false≢true h)
unroll_none (regular s d) h e = absurd (false≢true h)
unroll_none (normal s d) h e = absurd (false≢true h)
unroll_none (tentative s d bare t) h e = (s, d, t, refl)
unroll_none (tentative s d (backup r x) t) h e = let z : true ≡ false = cc in absurd (true≢false z)

rolled_regular : (k : Copy) → is_tentative k ≡ true → is_regular (rolled_copy k) ≡ false
rolled_regular none h = refl
rolled_regular (regular s d) h = absurd (false≢true h)
rolled_regular (normal s d) h = refl
rolled_regular (tentative s d bare t) h = refl
rolled_regular (tentative s d (backup r x) t) h = refl

module _ {d : Dims} {s : Caches} (F : Fit d s) (p : ℕ) (lp : p < d.processors) (w : ℕ) (lw : w < d.words) where
  -- NORMAL, or a miss
  on_does : is_regular ((seen d s).copy w p) ≡ false → is_tentative ((seen d s).copy w p) ≡ false
      → Does d (seen d s) (by_load p w) (Load.load_on d p w s)
  unfolding Load.load_on Load.load_miss
  on_does nr nt = by (ltb i d.entries) refl
    where
      i : ℕ
      i = find_entry s.entries p d.entries NORMAL w

      by : (b : Bool) → ltb i d.entries ≡ b
          → Does d (seen d s) (by_load p w) (pick b (gives (Value (entry_at s p i).«data») no_cycles s) (Load.load_miss d p w s))
      by true e =
          let l = ltb-true i d.entries e in
          let t = found_tag s p d.entries NORMAL w l in
          let u = found_word s p d.entries NORMAL w l in
          record {
            fit = F;
            step =
                load_hit {p = p} {w = w} {x = (entry_at s p i).«data»} (rw (has_normal F p lp w i l (entry_at s p i) refl u t) refl) same_refl;
          }
      by false e =
          let g = is_none ((seen d s).copy w p) nr (no_normal F p lp w (ltb-false i d.entries e)) nt in
          let x = load_miss_fetched F p lp w lw g in
          record { fit = x.0; step = load_miss g x.1 }

  -- a tentative copy above VALID: rollback, and then its backup, or a miss
  module _ {x : LineState} {y : ℕ} {b : Back} {t : Bool} (was : (seen d s).copy w p ≡ tentative x y b t) (high : above x ≡ true) where
    R : Fit d (rollback d p s)
    R = rollback_fit F p lp

    U : RolledBack p (seen d s) (seen d (rollback d p s))
    U = rollback_is F p lp

    rolled_does : Does d (seen d s) (by_load p w) (Load.load_on d p w (rollback d p s))
    unfolding Load.load_on Load.load_miss
    rolled_does = by (ltb i d.entries) refl
      where
        i : ℕ
        i = find_entry (rollback d p s).entries p d.entries NORMAL w

        by : (b : Bool) → ltb i d.entries ≡ b
            → Does d (seen d s) (by_load p w)
            (pick b (gives (Value (entry_at (rollback d p s) p i).«data») no_cycles (rollback d p s)) (Load.load_miss d p w (rollback d p s)))
        by true e =
            let l = ltb-true i d.entries e in
            let k = has_normal R p lp w i l (entry_at (rollback d p s) p i) refl (found_word (rollback d p s) p d.entries NORMAL w l)
            (found_tag (rollback d p s) p d.entries NORMAL w l) in
            let z = unroll_normal ((seen d s).copy w p) (rw was) (sym (U.cache.here w) ∙ k) in
            record { fit = R; step = load_back z.3 (cc z.3) U }
        by false e =
            let nr : is_regular ((seen d (rollback d p s)).copy w p) ≡ false = rw (U.cache.here w) (rolled_regular ((seen d s).copy w p) (rw was)) in
            let nt : is_tentative ((seen d (rollback d p s)).copy w p) ≡ false = rw (U.cache.here w) (rolled_back_tentative ((seen d s).copy w p)) in
            let g = is_none ((seen d (rollback d p s)).copy w p) nr (no_normal R p lp w (ltb-false i d.entries e)) nt in
            let m = load_miss_fetched R p lp w lw g in
            let z = unroll_none ((seen d s).copy w p) (rw was) (sym (U.cache.here w) ∙ g) in
            record { fit = m.0; step = load_bare z.3 (cc z.3) U m.1 }

  pub load_does : Does d (seen d s) (by_load p w) (Load.load d p w s)
  unfolding Load.load
  load_does = by (holds line w) refl (ltb i d.entries) refl (eqb (entry_at s p i).state VALID) refl
    where
      line : Entry
      line = line_at s p (home d w)

      i : ℕ
      i = find_entry s.entries p d.entries TENTATIVE w

      copy_is : i < d.entries
          → (seen d s).copy w p ≡ tentative (state_of (entry_at s p i).state) (entry_at s p i).«data» (backing F p lp w)
          (eqb (entry_at s p i).state DIRTY)
      copy_is l =
          has_tentative F p lp w i l (entry_at s p i) refl (found_word s p d.entries TENTATIVE w l) (found_tag s p d.entries TENTATIVE w l)

      held : i < d.entries → (entry_at s p i).state ≢ INVALID
      held l = let t = found_tag s p d.entries TENTATIVE w l in (tagged_fits (entry_fits F p lp i l) (λ z. omega arith)).held

      by : (x : Bool) → holds line w ≡ x → (y : Bool) → ltb i d.entries ≡ y → (z : Bool) → eqb (entry_at s p i).state VALID ≡ z
          → Does d (seen d s) (by_load p w)
          (pick x (gives (Value line.«data») no_cycles s)
          (pick y
          (pick z (gives (Value (entry_at s p i).«data») no_cycles s) (Load.load_on d p w (rollback d p s)))
          (Load.load_on d p w s)))
      by true hx y hy z hz =
          record { fit = F; step = load_hit {p = p} {w = w} {x = line.«data»} (rw (has_regular F p lp w line refl hx) refl) same_refl }
      by false hx true hy true hz =
          let l = ltb-true i d.entries hy in
          let v = eqb-true (entry_at s p i).state VALID hz in
          record {
            fit = F;
            step =
                load_hit {p = p} {w = w} {x = (entry_at s p i).«data»} (rw (copy_is l) (ap (λ (n : ℕ). above (state_of n)) v, refl)) same_refl;
          }
      by false hx true hy false hz =
          let l = ltb-true i d.entries hy in
          let n = held l in
          rolled_does (copy_is l)
          (above_code (entry_at s p i).state (omega arith) n ∙
          le-leb RESERVED (entry_at s p i).state (omega (arith, n, eqb-false (entry_at s p i).state VALID hz)))
      by false hx false hy z hz = on_does (no_regular F p lp w line refl hx) (no_tentative F p lp w (ltb-false i d.entries hy))
