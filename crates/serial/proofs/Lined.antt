-- A processor's regular line: it takes another copy of its word, it is freed, and it is evicted.
use mathlib.Core.Path.{◌≡◌, refl, sym, ◌∙◌, ap, subst, fun_ext}
use mathlib.Core.Logic.{inl, inr}
use mathlib.Core.Bool.{Bool, true, false, not}
use mathlib.Core.List.{List}
use Prim.Native.Nat.{ℕ, ◌<◌}
use native.Mathlib.Omega.{arith}
use lib.Dec.{eqb}
use lib.ListN.{get_or}
use borrow.Author.Tests.{eqb-true}
use Rattle.laws.specs.Choice.{pick, both_right}
use Rattle.entry.specs.declared.Entry.{Entry}
use Rattle.entry.specs.Numbers.{INVALID}
use Rattle.entry.specs.Packing.{no_entry, InRange, unpack_range}
use Rattle.rules.specs.declared.Dims.{Dims}
use Rattle.rules.specs.declared.Caches.{Caches}
use Rattle.rules.specs.State.{line_at, counted}
use Rattle.rules.specs.Own.{home, holds}
use Rattle.rules.specs.Snoop.{writes, written_back, clear_line}
use Rattle.rules.specs.Transact.{drop_line}
use Rattle.theory.specs.View.{LineState, none, regular}
use Rattle.theory.specs.Change.{OnlyWord}
use Rattle.theory.proofs.Cache.{Slot, Line, vacant, blank, filled, main_on, look}
use Rattle.theory.proofs.Slots.{look_none}
use Rattle.theory.proofs.Lines.{LineIs, line_main, look_line_lem}
use Rattle.theory.proofs.Updates.{AllTidy, LineSet, lined, line_in, line_out}
use Rattle.theory.specs.Protocol.{Freed, empty, regular_freed, Unregular, none_regular, was_regular, is_regular}
use Rattle.theory.proofs.Serve.{at_still}
use Rattle.theory.proofs.Refine.{same_refl}
use Rattle.serial.proofs.Decode.{state_of, slot_of, line_of, decoded, seen, read_same}
use Rattle.serial.proofs.Frame.{LineFits, Fits, Size, line_word}
use Rattle.serial.proofs.Set.{Fit, line_on, Memory, back_at, back_here, set_line, line_fit}
use Rattle.serial.proofs.Codes.{filled_line}
use Rattle.serial.proofs.Find.{home_in, line_fits, line_at_lem, line_filled, has_regular, no_regular}
use Rattle.serial.proofs.Others.{Own}

pub none_range : InRange no_entry
none_range = record { state = omega arith; tag = omega arith; word = omega arith; «data» = omega arith }

pub back_none : (m : List ℕ) → written_back m no_entry ≡ m
unfolding written_back
back_none m = refl

-- p's line of u, which has u or nothing, takes `to`, and no slot of p is u's own
module _ {d : Dims} {s : Caches} (F : Fit d s) (p : ℕ) (lp : p < d.processors) (u h : ℕ) (hu : home d u ≡ h) {m : List ℕ} (M : Memory d s u m)
    (to : Entry) (rt : InRange to) (ft : Fits (LineFits d) p h to) (yt : LineIs u (line_of to))
    (old : LineIs u ((decoded d s).line p h)) (free : (i : ℕ) → i < d.entries → main_on u ((decoded d s).slot p i) ≡ false) where
  in_lines : h < d.lines
  in_lines = subst (λ (z : ℕ). z < d.lines) hu (home_in F.frame.size u)

  change : LineSet d.entries (home d) p h (line_of to) u (decoded d s) (decoded d (line_on s m p h to))
  change = set_line F.frame M p h lp to rt in_lines

  goes : AllTidy d.entries (home d) (decoded d (line_on s m p h to)) × OnlyWord p u (seen d s) (seen d (line_on s m p h to))
  goes = lined d.entries (home d) F.tidy hu change refl old yt free

  pub lined_at : OnlyWord p u (seen d s) (seen d (line_on s m p h to))
  lined_at = goes.1

  pub lined_fit : Fit d (line_on s m p h to)
  lined_fit = line_fit F.frame M p h lp to rt in_lines ft goes.0

  pub lined_here : (decoded d (line_on s m p h to)).line p h ≡ line_of to
  lined_here = change.here

  pub lined_blank : line_of to ≡ blank → (seen d (line_on s m p h to)).copy u p ≡ none
  lined_blank e = line_out d.entries (home d) F.tidy hu change refl old e free

  pub lined_regular : {x : LineState} {y : ℕ} → line_of to ≡ filled x u y → (seen d (line_on s m p h to)).copy u p ≡ regular x y
  lined_regular e = line_in d.entries (home d) F.tidy hu change refl old e free

-- p's own side of a request
module _ {d : Dims} (z : Size d) (p : ℕ) {s s' : Caches} (o : Own p s s') where
  pub own_slot : (i : ℕ) → (decoded d s').slot p i ≡ (decoded d s).slot p i
  own_slot i =
      read_same slot_of vacant d.processors d.entries s.entries s'.entries p i (λ lq li. o.entries i (omega arith))

  pub own_line : (i : ℕ) → (decoded d s').line p i ≡ (decoded d s).line p i
  own_line i = read_same line_of blank d.processors d.lines s.lines s'.lines p i (λ lq li. o.lines i (omega arith))

  pub own_copy : (w : ℕ) → (seen d s').copy w p ≡ (seen d s).copy w p
  own_copy w =
      ap (λ (f : ℕ → Slot). look d.entries (home d) f ((decoded d s').line p) w) (fun_ext own_slot) ∙
      ap (λ (g : ℕ → Line). look d.entries (home d) ((decoded d s).slot p) g w) (fun_ext own_line)

-- the line's occupant is evicted, p having nothing of w
pub record Evicted (d : Dims) (p w : ℕ) (s s' : Caches) : Type 0 where
  pub fit : Fit d s'
  pub freed : Freed p (seen d s) (seen d s')
  pub blank_now : (decoded d s').line p (home d w) ≡ blank

pub evicts : {d : Dims} {s : Caches} → Fit d s → (p : ℕ) → p < d.processors → (w : ℕ) → (seen d s).copy w p ≡ none
    → Evicted d p w s (clear_line s p (home d w))
evicts {d} {s} F p lp w gone = by (line_fits F p lp w)
  where
    h : ℕ
    h = home d w

    e : Entry
    e = line_at s p h

    by : Fits (LineFits d) p h e → Evicted d p w s (line_on s (written_back s.memory e) p h no_entry)
    by (inl z) = record {
      fit = lined_fit F p lp w h refl M no_entry none_range (inl refl) tt old free;
      freed = empty (at_still p w (lined_at F p lp w h refl M no_entry none_range (inl refl) tt old free)
          (lined_blank F p lp w h refl M no_entry none_range (inl refl) tt old free refl ∙ sym gone) (ap (λ (m : List ℕ). get_or m w 0) clean));
      blank_now = lined_here F p lp w h refl M no_entry none_range (inl refl) tt old free;
    }
      where
        clean : written_back s.memory e ≡ s.memory
        clean = ap (λ (x : Entry). written_back s.memory x) z ∙ back_none s.memory

        M : Memory d s w (written_back s.memory e)
        M = record { words = rw clean F.frame.memory; else = λ u n. ap (λ (m : List ℕ). get_or m u 0) clean }

        old : LineIs w ((decoded d s).line p h)
        old = rw (line_at_lem F p lp w ∙ ap line_of z) tt

        free : (i : ℕ) → i < d.entries → main_on w ((decoded d s).slot p i) ≡ false
        free = (look_none d.entries (home d) ((decoded d s).slot p) ((decoded d s).line p) w gone).1
    by (inr f) = record {
      fit = lined_fit F p lp u h f.at_home M no_entry none_range (inl refl) tt old free;
      freed = regular_freed u (lined_at F p lp u h f.at_home M no_entry none_range (inl refl) tt old free)
          (look_line_lem d.entries (home d) ((decoded d s).slot p) ((decoded d s).line p) ((decoded d s).line p) (F.tidy p) u h f.at_home
          (λ g i. refl) full)
          (lined_blank F p lp u h f.at_home M no_entry none_range (inl refl) tt old free refl) (back_here F.frame e refl (λ x. f.word));
      blank_now = lined_here F p lp u h f.at_home M no_entry none_range (inl refl) tt old free;
    }
      where
        u : ℕ
        u = e.word

        M : Memory d s u (written_back s.memory e)
        M = back_at F.frame e refl (λ x. f.word) (unpack_range _).«data»

        full : (decoded d s).line p h ≡ filled (state_of e.state) u e.«data»
        full = line_at_lem F p lp w ∙ filled_line e f.held

        old : LineIs u ((decoded d s).line p h)
        old = rw full refl

        free : (i : ℕ) → i < d.entries → main_on u ((decoded d s).slot p i) ≡ false
        free = line_main d.entries (home d) ((decoded d s).slot p) ((decoded d s).line p) ((decoded d s).line p) (F.tidy p) u h f.at_home
            (λ g i. refl) full

-- the own regular copy is given up
pub record Unlined (d : Dims) (p w : ℕ) (s s' : Caches) : Type 0 where
  pub fit : Fit d s'
  pub clears : Unregular p w (seen d s) (seen d s')
  pub none_left : is_regular ((seen d s').copy w p) ≡ false

pub drop_line_unlined : {d : Dims} {s : Caches} → Fit d s → (p : ℕ) → p < d.processors → (w : ℕ) → Unlined d p w s (drop_line d p w s).after
unfolding drop_line
drop_line_unlined {d} {s} F p lp w = by (holds (line_at s p (home d w)) w) refl
  where
    e : Entry
    e = line_at s p (home d w)

    by : (b : Bool) → holds (line_at s p (home d w)) w ≡ b
        → Unlined d p w s (pick b (counted (writes e) (clear_line s p (home d w))) (counted 0 s)).after
    by true o = record {
      fit = lined_fit F p lp w (home d w) refl M no_entry none_range (inl refl) tt old free;
      clears = was_regular (lined_at F p lp w (home d w) refl M no_entry none_range (inl refl) tt old free) (has_regular F p lp w e refl o) out
          (back_here F.frame e ew (line_word (line_fits F p lp w)));
      none_left = rw out;
    }
      where
        ew : e.word ≡ w
        ew = eqb-true e.word w (both_right (not (eqb e.state INVALID)) (eqb e.word w) o)

        M : Memory d s w (written_back s.memory e)
        M = back_at F.frame e ew (line_word (line_fits F p lp w)) (unpack_range _).«data»

        full : (decoded d s).line p (home d w) ≡ filled (state_of e.state) w e.«data»
        full = line_filled F p lp w e refl o

        old : LineIs w ((decoded d s).line p (home d w))
        old = rw full refl

        free : (i : ℕ) → i < d.entries → main_on w ((decoded d s).slot p i) ≡ false
        free = line_main d.entries (home d) ((decoded d s).slot p) ((decoded d s).line p) ((decoded d s).line p) (F.tidy p) w (home d w) refl
            (λ g i. refl) full

        out : (seen d (clear_line s p (home d w))).copy w p ≡ none
        out = lined_blank F p lp w (home d w) refl M no_entry none_range (inl refl) tt old free refl
    by false o = let z = no_regular F p lp w e refl o in record { fit = F; clears = none_regular z same_refl; none_left = z }
