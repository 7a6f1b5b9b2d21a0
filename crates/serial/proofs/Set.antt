-- One line or one entry is set, and one word of memory may change: what that is to the theory, and that the frame stays.
use mathlib.Core.Path.{◌≡◌, refl, sym, ◌∙◌, subst}
use mathlib.Core.Logic.{◌≢◌, ◌⊎◌, inl, inr}
use mathlib.Core.Bool.{Bool, true, false}
use mathlib.Core.List.{List}
use Prim.Native.Nat.{ℕ, ◌<◌}
use native.Mathlib.Omega.{arith}
use lib.Dec.{eqb}
use lib.ListN.{length, get_or, set}
use lib.Seq.{get_or-set_same, get_or-set_other}
use borrow.Author.Tests.{eqb-true}
use Rattle.laws.specs.Choice.{pick}
use Rattle.entry.specs.declared.Entry.{Entry}
use Rattle.entry.specs.Numbers.{RESERVED, DIRTY}
use Rattle.entry.specs.Packing.{InRange}
use Rattle.rules.specs.declared.Dims.{Dims}
use Rattle.rules.specs.declared.Caches.{Caches}
use Rattle.rules.specs.State.{caches, with_copy, word_at}
use Rattle.rules.specs.Own.{home}
use Rattle.rules.specs.Snoop.{written_back}
use Rattle.theory.specs.View.{valid, reserved, wrote}
use Rattle.theory.proofs.Cache.{vacant, blank}
use Rattle.theory.proofs.Updates.{AllTidy, SlotSet, LineSet}
use Rattle.serial.specs.Taking.{value_end}
use Rattle.serial.proofs.Decode.{state_of, slot_of, line_of, decoded, read_here, read_else}
use Rattle.serial.proofs.Frame.{LineFits, EntryFits, Fits, Words, Frame, copies_set, words_set, words_back}

-- what every state of a run satisfies, whatever its copies say of one another's words
pub record Fit (d : Dims) (s : Caches) : Type 0 where
  pub frame : Frame d s
  pub tidy : AllTidy d.entries (home d) (decoded d s)

abbrev pub entry_on : Caches → List ℕ → ℕ → ℕ → Entry → Caches
entry_on s m p i e = caches m s.lines (with_copy s.entries p i e) s.flags

abbrev pub line_on : Caches → List ℕ → ℕ → ℕ → Entry → Caches
line_on s m p i e = caches m (with_copy s.lines p i e) s.entries s.flags

-- m is s's memory but at u
pub record Memory (d : Dims) (s : Caches) (u : ℕ) (m : List ℕ) : Type 0 where
  pub words : Words d.words m
  pub else : (w : ℕ) → w ≢ u → get_or m w 0 ≡ word_at s w

pub memory_same : {d : Dims} {s : Caches} → Frame d s → (u : ℕ) → Memory d s u s.memory
memory_same F u = record { words = F.memory; else = λ w n. refl }

pub memory_set : {d : Dims} {s : Caches} → Frame d s → (u : ℕ) → u < d.words → (v : ℕ) → v < value_end → Memory d s u (set s.memory u v)
memory_set {d} {s} F u lu v lv = record { words = words_set F.memory u lu v lv; else = λ w n. get_or-set_other s.memory u w v 0 n }

pub written_else : (m : List ℕ) (e : Entry) (w : ℕ) → w ≢ e.word → get_or (written_back m e) w 0 ≡ get_or m w 0
unfolding written_back
written_else m e w n = by (eqb e.state DIRTY)
  where
    by : (b : Bool) → get_or (pick b (set m e.word e.«data») m) w 0 ≡ get_or m w 0
    by true = get_or-set_other m e.word w e.«data» 0 n
    by false = refl

pub memory_back : {d : Dims} {s : Caches} → Frame d s → (e : Entry) → (e.state ≡ DIRTY → e.word < d.words) → e.«data» < value_end
    → Memory d s e.word (written_back s.memory e)
memory_back {d} {s} F e lw lv = record { words = words_back F.memory e lw lv; else = λ w n. written_else s.memory e w n }

-- the codes of a state, and what a write back leaves
pub dry_code : (s d m : ℕ) → eqb s DIRTY ≡ false → wrote (state_of s) d m ≡ m
dry_code s d m h = rw h (by (eqb s RESERVED))
  where
    by : (b : Bool) → wrote (pick b reserved valid) d m ≡ m
    by true = refl
    by false = refl

pub written_here : (m : List ℕ) (e : Entry) → (e.state ≡ DIRTY → e.word < length m)
    → get_or (written_back m e) e.word 0 ≡ wrote (state_of e.state) e.«data» (get_or m e.word 0)
unfolding written_back
written_here m e l = by (eqb e.state DIRTY) refl
  where
    by : (b : Bool) → eqb e.state DIRTY ≡ b
        → get_or (pick b (set m e.word e.«data») m) e.word 0 ≡ wrote (state_of e.state) e.«data» (get_or m e.word 0)
    by true h = get_or-set_same m e.word e.«data» 0 (l (eqb-true e.state DIRTY h)) ∙ rw h
    by false h = sym (dry_code e.state e.«data» (get_or m e.word 0) h)

-- the same, of a copy whose word is known
module _ {d : Dims} {s : Caches} (F : Frame d s) (e : Entry) {w : ℕ} (ew : e.word ≡ w) (lw : e.state ≡ DIRTY → e.word < d.words) where
  pub back_at : e.«data» < value_end → Memory d s w (written_back s.memory e)
  back_at lv = subst (λ (u : ℕ). Memory d s u (written_back s.memory e)) ew (memory_back F e lw lv)

  pub back_here : get_or (written_back s.memory e) w 0 ≡ wrote (state_of e.state) e.«data» (word_at s w)
  back_here =
      subst (λ (u : ℕ). get_or (written_back s.memory e) u 0 ≡ wrote (state_of e.state) e.«data» (word_at s u)) ew
      (written_here s.memory e (λ x. omega (arith, F.memory.long, F.size.words, lw x)))

module _ {d : Dims} {s : Caches} (F : Frame d s) {u : ℕ} {m : List ℕ} (M : Memory d s u m) (p i : ℕ) (lp : p < d.processors) (e : Entry)
    (ok : InRange e) where
  module _ (li : i < d.entries) where
    pub set_slot : SlotSet d.entries (home d) p i (slot_of e) u (decoded d s) (decoded d (entry_on s m p i e))
    set_slot = record {
      here = read_here slot_of vacant d.processors d.entries F.size.processors F.size.entries s.entries
          F.entries.long p i lp li e ok;
      else = λ j n. else p j (inr n);
      slots = λ q j n l. else q j (inl n);
      lines = λ q h. refl;
      memories = M.else;
      actives = λ q. refl;
      statuses = λ q. refl;
    }
      where
        else : (q j : ℕ) → (q ≢ p) ⊎ (j ≢ i) → (decoded d (entry_on s m p i e)).slot q j ≡ (decoded d s).slot q j
        else = read_else slot_of vacant d.processors d.entries F.size.processors F.size.entries s.entries
            F.entries.long p i lp li e ok

    pub entry_frame : Fits (EntryFits d) p i e → Frame d (entry_on s m p i e)
    entry_frame f =
        let h = F.size in
        record {
          size = F.size;
          memory = M.words;
          lines = F.lines;
          entries = copies_set F.entries p i (omega arith) (omega arith) e ok f;
          flags = F.flags;
        }

    pub entry_fit : Fits (EntryFits d) p i e → AllTidy d.entries (home d) (decoded d (entry_on s m p i e)) → Fit d (entry_on s m p i e)
    entry_fit f T = record { frame = entry_frame f; tidy = T }

  module _ (li : i < d.lines) where
    pub set_line : LineSet d.entries (home d) p i (line_of e) u (decoded d s) (decoded d (line_on s m p i e))
    set_line = record {
      here = read_here line_of blank d.processors d.lines F.size.processors F.size.lines s.lines F.lines.long p i lp li e ok;
      else = λ j n. else p j (inr n);
      lines = λ q j n. else q j (inl n);
      slots = λ q j. refl;
      memories = M.else;
      actives = λ q. refl;
      statuses = λ q. refl;
    }
      where
        else : (q j : ℕ) → (q ≢ p) ⊎ (j ≢ i) → (decoded d (line_on s m p i e)).line q j ≡ (decoded d s).line q j
        else = read_else line_of blank d.processors d.lines F.size.processors F.size.lines s.lines F.lines.long p i lp li e ok

    pub line_frame : Fits (LineFits d) p i e → Frame d (line_on s m p i e)
    line_frame f =
        let h = F.size in
        record {
          size = F.size;
          memory = M.words;
          lines = copies_set F.lines p i (omega arith) (omega arith) e ok f;
          entries = F.entries;
          flags = F.flags;
        }

    pub line_fit : Fits (LineFits d) p i e → AllTidy d.entries (home d) (decoded d (line_on s m p i e)) → Fit d (line_on s m p i e)
    line_fit f T = record { frame = line_frame f; tidy = T }
