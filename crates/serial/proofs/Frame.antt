-- What stands in the machine's lists, place by place: the part of a sound state that speaks of no two copies. Each update keeps it.
use mathlib.Core.Path.{◌≡◌, refl, ◌∙◌, ap, subst⁻¹}
use mathlib.Core.Logic.{◌≢◌, ◌⊎◌, inl, inr}
use mathlib.Core.Bool.{Bool, true, false}
use mathlib.Core.List.{List}
use Prim.Native.Nat.{ℕ, ◌≤◌, ◌<◌}
use native.Mathlib.Decide.{ℕ_discrete, dec_lt}
use native.Mathlib.Omega.{arith}
use lib.Dec.{eqb}
use lib.ListN.{length, get_or, set, length-set, get_or-eq_default}
use lib.Seq.{get_or-set_same, get_or-set_other}
use borrow.Author.Tests.{eqb-true}
use Rattle.laws.specs.Choice.{pick}
use Rattle.entry.specs.declared.Entry.{Entry}
use Rattle.entry.specs.Numbers.{INVALID, DIRTY}
use Rattle.entry.specs.Packing.{pack, no_entry, packed_end, InRange, pack_range}
use Rattle.rules.specs.declared.Dims.{Dims}
use Rattle.rules.specs.declared.Caches.{Caches}
use Rattle.rules.specs.State.{place, copy_at, with_copy, active_place, status_place, true_flag}
use Rattle.rules.specs.Own.{home}
use Rattle.rules.specs.Snoop.{written_back}
use Rattle.serial.specs.Taking.{value_end}
use Rattle.serial.proofs.Decode.{copy_here, copy_else}

-- a held line or entry
pub record LineFits (d : Dims) (p i : ℕ) (e : Entry) : Type 0 where
  pub processor : p < d.processors
  pub slot : i < d.lines
  pub held : e.state ≢ INVALID
  pub tag : e.tag ≡ INVALID
  pub word : e.word < d.words
  pub at_home : home d e.word ≡ i

pub record EntryFits (d : Dims) (p i : ℕ) (e : Entry) : Type 0 where
  pub processor : p < d.processors
  pub slot : i < d.entries
  pub held : e.state ≢ INVALID
  pub tag : e.tag ≢ INVALID
  pub word : e.word < d.words

abbrev pub Fits : (ℕ → ℕ → Entry → Type 0) → ℕ → ℕ → Entry → Type 0
Fits Ok p i e = (e ≡ no_entry) ⊎ Ok p i e

pub record Copies (Ok : ℕ → ℕ → Entry → Type 0) (l : List ℕ) : Type 0 where
  pub long : length l ≡ 512
  pub codes : (p i : ℕ) → p < 8 → i < 64 → get_or l (place p i) 0 < packed_end
  pub each : (p i : ℕ) → p < 8 → i < 64 → Fits Ok p i (copy_at l p i)

pub record Words (W : ℕ) (m : List ℕ) : Type 0 where
  pub long : length m ≡ 256
  pub small : (w : ℕ) → get_or m w 0 < value_end
  pub past : (w : ℕ) → W ≤ w → get_or m w 0 ≡ 0

pub record Flags (n : ℕ) (f : List ℕ) : Type 0 where
  pub long : length f ≡ 16
  pub codes : (p : ℕ) → p < 8 → (get_or f (active_place p) 0 ≤ true_flag) × (get_or f (status_place p) 0 ≤ true_flag)
  pub past : (p : ℕ) → p < 8 → n ≤ p → (get_or f (active_place p) 0 ≡ 0) × (get_or f (status_place p) 0 ≡ 0)

pub record Size (d : Dims) : Type 0 where
  pub processors : d.processors ≤ 8
  pub words : d.words ≤ 256
  pub some_line : 0 < d.lines
  pub lines : d.lines ≤ 64
  pub entries : d.entries ≤ 64

pub record Frame (d : Dims) (s : Caches) : Type 0 where
  pub size : Size d
  pub memory : Words d.words s.memory
  pub lines : Copies (LineFits d) s.lines
  pub entries : Copies (EntryFits d) s.entries
  pub flags : Flags d.processors s.flags

-- a copy is set
pub copies_set : {Ok : ℕ → ℕ → Entry → Type 0} {l : List ℕ} → Copies Ok l → (p i : ℕ) → p < 8 → i < 64 → (e : Entry) → InRange e → Fits Ok p i e
    → Copies Ok (with_copy l p i e)
copies_set {Ok} {l} C p i lp li e ok f = record {
  long = length-set l (place p i) (pack e) ∙ C.long;
  codes = λ q j lq lj. code q j lq lj (ℕ_discrete (place q j) (place p i));
  each = λ q j lq lj. at q j lq lj (ℕ_discrete q p) (ℕ_discrete j i);
}
  where
    code : (q j : ℕ) → q < 8 → j < 64 → Dec (place q j ≡ place p i) → get_or (with_copy l p i e) (place q j) 0 < packed_end
    code q j lq lj (yes z) =
        subst⁻¹ (λ (x : ℕ). x < packed_end)
        (ap (λ (k : ℕ). get_or (with_copy l p i e) k 0) z ∙ get_or-set_same l (place p i) (pack e) 0 (omega (arith, C.long))) (pack_range e ok)
    code q j lq lj (no z) =
        subst⁻¹ (λ (x : ℕ). x < packed_end) (get_or-set_other l (place p i) (place q j) (pack e) 0 z) (C.codes q j lq lj)

    at : (q j : ℕ) → q < 8 → j < 64 → Dec (q ≡ p) → Dec (j ≡ i) → Fits Ok q j (copy_at (with_copy l p i e) q j)
    at q j lq lj (yes x) (yes y) = rw (x, y) (subst⁻¹ (Fits Ok p i) (copy_here l C.long p i lp li e ok) f)
    at q j lq lj (yes x) (no y) = subst⁻¹ (Fits Ok q j) (copy_else l C.long p i lp li e ok q j lq lj (inr y)) (C.each q j lq lj)
    at q j lq lj (no x) y = subst⁻¹ (Fits Ok q j) (copy_else l C.long p i lp li e ok q j lq lj (inl x)) (C.each q j lq lj)

-- a word is set
pub words_set : {W : ℕ} {m : List ℕ} → Words W m → (w : ℕ) → w < W → (v : ℕ) → v < value_end → Words W (set m w v)
words_set {W} {m} M w lw v lv = record {
  long = length-set m w v ∙ M.long;
  small = λ u. sm u (ℕ_discrete u w) (dec_lt w (length m));
  past = λ u l. get_or-set_other m w u v 0 (λ z. omega arith) ∙ M.past u l;
}
  where
    sm : (u : ℕ) → Dec (u ≡ w) → Dec (w < length m) → get_or (set m w v) u 0 < value_end
    sm u (yes z) (yes l) = subst⁻¹ (λ (x : ℕ). x < value_end) (ap (λ (k : ℕ). get_or (set m w v) k 0) z ∙ get_or-set_same m w v 0 l) lv
    sm u (yes z) (no l) =
        subst⁻¹ (λ (x : ℕ). x < value_end) (get_or-eq_default (set m w v) 0 {n = u} (omega (arith, length-set m w v))) (omega arith)
    sm u (no z) l = subst⁻¹ (λ (x : ℕ). x < value_end) (get_or-set_other m w u v 0 z) (M.small u)

-- a DIRTY copy is written back
pub words_back : {W : ℕ} {m : List ℕ} → Words W m → (e : Entry) → (e.state ≡ DIRTY → e.word < W) → e.«data» < value_end → Words W (written_back m e)
unfolding written_back
words_back {W} {m} M e lw lv = by (eqb e.state DIRTY) refl
  where
    by : (b : Bool) → eqb e.state DIRTY ≡ b → Words W (pick b (set m e.word e.«data») m)
    by true h = words_set M e.word (lw (eqb-true e.state DIRTY h)) e.«data» lv
    by false h = M

-- a DIRTY copy's word is the machine's
pub fits_word : {d : Dims} {p i : ℕ} {e : Entry} → Fits (EntryFits d) p i e → e.state ≡ DIRTY → e.word < d.words
fits_word (inl z) h = absurd (omega (arith, ap (λ (x : Entry). x.state) z))
fits_word (inr f) h = f.word

pub line_word : {d : Dims} {p i : ℕ} {e : Entry} → Fits (LineFits d) p i e → e.state ≡ DIRTY → e.word < d.words
line_word (inl z) h = absurd (omega (arith, ap (λ (x : Entry). x.state) z))
line_word (inr f) h = f.word
