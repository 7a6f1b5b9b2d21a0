-- The machine's lists read as the theory's slots and lines. What lies outside the dimensions reads as empty, whatever stands there.
use mathlib.Core.Path.{◌≡◌, refl, ◌∙◌, ap}
use mathlib.Core.Logic.{◌≢◌, ◌⊎◌, inl, inr}
use mathlib.Core.Bool.{Bool, true, false, not}
use mathlib.Core.List.{List}
use Prim.Native.Nat.{ℕ, ◌≤◌, ◌<◌}
use native.Mathlib.Omega.{arith}
use lib.Dec.{eqb, ltb}
use lib.ListN.{length}
use lib.Seq.{get_or-set_same, get_or-set_other}
use borrow.Author.Tests.{lt-ltb, le-ltb, ltb-true}
use Rattle.laws.specs.Choice.{pick, both}
use Rattle.entry.specs.declared.Entry.{Entry}
use Rattle.entry.specs.Numbers.{INVALID, RESERVED, DIRTY, NORMAL, BACKUP, TENTATIVE}
use Rattle.entry.specs.Packing.{pack, unpack, InRange, unpack_pack}
use Rattle.rules.specs.declared.Dims.{Dims}
use Rattle.rules.specs.declared.Caches.{Caches}
use Rattle.rules.specs.State.{place, copy_at, with_copy, word_at, false_flag, active_flag, TSTATUS}
use Rattle.rules.specs.Own.{home}
use Rattle.theory.specs.View.{LineState, valid, reserved, dirty, View}
use Rattle.theory.proofs.Cache.{Slot, vacant, slot_normal, slotBackup, slot_tentative, Line, blank, filled}
use Rattle.theory.proofs.Updates.{State, view}

abbrev pub state_of : ℕ → LineState
state_of n = pick (eqb n DIRTY) dirty (pick (eqb n RESERVED) reserved valid)

abbrev pub slot_by : Bool → Bool → Bool → Entry → Slot
slot_by n b t e =
    pick n (slot_normal (state_of e.state) e.word e.«data»)
    (pick b (slotBackup (state_of e.state) e.word e.«data»)
    (pick t (slot_tentative (state_of e.state) e.word e.«data» (eqb e.state DIRTY)) vacant))

-- the tag alone says what an entry is; a DIRTY tentative one may have been stored to
abbrev pub slot_of : Entry → Slot
slot_of e = slot_by (eqb e.tag NORMAL) (eqb e.tag BACKUP) (eqb e.tag TENTATIVE) e

abbrev pub line_of : Entry → Line
line_of e = pick (eqb e.state INVALID) blank (filled (state_of e.state) e.word e.«data»)

-- n processors with m copies each, read by f
unfoldable pub read_by : {A : Type 0} → (Entry → A) → A → ℕ → ℕ → List ℕ → ℕ → ℕ → A
read_by f z n m l p i = pick (both (ltb p n) (ltb i m)) (f (copy_at l p i)) z

abbrev pub decoded : Dims → Caches → State
decoded d s = record {
  memory = λ w. word_at s w;
  slot = λ p i. read_by slot_of vacant d.processors d.entries s.entries p i;
  line = λ p i. read_by line_of blank d.processors d.lines s.lines p i;
  active = λ p. both (ltb p d.processors) (not (eqb (active_flag s.flags p) false_flag));
  status = λ p. both (ltb p d.processors) (TSTATUS s p);
}

abbrev pub seen : Dims → Caches → View
seen d s = view d.entries (home d) (decoded d s)

-- one copy set
module _ (l : List ℕ) (len : length l ≡ 512) (p i : ℕ) (lp : p < 8) (li : i < 64) (e : Entry) (ok : InRange e) where
  pub copy_here : copy_at (with_copy l p i e) p i ≡ e
  copy_here = ap unpack (get_or-set_same l (place p i) (pack e) 0 (omega arith)) ∙ unpack_pack e ok

  pub copy_else : (q j : ℕ) → q < 8 → j < 64 → (q ≢ p) ⊎ (j ≢ i) → copy_at (with_copy l p i e) q j ≡ copy_at l q j
  copy_else q j lq lj n = ap unpack (get_or-set_other l (place p i) (place q j) (pack e) 0 (λ z. far n z))
    where
      far : (q ≢ p) ⊎ (j ≢ i) → place q j ≡ place p i → ⊥
      far (inl n) z = n (omega arith)
      far (inr n) z = n (omega arith)

module _ {A : Type 0} (f : Entry → A) (z : A) (n m : ℕ) where
  pub read_at : (l : List ℕ) (p i : ℕ) → p < n → i < m → read_by f z n m l p i ≡ f (copy_at l p i)
  unfolding read_by
  read_at l p i lp li = rw (lt-ltb p n lp, lt-ltb i m li)

  pub read_out : (l : List ℕ) (p i : ℕ) → n ≤ p → read_by f z n m l p i ≡ z
  unfolding read_by
  read_out l p i lp = rw (le-ltb p n lp)

  -- only copies within the dimensions are read
  pub read_same : (l l' : List ℕ) (p i : ℕ) → (p < n → i < m → copy_at l' p i ≡ copy_at l p i) → read_by f z n m l' p i ≡ read_by f z n m l p i
  unfolding read_by
  read_same l l' p i h = by (ltb p n) (ltb i m) refl refl
    where
      by : (x y : Bool) → ltb p n ≡ x → ltb i m ≡ y → pick (both x y) (f (copy_at l' p i)) z ≡ pick (both x y) (f (copy_at l p i)) z
      by true true hx hy = ap f (h (ltb-true p n hx) (ltb-true i m hy))
      by true false hx hy = refl
      by false y hx hy = refl

  module _ (ln : n ≤ 8) (lm : m ≤ 64) (l : List ℕ) (len : length l ≡ 512) (p i : ℕ) (lp : p < n) (li : i < m) (e : Entry) (ok : InRange e) where
    pub read_here : read_by f z n m (with_copy l p i e) p i ≡ f e
    read_here = read_at (with_copy l p i e) p i lp li ∙ ap f (copy_here l len p i (omega arith) (omega arith) e ok)

    pub read_else : (q j : ℕ) → (q ≢ p) ⊎ (j ≢ i) → read_by f z n m (with_copy l p i e) q j ≡ read_by f z n m l q j
    read_else q j x =
        read_same l (with_copy l p i e) q j
        (λ lq lj. copy_else l len p i (omega arith) (omega arith) e ok q j (omega arith) (omega arith) x)
