-- A sound state is fit: what document 01's clauses say of each place, and of the copies within a processor.
use mathlib.Core.Path.{◌≡◌, refl, sym, ◌∙◌, ap}
use mathlib.Core.Logic.{◌≢◌, ◌⊎◌, inl, inr}
use mathlib.Core.Bool.{Bool, true, false, false≢true}
use Prim.Native.Nat.{ℕ, ◌≤◌, ◌<◌}
use native.Mathlib.Decide.{ℕ_discrete, dec_lt}
use native.Mathlib.Omega.{arith}
use lib.Dec.{eqb}
use lib.ListN.{get_or, get_or-eq_default}
use borrow.Author.Tests.{eqb-true, eqb-false}
use Rattle.laws.specs.Choice.{pick}
use Rattle.entry.specs.declared.Entry.{Entry}
use Rattle.entry.specs.Numbers.{INVALID, NORMAL, BACKUP, TENTATIVE}
use Rattle.rules.specs.declared.Dims.{Dims}
use Rattle.rules.specs.declared.Caches.{Caches}
use Rattle.rules.specs.State.{line_at, entry_at, word_at}
use Rattle.rules.specs.Own.{home}
use Rattle.rules.specs.Sound.{Sound, HasCopy}
use Rattle.theory.proofs.Cache.{vacant, blank, filled, is_self, is_true, main_on, back_on, tentative_on, regular_on, Tidy, not-true}
use Rattle.theory.proofs.Looks.{tidy_empty}
use Rattle.serial.specs.Taking.{value_end}
use Rattle.serial.proofs.Decode.{state_of, slot_by, slot_of, line_of, decoded, read_at, read_out}
use Rattle.serial.proofs.Frame.{LineFits, EntryFits, Fits, Size, Frame}
use Rattle.serial.proofs.Set.{Fit}
use Rattle.serial.proofs.Sizes.{size_of}
use Rattle.serial.proofs.Find.{home_in}

-- what an entry's slot claims, the entry says
pub main_says : (w : ℕ) (e : Entry) → main_on w (slot_of e) ≡ true → ((e.tag ≡ NORMAL) ⊎ (e.tag ≡ TENTATIVE)) × (e.word ≡ w)
main_says w e h = by (eqb e.tag NORMAL) (eqb e.tag BACKUP) (eqb e.tag TENTATIVE) refl refl h
  where
    by : (n b t : Bool) → eqb e.tag NORMAL ≡ n → eqb e.tag TENTATIVE ≡ t → main_on w (slot_by n b t e) ≡ true
        → ((e.tag ≡ NORMAL) ⊎ (e.tag ≡ TENTATIVE)) × (e.word ≡ w)
    by true b t hn ht h = (inl (eqb-true e.tag NORMAL hn), is_true e.word w h)
    by false true t hn ht h = absurd (false≢true h)
    by false false true hn ht h = (inr (eqb-true e.tag TENTATIVE ht), is_true e.word w h)
    by false false false hn ht h = absurd (false≢true h)

pub backup_says : (w : ℕ) (e : Entry) → back_on w (slot_of e) ≡ true → (e.tag ≡ BACKUP) × (e.word ≡ w)
backup_says w e h = by (eqb e.tag NORMAL) (eqb e.tag BACKUP) (eqb e.tag TENTATIVE) refl h
  where
    by : (n b t : Bool) → eqb e.tag BACKUP ≡ b → back_on w (slot_by n b t e) ≡ true → (e.tag ≡ BACKUP) × (e.word ≡ w)
    by true b t hb h = absurd (false≢true h)
    by false true t hb h = (eqb-true e.tag BACKUP hb, is_true e.word w h)
    by false false true hb h = absurd (false≢true h)
    by false false false hb h = absurd (false≢true h)

pub line_says : (w : ℕ) (e : Entry) → regular_on w (line_of e) ≡ true → (e.state ≢ INVALID) × (e.word ≡ w)
line_says w e h = by (eqb e.state INVALID) refl h
  where
    by : (z : Bool) → eqb e.state INVALID ≡ z → regular_on w (pick z blank (filled (state_of e.state) e.word e.«data»)) ≡ true
        → (e.state ≢ INVALID) × (e.word ≡ w)
    by true hz h = absurd (false≢true h)
    by false hz h = (eqb-false e.state INVALID hz, is_true e.word w h)

module _ {d : Dims} {s : Caches} (Z : Sound d s) (values : (w : ℕ) → word_at s w < value_end) where
  size : Size d
  size = size_of d Z.dimensions

  line_of_lem : (p i : ℕ) → p < 8 → i < 64 → HasCopy s p (line_at s p i)
  line_of_lem p i lp li = record { slot = i; inside = li; here = inl refl }

  entry_of : (p i : ℕ) → p < 8 → i < 64 → HasCopy s p (entry_at s p i)
  entry_of p i lp li = record { slot = i; inside = li; here = inr refl }

  line_fit : (p i : ℕ) → p < 8 → i < 64 → Fits (LineFits d) p i (line_at s p i)
  unfolding home
  line_fit p i lp li = by (ℕ_discrete (line_at s p i).state INVALID)
    where
      by : Dec ((line_at s p i).state ≡ INVALID) → Fits (LineFits d) p i (line_at s p i)
      by (yes z) = inl (Z.zero p (line_at s p i) lp (line_of_lem p i lp li) z)
      by (no n) =
          let x = Z.line_inside p i lp li n in
          inr (record {
            processor = x.0;
            slot = x.1;
            held = n;
            tag = (Z.line_codes p i lp li).1;
            word = Z.words p (line_at s p i) lp (line_of_lem p i lp li) n;
            at_home = Z.home p i lp li n;
          })

  entry_fit : (p i : ℕ) → p < 8 → i < 64 → Fits (EntryFits d) p i (entry_at s p i)
  entry_fit p i lp li = by (ℕ_discrete (entry_at s p i).state INVALID)
    where
      by : Dec ((entry_at s p i).state ≡ INVALID) → Fits (EntryFits d) p i (entry_at s p i)
      by (yes z) = inl (Z.zero p (entry_at s p i) lp (entry_of p i lp li) z)
      by (no n) =
          let x = Z.entry_inside p i lp li n in
          inr (record {
            processor = x.0;
            slot = x.1;
            held = n;
            tag = Z.together p i lp li n;
            word = Z.words p (entry_at s p i) lp (entry_of p i lp li) n;
          })

  frame : Frame d s
  frame = record {
    size = size;
    memory = record { long = Z.lengths.memory; small = values; past = past };
    lines = record { long = Z.lengths.lines; codes = λ p i lp li. (Z.line_codes p i lp li).0; each = line_fit };
    entries = record { long = Z.lengths.entries; codes = Z.entry_codes; each = entry_fit };
    flags = record { long = Z.lengths.flags; codes = Z.flag_codes; past = Z.flags_inside };
  }
    where
      past : (w : ℕ) → d.words ≤ w → get_or s.memory w 0 ≡ 0
      past w l = elim (dec_lt w 256)
          [ yes h ↦ Z.memory_inside w h l | no h ↦ get_or-eq_default s.memory 0 {n = w} (omega (arith, Z.lengths.memory)) ]

  -- an entry that is tagged is held
  held : (p i tag : ℕ) → p < 8 → i < 64 → (entry_at s p i).tag ≡ tag → tag ≢ INVALID → (entry_at s p i).state ≢ INVALID
  held p i tag lp li t n z = n (sym t ∙ ap (λ (e : Entry). e.tag) (Z.zero p (entry_at s p i) lp (entry_of p i lp li) z))

  module _ (p : ℕ) (lp : p < d.processors) where
    lp8 : p < 8
    lp8 = omega (arith, size.processors)

    slot_at : (i : ℕ) → i < d.entries → (decoded d s).slot p i ≡ slot_of (entry_at s p i)
    slot_at i li = read_at slot_of vacant d.processors d.entries s.entries p i lp li

    li64 : (i : ℕ) → i < d.entries → i < 64
    li64 i l = omega (arith, size.entries)

    -- a main entry, as Sound says it
    main_of : (w i : ℕ) → i < d.entries → main_on w ((decoded d s).slot p i) ≡ true
        → ((entry_at s p i).state ≢ INVALID) × ((entry_at s p i).tag ≢ BACKUP) × ((entry_at s p i).word ≡ w)
    main_of w i l h = by (main_says w (entry_at s p i) (rw (slot_at i l) at h))
      where
        by : (((entry_at s p i).tag ≡ NORMAL) ⊎ ((entry_at s p i).tag ≡ TENTATIVE)) × ((entry_at s p i).word ≡ w)
            → ((entry_at s p i).state ≢ INVALID) × ((entry_at s p i).tag ≢ BACKUP) × ((entry_at s p i).word ≡ w)
        by (inl t, e) = (held p i NORMAL lp8 (li64 i l) t (λ z. omega arith), (λ z. omega arith), e)
        by (inr t, e) = (held p i TENTATIVE lp8 (li64 i l) t (λ z. omega arith), (λ z. omega arith), e)

    tidy_in : Tidy d.entries (home d) ((decoded d s).slot p) ((decoded d s).line p)
    tidy_in = record {
      mains = λ w i j l l' h h'.
          let x = main_of w i l h in
          let y = main_of w j l' h' in
          Z.one_main p i j lp8 (li64 i l) (li64 j l') x.0 y.0 x.1 y.1 (x.2 ∙ sym y.2);
      backs = λ w i j l l' h h'.
          let x = backup_says w (entry_at s p i) (rw (slot_at i l) at h) in
          let y = backup_says w (entry_at s p j) (rw (slot_at j l') at h') in
          Z.one_backup p i j lp8 (li64 i l) (li64 j l') (held p i BACKUP lp8 (li64 i l) x.0 (λ z. omega arith))
          (held p j BACKUP lp8 (li64 j l') y.0 (λ z. omega arith)) x.0 y.0 (x.1 ∙ sym y.1);
      apart = apart;
      paired = paired;
    }
      where
        apart : (w i : ℕ) → i < d.entries → main_on w ((decoded d s).slot p i) ≡ true → regular_on w ((decoded d s).line p (home d w)) ≡ false
        apart w i l h = not-true _ (λ r.
            let x = main_of w i l h in
            let q = read_at line_of blank d.processors d.lines s.lines p (home d w) lp (home_in size w) in
            let y = line_says w (line_at s p (home d w)) (rw q at r) in
            Z.regular_or_other p (home d w) i lp8 (omega (arith, home_in size w, size.lines)) (li64 i l) y.0 x.0 x.1 (y.1 ∙ sym x.2))

        paired : (w j : ℕ) → j < d.entries → back_on w ((decoded d s).slot p j) ≡ true → (i : ℕ) × (i < d.entries)
            × (tentative_on w ((decoded d s).slot p i) ≡ true)
        paired w j l h =
            let x = backup_says w (entry_at s p j) (rw (slot_at j l) at h) in
            let t = Z.backup_needs p j lp8 (li64 j l) (held p j BACKUP lp8 (li64 j l) x.0 (λ z. omega arith)) x.0 in
            let n = held p t.slot TENTATIVE lp8 t.inside t.tag (λ z. omega arith) in
            let li = (Z.entry_inside p t.slot lp8 t.inside n).1 in
            (t.slot, li, rw (slot_at t.slot li, t.tag, t.word ∙ x.1) (is_self w))

  pub sound_fit : Fit d s
  sound_fit = record {
    frame = frame;
    tidy = λ p. elim (dec_lt p d.processors) [ yes l ↦ tidy_in p l | no l ↦ out p (omega arith) ];
  }
    where
      out : (p : ℕ) → d.processors ≤ p → Tidy d.entries (home d) ((decoded d s).slot p) ((decoded d s).line p)
      out p l =
          tidy_empty d.entries (home d) ((decoded d s).slot p) ((decoded d s).line p)
          (λ i. read_out slot_of vacant d.processors d.entries s.entries p i l)
