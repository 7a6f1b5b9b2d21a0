-- A fresh machine is fit, its caches are empty, and it is sound.
use mathlib.Core.Path.{◌≡◌, refl, sym, ◌∙◌, ap, subst⁻¹}
use mathlib.Core.Logic.{inl}
use mathlib.Core.Bool.{Bool, true, false, true≢false}
use mathlib.Core.List.{List, [], ◌∷◌, ◌++◌}
use Prim.Native.Nat.{ℕ, ◌+◌, ◌-◌, ◌≤◌, ◌<◌}
use native.Mathlib.Decide.{dec_lt}
use native.Mathlib.Nat.{zero-add, suc-add}
use native.Mathlib.Omega.{arith}
use lib.Dec.{eqb, ltb}
use lib.ListN.{length, get_or, replicate, length-append, length-replicate, get_or-replicate, get_or-eq_default, get_or-append}
use borrow.Author.Tests.{eqb-true, eqb-false}
use Rattle.laws.specs.Choice.{pick, both}
use Rattle.entry.specs.declared.Entry.{Entry}
use Rattle.entry.specs.Packing.{unpack, packed_end}
use Rattle.rules.specs.declared.Dims.{Dims}
use Rattle.rules.specs.declared.Machine.{Machine}
use Rattle.rules.specs.State.{place, copy_at, machine_of, active_place, status_place, false_flag, true_flag}
use Rattle.rules.specs.Own.{home}
use Rattle.entry.specs.Refusals.{accepted, bad_memory}
use Rattle.rules.specs.Making.{dims_refusal, make_refusal, padded, fresh_flags, fresh, smallest, made, make_of}
use Rattle.rules.specs.Sound.{Sound}
use Rattle.theory.proofs.Cache.{vacant, blank}
use Rattle.theory.proofs.Settled.{Bare, bare_inv, agree→coherent}
use Rattle.theory.proofs.Looks.{tidy_empty, look_empty}
use Rattle.serial.specs.Taking.{value_end, Values}
use Rattle.serial.proofs.Decode.{slot_of, line_of, read_by, decoded, seen}
use Rattle.serial.proofs.Frame.{LineFits, EntryFits, Copies, Words, Flags, Size, Frame}
use Rattle.serial.proofs.Set.{Fit}
use Rattle.serial.proofs.Sizes.{size_of}
use Rattle.serial.proofs.Requests.{beyond_none}
use Rattle.serial.proofs.FitSound.{fit_sound}

zeros : (k i : ℕ) → get_or (replicate k false_flag) i 0 ≡ 0
zeros k i = elim (dec_lt i k) [
  | yes l ↦ get_or-replicate k i false_flag 0 l
  | no l ↦ get_or-eq_default (replicate k false_flag) 0 {n = i}
      (omega (arith, length-replicate k false_flag))
]

-- what follows a list
skip : (xs ys : List ℕ) (n : ℕ) → get_or (xs ++ ys) (length xs + n) 0 ≡ get_or ys n 0
skip [] ys n = rw zero-add
skip (x ∷ xs) ys n = rw suc-add (skip xs ys n)

past : (l : List ℕ) (k i : ℕ) → length l ≤ i → get_or (l ++ replicate k 0) i 0 ≡ 0
past l k i h =
    let e : i ≡ length l + (i - length l) = omega arith in
    ap (λ (j : ℕ). get_or (l ++ replicate k 0) j 0) e ∙ (skip l (replicate k 0) (i - length l) ∙ zeros k (i - length l))

empty_list : (Ok : ℕ → ℕ → Entry → Type 0) → Copies Ok (replicate 512 0)
empty_list Ok = record {
  long = length-replicate 512 false_flag;
  codes = λ p i lp li. subst⁻¹ (λ (x : ℕ). x < packed_end) (zeros 512 (place p i)) (omega arith);
  each = λ p i lp li. inl (ap unpack (zeros 512 (place p i)));
}

module _ (d : Dims) (memory : List ℕ) (dims : dims_refusal d ≡ accepted) (long : length memory ≡ d.words) (values : Values memory) where
  size : Size d
  size = size_of d dims

  words : Words d.words (padded 256 memory)
  words = record {
    long = length-append memory (replicate (256 - length memory) 0) ∙ omega (arith, length-replicate (256 - length memory) false_flag, size.words);
    small = λ w. elim (dec_lt w (length memory)) [
      | yes l ↦ subst⁻¹ (λ (x : ℕ). x < value_end) (get_or-append memory (replicate (256 - length memory) 0) 0 w l) (values w)
      | no l ↦ subst⁻¹ (λ (x : ℕ). x < value_end) (past memory (256 - length memory) w (omega arith)) (omega arith)
    ];
    past = λ w l. past memory (256 - length memory) w (omega arith);
  }

  active_at : (p : ℕ) → get_or (fresh_flags d.processors) (active_place p) 0 ≡ 0
  active_at p =
      get_or-append (replicate 8 false_flag) (padded 8 (replicate d.processors true_flag)) 0 (active_place p)
      (omega (arith, length-replicate 8 false_flag)) ∙
      get_or-replicate 8 (active_place p) false_flag 0 (omega arith)

  status_at : (p : ℕ) → p < 8 → get_or (fresh_flags d.processors) (status_place p) 0 ≡ get_or (padded 8 (replicate d.processors true_flag)) p 0
  status_at p l =
      let e : status_place p ≡ length (replicate 8 false_flag) + p = omega (arith, length-replicate 8 false_flag) in
      ap (λ (j : ℕ). get_or (fresh_flags d.processors) j 0) e ∙ skip (replicate 8 false_flag) (padded 8 (replicate d.processors true_flag)) p

  up_at : (p : ℕ) → p < d.processors → get_or (padded 8 (replicate d.processors true_flag)) p 0 ≡ true_flag
  up_at p l =
      get_or-append (replicate d.processors true_flag) (replicate (8 - length (replicate d.processors true_flag)) 0) 0 p
      (omega (arith, length-replicate d.processors true_flag)) ∙
      get_or-replicate d.processors p true_flag 0 l

  off_at : (p : ℕ) → d.processors ≤ p → get_or (padded 8 (replicate d.processors true_flag)) p 0 ≡ 0
  off_at p l =
      past (replicate d.processors true_flag) (8 - length (replicate d.processors true_flag)) p
      (omega (arith, length-replicate d.processors true_flag))

  flags : Flags d.processors (fresh_flags d.processors)
  flags = record {
    long =
        length-append (replicate 8 false_flag) (padded 8 (replicate d.processors true_flag)) ∙
        omega (
          arith,
          length-replicate 8 false_flag,
          length-append (replicate d.processors true_flag) (replicate (8 - length (replicate d.processors true_flag)) 0),
          length-replicate d.processors true_flag,
          length-replicate (8 - length (replicate d.processors true_flag)) false_flag,
          size.processors,
        );
    codes = λ p l. (
      omega (arith, active_at p),
      elim (dec_lt p d.processors)
          [ yes h ↦ omega (arith, status_at p l, up_at p h) | no h ↦ omega (arith, status_at p l, off_at p (omega arith)) ],
    );
    past = λ p l h. (active_at p, status_at p l ∙ off_at p h);
  }

  frame : Frame d (fresh d memory)
  unfolding fresh
  frame = record { size = size; memory = words; lines = empty_list (LineFits d); entries = empty_list (EntryFits d); flags = flags }

  slots : (p i : ℕ) → (decoded d (fresh d memory)).slot p i ≡ vacant
  unfolding fresh read_by
  slots p i = by (both (ltb p d.processors) (ltb i d.entries))
    where
      by : (b : Bool) → pick b (slot_of (copy_at (replicate 512 0) p i)) vacant ≡ vacant
      by true = ap slot_of (ap unpack (zeros 512 (place p i)))
      by false = refl

  lines : (p i : ℕ) → (decoded d (fresh d memory)).line p i ≡ blank
  unfolding fresh read_by
  lines p i = by (both (ltb p d.processors) (ltb i d.lines))
    where
      by : (b : Bool) → pick b (line_of (copy_at (replicate 512 0) p i)) blank ≡ blank
      by true = ap line_of (ap unpack (zeros 512 (place p i)))
      by false = refl

  pub fresh_fit : Fit d (fresh d memory)
  fresh_fit = record {
    frame = frame;
    tidy = λ p. tidy_empty d.entries (home d) ((decoded d (fresh d memory)).slot p) ((decoded d (fresh d memory)).line p) (slots p);
  }

  pub fresh_bare : Bare (seen d (fresh d memory))
  fresh_bare w p = look_empty d.entries (home d) ((decoded d (fresh d memory)).slot p) ((decoded d (fresh d memory)).line p) (slots p) (lines p) w

  pub fresh_sound : Sound d (fresh d memory)
  fresh_sound =
      fit_sound fresh_fit (agree→coherent d.processors (bare_inv (seen d (fresh d memory)) fresh_bare).agree
      (beyond_none d (fresh d memory))) dims

  -- the memory that the caller gave
  pub fresh_memory : (w : ℕ) → get_or (fresh d memory).memory w 0 ≡ get_or memory w 0
  unfolding fresh
  fresh_memory w = elim (dec_lt w (length memory)) [
    | yes l ↦ get_or-append memory (replicate (256 - length memory) 0) 0 w l
    | no l ↦ past memory (256 - length memory) w (omega arith) ∙ sym (get_or-eq_default memory 0 {n = w} (omega arith))
  ]

-- what a making that is not refused says
pub record MadeOf (d : Dims) (memory : List ℕ) : Type 0 where
  pub dims : dims_refusal d ≡ accepted
  pub long : length memory ≡ d.words
  pub machine : (make_of d memory).machine ≡ machine_of d (fresh d memory)

pub made_of : (d : Dims) (memory : List ℕ) → (make_of d memory).refusal ≡ accepted → MadeOf d memory
unfolding make_of make_refusal
made_of d memory e = by (eqb (dims_refusal d) accepted) (eqb (length memory) d.words) refl refl e
  where
    m : Machine
    m = machine_of d (fresh d memory)

    by : (a b : Bool) → eqb (dims_refusal d) accepted ≡ a → eqb (length memory) d.words ≡ b
        → (pick (eqb (pick a (pick b accepted bad_memory) (dims_refusal d)) accepted) (made accepted m)
        (made (pick a (pick b accepted bad_memory) (dims_refusal d)) smallest)).refusal ≡ accepted
        → MadeOf d memory
    by true true ha hb e = record {
      dims = eqb-true (dims_refusal d) accepted ha;
      long = eqb-true (length memory) d.words hb;
      machine = rw (ha, hb);
    }
    by true false ha hb e = absurd (omega (arith, e))
    by false b ha hb e = absurd (no (eqb (dims_refusal d) accepted) ha e)
      where
        no : (c : Bool) → c ≡ false → (pick c (made accepted m) (made (dims_refusal d) smallest)).refusal ≡ accepted → ⊥
        no true h e = true≢false h
        no false h e = eqb-false (dims_refusal d) accepted ha e
