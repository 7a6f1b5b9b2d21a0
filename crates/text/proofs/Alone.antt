-- The record of places of a text is the record of the bytes there by themselves, cut at its commas. Assumes nothing.
use mathlib.Core.Path.{◌≡◌, refl, sym, ◌∙◌, ap}
use mathlib.Core.Logic.{◌⊎◌, inl, inr}
use mathlib.Core.Bool.{Bool, true, false, not}
use mathlib.Core.List.{List, [], ◌∷◌, map}
use denote.Bor.{Bor}
use Prim.Native.Nat.{ℕ, ◌+◌, ◌-◌, ◌≤◌, ◌<◌}
use native.Mathlib.Omega.{arith}
use native.Mathlib.Nat.{sub-zero, zero-add}
use native.Mathlib.Decide.{ℕ_discrete}
use borrow.Author.Tests.{le-ltb, le-leb, lt-leb, eq-eqb, ne_eqb}
use lib.Dec.{eqb, leb, ltb}
use lib.ListN.{length, get_or, drop}
use Rattle.std.specs.Prelude.{Option, Some, None, Result, Err, bytes_eq, slice_range, option_map}
use Rattle.std.proofs.lemmas.List.{drop-take, drop-drop, take-take}
use Rattle.std.proofs.lemmas.List.Edits.{get_or-between, length-between}
use Rattle.laws.specs.Choice.{pick}
use Rattle.laws.specs.Search.{first_from}
use Rattle.entry.specs.Refusals.{malformed, unless}
use Rattle.text.specs.declared.records.Parsed.{Parsed}
use Rattle.text.specs.Marks.{COMMA, QUOTE_MARK, is_byte, find_of}
use Rattle.text.specs.Decimals.{field_of}
use Rattle.text.specs.Names.{unlike_at, unlike_of, same_text, step_names, is_name, named_step}
use Rattle.text.specs.Records.{Commas, plain_of, split_of, parsed_of, record_in, record_of, fields_of}
use Rattle.text.proofs.FieldBytes.{field_part, field_past}
use Rattle.text.proofs.Parts.{first_part, alike, not_alike, same_whole}
use Rattle.text.proofs.Fields.{ltb_same, leb_not, fields_at, fields_split}
use Rattle.text.proofs.Inside.{inside}

-- A field, a name and a record that stand by themselves.
abbrev pub whole_field : List ℕ → Option ℕ
whole_field p = field_of p 0 (length p)

abbrev pub whole_name : List ℕ → Option ℕ
whole_name p = named_step p 0 (length p)

abbrev pub record_alone : Option (List (List ℕ)) → Result Parsed ℕ
record_alone (Some (g ∷ (c ∷ (o ∷ (w ∷ (v ∷ [])))))) =
    parsed_of (whole_field g) (whole_field c) (whole_field w) (whole_field v) (whole_name o)
record_alone _ = Err malformed

-- A part of a part.
pub part_part : (s : List ℕ) (from end i j : ℕ) → i ≤ j → from + j ≤ end →
    slice_range (slice_range s from end) i j ≡ slice_range s (from + i) (from + j)
part_part s from end i j h l =
    let q : end - from ≡ i + (end - from - i) = omega arith in
    let k : from + j - (from + i) ≡ j - i = omega arith in
    rw (q, drop-take i (end - from - i) (drop from s), drop-drop i from s, k) (take-take (j - i) (end - from - i) (drop (from + i) s) (omega arith))

-- A name.
pub same_part : (s : List ℕ) (from end : ℕ) (name : List ℕ) → from ≤ end → end ≤ length s →
    same_text s from end name ≡ same_text (slice_range s from end) 0 (length (slice_range s from end)) name
unfolding same_text unlike_of
same_part s from end name h l = rw (le-ltb end from h) (by (ℕ_discrete (end - from) (length name))) ∙ sym (same_whole p name)
  where
    p : List ℕ
    p = slice_range s from end

    n : length p ≡ end - from
    n = length-between s from end l

    by : Dec (end - from ≡ length name) →
        pick (not (eqb (end - from) (length name))) false (eqb (first_from (unlike_at s from name) 0 (length name)) (length name)) ≡ bytes_eq p name
    by (yes e) =
        let all = alike (unlike_at s from name) p name 0 (n ∙ e) (λ k b. rw (zero-add k, get_or-between s from end k 0 (omega arith)) refl) in
        rw (eq-eqb (end - from) (length name) e) (rw (zero-add (length name)) at all)
    by (no m) = rw (ne_eqb (end - from) (length name) m) (sym (not_alike p name (λ e. m (sym n ∙ e))))

pub name_part : (s : List ℕ) (from end : ℕ) → from ≤ end → end ≤ length s →
    named_step s from end ≡ named_step (slice_range s from end) 0 (length (slice_range s from end))
unfolding named_step is_name
name_part s from end h l =
    let p = slice_range s from end in
    rw (
      first_part (is_name s from end) (is_name p 0 (length p)) 0 0 0 9 (omega arith)
          (λ k a b. rw (zero-add k) (same_part s from end (get_or step_names k []) h l)),
      zero-add,
    ) refl

module _ (s : List ℕ) (from end : ℕ) (h : from ≤ end) (l : end ≤ length s) where
  abbrev pub part : List ℕ
  part = slice_range s from end

  pub find_part : (x j i : ℕ) → j ≡ from + i → find_of s j end x ≡ from + find_of part i (length part) x
  unfolding find_of
  find_part x j i e =
      let n : end - j ≡ length part - i = omega (arith, length-between s from end l) in
      rw n
      (first_part (is_byte s x) (is_byte part x) from i j (length part - i) e
      (λ k a b. ap (λ (y : ℕ). eqb y x) (sym (get_or-between s from end k 0 (omega (arith, length-between s from end l))))))

  abbrev pub moved : Commas → Commas
  moved cs = record { a = from + cs.a; b = from + cs.b; c = from + cs.c; d = from + cs.d }

  pub same_shape : (P A B C D E : Bool) (x y : Commas) → x ≡ moved y →
      unless P None (unless A None (unless B None (unless C None (unless D None (unless E None (Some x)))))) ≡
      option_map moved (unless P None (unless A None (unless B None (unless C None (unless D None (unless E None (Some y)))))))
  same_shape false A B C D E x y e = refl
  same_shape true false B C D E x y e = refl
  same_shape true true false C D E x y e = refl
  same_shape true true true false D E x y e = refl
  same_shape true true true true false E x y e = refl
  same_shape true true true true true false x y e = refl
  same_shape true true true true true true x y e = ap Some e

  pub ltb_part : (k m : ℕ) → k ≡ from + m → ltb k end ≡ ltb m (length part)
  ltb_part k m e =
      ltb_same k end m (length part) (λ a. omega (arith, length-between s from end l)) (λ a. omega (arith, length-between s from end l))

  pub leb_part : (k m : ℕ) → k ≡ from + m → leb end k ≡ leb (length part) m
  leb_part k m e = leb_not end k ∙ ap not (ltb_part k m e) ∙ sym (leb_not (length part) m)

  pub plain_part : plain_of s from end ≡ plain_of part 0 (length part)
  unfolding plain_of
  plain_part =
      let q = find_of part 0 (length part) QUOTE_MARK in
      let e = find_part QUOTE_MARK from 0 (omega arith) in
      rw (
        le-leb from end h,
        le-leb 0 (length part) (omega arith),
        leb_part (find_of s from end QUOTE_MARK) q e,
        sub-zero (length part),
        length-between s from end l,
      ) refl

  pub split_part : split_of s from end ≡ option_map moved (split_of part 0 (length part))
  unfolding split_of
  split_part =
      let m = length part in
      let a = find_of part 0 m COMMA in
      let b = find_of part (a + 1) m COMMA in
      let c = find_of part (b + 1) m COMMA in
      let d = find_of part (c + 1) m COMMA in
      let e = find_of part (d + 1) m COMMA in
      let a' = find_of s from end COMMA in
      let b' = find_of s (a' + 1) end COMMA in
      let c' = find_of s (b' + 1) end COMMA in
      let d' = find_of s (c' + 1) end COMMA in
      let e' = find_of s (d' + 1) end COMMA in
      let fa : a' ≡ from + a = find_part COMMA from 0 (omega arith) in
      let fb : b' ≡ from + b = find_part COMMA (a' + 1) (a + 1) (omega arith) in
      let fc : c' ≡ from + c = find_part COMMA (b' + 1) (b + 1) (omega arith) in
      let fd : d' ≡ from + d = find_part COMMA (c' + 1) (c + 1) (omega arith) in
      let fe : e' ≡ from + e = find_part COMMA (d' + 1) (d + 1) (omega arith) in
      let x : Commas = record { a = a'; b = b'; c = c'; d = d' } in
      let y : Commas = record { a = a; b = b; c = c; d = d } in
      let same : x ≡ moved y = cc in
      rw (plain_part, ltb_part a' a fa, ltb_part b' b fb, ltb_part c' c fc, ltb_part d' d fd, leb_part e' e fe)
      (same_shape (plain_of part 0 m) (ltb a m) (ltb b m) (ltb c m) (ltb d m) (leb m e) x y same)

  -- The fields that it has there are those of the part's pieces.
  pub piece_field : (i j i' j' : ℕ) → i' ≡ from + i → j' ≡ from + j → i ≤ j → j' ≤ end →
      field_of s i' j' ≡ whole_field (slice_range part i j)
  piece_field i j i' j' e f g k =
      rw (part_part s from end i j g (omega arith), e, f) (sym (field_part s (from + i) (from + j) (omega arith) (omega arith)))

  pub piece_name : (i j i' j' : ℕ) → i' ≡ from + i → j' ≡ from + j → i ≤ j → j' ≤ end →
      named_step s i' j' ≡ whole_name (slice_range part i j)
  piece_name i j i' j' e f g k = rw (part_part s from end i j g (omega arith), e, f) (name_part s (from + i) (from + j) (omega arith) (omega arith))

  pub record_part : record_of s from end ≡ record_alone (fields_of part)
  unfolding record_of
  record_part = rw (split_part, fields_split part) (by (split_of part 0 (length part)) refl)
    where
      by : (x : Option Commas) → split_of part 0 (length part) ≡ x →
          record_in s from end (option_map moved x) ≡ record_alone (option_map (fields_at part) x)
      by None e = refl
      by (Some cs) e =
          let o = inside part 0 (length part) cs e in
          let n : length part ≡ end - from = length-between s from end l in
          rw (
            piece_field 0 cs.a from (from + cs.a) (omega arith) refl (omega arith) (omega arith),
            piece_field (cs.a + 1) cs.b (from + cs.a + 1) (from + cs.b) (omega arith) refl (omega arith) (omega arith),
            piece_field (cs.c + 1) cs.d (from + cs.c + 1) (from + cs.d) (omega arith) refl (omega arith) (omega arith),
            piece_field (cs.d + 1) (length part) (from + cs.d + 1) end (omega arith) (omega arith) (omega arith) (omega arith),
            piece_name (cs.b + 1) cs.c (from + cs.b + 1) (from + cs.c) (omega arith) refl (omega arith) (omega arith),
          )
          refl

pub parsed_bad : (g c w op : Option ℕ) → parsed_of g c w None op ≡ Err malformed
parsed_bad None c w op = refl
parsed_bad (Some g) None w op = refl
parsed_bad (Some g) (Some c) None op = refl
parsed_bad (Some g) (Some c) (Some w) op = refl

-- Where the places are none of the text, there is no record.
pub record_past : (s : List ℕ) (from end : ℕ) → (end < from) ⊎ (length s < end) → record_of s from end ≡ Err malformed
unfolding record_of split_of plain_of
record_past s from end (inl h) = rw (lt-leb from end h) refl
record_past s from end (inr h) = by (split_of s from end)
  where
    by : (x : Option Commas) → record_in s from end x ≡ Err malformed
    by None = refl
    by (Some cs) = rw (field_past s (cs.d + 1) end (inr h)) (parsed_bad _ _ _ _)

-- What the code knows of a record's fields once it has them as slices.
abbrev pub at_field : List (Bor (List ℕ)) → ℕ → List ℕ
at_field fs k = (get_or fs k (record { ref_ptr = (0, 0); now = [] })).now

pub alone_five : (fs : List (Bor (List ℕ))) → length fs ≡ 5 →
    record_alone (Some (map (λ f. f.now) fs)) ≡
    parsed_of
    (whole_field (at_field fs 0))
    (whole_field (at_field fs 1))
    (whole_field (at_field fs 3))
    (whole_field (at_field fs 4))
    (whole_name (at_field fs 2))
alone_five [] e = absurd (omega arith)
alone_five (g ∷ []) e = absurd (omega arith)
alone_five (g ∷ (c ∷ [])) e = absurd (omega arith)
alone_five (g ∷ (c ∷ (o ∷ []))) e = absurd (omega arith)
alone_five (g ∷ (c ∷ (o ∷ (w ∷ [])))) e = absurd (omega arith)
alone_five (g ∷ (c ∷ (o ∷ (w ∷ (v ∷ []))))) e = refl
alone_five (g ∷ (c ∷ (o ∷ (w ∷ (v ∷ (x ∷ fs)))))) e = absurd (omega arith)

abbrev pub GotPart : List ℕ → ℕ → ℕ → List ℕ → Type 0
GotPart s from end t = (from ≤ end) × (end ≤ length s) × (t ≡ slice_range s from end) × (length t + from ≡ end)

pub record_five : (s : List ℕ) (from end : ℕ) (t : List ℕ) (r : Option (List (Bor (List ℕ)))) (fs : List (Bor (List ℕ))) →
    GotPart s from end t → option_map (map (λ f. f.now)) r ≡ fields_of t → r ≡ Some fs → length fs ≡ 5 →
    record_of s from end ≡
    parsed_of
    (whole_field (at_field fs 0))
    (whole_field (at_field fs 1))
    (whole_field (at_field fs 3))
    (whole_field (at_field fs 4))
    (whole_name (at_field fs 2))
record_five s from end t r fs p f g e =
    record_part s from end p.0 p.1 ∙ rw (← p.2, ← f, g) (alone_five fs e)

pub record_none : (s : List ℕ) (from end : ℕ) (t : List ℕ) (r : Option (List (Bor (List ℕ)))) →
    GotPart s from end t → option_map (map (λ f. f.now)) r ≡ fields_of t → r ≡ None → record_of s from end ≡ Err malformed
record_none s from end t r p f g = record_part s from end p.0 p.1 ∙ rw (← p.2, ← f, g) refl
