-- A record cut at its commas, one after the other, is a record split at their places. Assumes nothing.
use mathlib.Core.Path.{◌≡◌, refl, sym, ◌∙◌, ap}
use mathlib.Core.Bool.{Bool, true, false, not, cond, ◌||◌}
use mathlib.Core.List.{List, [], ◌∷◌}
use Prim.Native.Nat.{ℕ, suc, ◌+◌, ◌-◌, ◌<◌}
use native.Mathlib.Omega.{arith}
use native.Mathlib.Nat.{sub-zero, zero-add}
use borrow.Author.Tests.{lt-ltb, le-leb}
use lib.Dec.{eqb, leb, ltb}
use lib.ListN.{length, take, drop}
use Rattle.std.specs.Prelude.{Option, Some, None, position, slice_range, option_map, option_and_then}
use Rattle.std.specs.Bool.{then_some}
use Rattle.std.specs.List.{position_or_len, list_any}
use Rattle.std.proofs.lemmas.List.{drop-drop, get_or-drop, length-drop}
use Rattle.std.proofs.lemmas.Bool.Decides.{nat_tests}
use Rattle.std.proofs.lemmas.Slice.{between_to_end}
use Rattle.laws.specs.Choice.{pick, both}
use Rattle.entry.specs.Refusals.{unless}
use Rattle.text.specs.Marks.{COMMA, QUOTE_MARK, RECORD_MOST, is_byte, find_of}
use Rattle.text.specs.Records.{Commas, plain_of, split_of, cut_of, has_mark, fields_of}
use Rattle.text.proofs.Parts.{first_part, first_position}

-- Tests of one fact are one.
pub ltb_same : (a b c d : ℕ) → (a < b → c < d) → (c < d → a < b) → ltb a b ≡ ltb c d
ltb_same a b c d f g = grind (arith, nat_tests)

pub leb_not : (a b : ℕ) → leb a b ≡ not (ltb b a)
leb_not a b = grind (arith, nat_tests)

abbrev pub is_mark : ℕ → ℕ → Bool
is_mark x b = eqb b x

-- A mark is found where the list has it first.
pub find_position : (t : List ℕ) (x : ℕ) → find_of t 0 (length t) x ≡ position_or_len (is_mark x) t
unfolding find_of
find_position t x =
    rw (sub-zero (length t)) (first_position (is_mark x) t 0 (is_byte t x) 0 (λ k b. rw (zero-add k)) ∙ zero-add (position_or_len (is_mark x) t))

abbrev pub cut_by : List ℕ → Option ℕ → Option (List ℕ × List ℕ)
cut_by t None = None
cut_by t (Some k) = Some (take k t, slice_range t (k + 1) (length t))

pub cut_position : (t : List ℕ) → cut_by t (position (is_mark COMMA) t) ≡ cut_of t
unfolding cut_of
cut_position t = rw (find_position t COMMA) (by (ltb (position_or_len (is_mark COMMA) t) (length t)) (position_or_len (is_mark COMMA) t))
  where
    by : (b : Bool) (k : ℕ) → cut_by t (cond b (Some k) None) ≡ pick b (Some (take k t, drop (k + 1) t)) None
    by true k = rw (between_to_end t (k + 1) (length t) (omega arith))
    by false k = refl

-- There is none exactly where the search for it reaches the end.
pub find_any : (t : List ℕ) (x : ℕ) → ltb (find_of t 0 (length t) x) (length t) ≡ list_any (is_mark x) t
find_any t x = rw (find_position t x) (go t)
  where
    go : (l : List ℕ) → ltb (position_or_len (is_mark x) l) (length l) ≡ list_any (is_mark x) l
    go [] = refl
    go (b ∷ l) = by (eqb b x) (go l)
      where
        by : (t : Bool) → ltb (position_or_len (is_mark x) l) (length l) ≡ list_any (is_mark x) l →
            ltb (cond (not t) (1 + position_or_len (is_mark x) l) 0) (suc (length l)) ≡ (t || list_any (is_mark x) l)
        by true h = lt-ltb 0 (suc (length l)) (omega arith)
        by false h =
            let m = position_or_len (is_mark x) l in
            ltb_same (1 + m) (suc (length l)) m (length l) (λ a. omega arith) (λ a. omega arith) ∙ h

-- What is left of a text from a place on.
module _ (t : List ℕ) where
  abbrev n : ℕ
  n = length t

  pub find_rest : (i x : ℕ) → find_of t i n x ≡ i + find_of (drop i t) 0 (length (drop i t)) x
  unfolding find_of
  find_rest i x =
      rw (length-drop i t, sub-zero (n - i))
      (first_part (is_byte t x) (is_byte (drop i t) x) i 0 i (n - i) (omega arith) (λ k a b. ap (λ (y : ℕ). eqb y x) (sym (get_or-drop i t k 0))))

  -- The next comma cuts it.
  pub cut_rest : (i : ℕ) → let k = find_of t i n COMMA in cut_of (drop i t) ≡ pick (ltb k n) (Some (slice_range t i k, drop (k + 1) t)) None
  unfolding cut_of
  cut_rest i =
      let f = find_of (drop i t) 0 (length (drop i t)) COMMA in
      let e : i + f - i ≡ f = omega arith in
      let d : i + f + 1 ≡ i + (f + 1) = omega arith in
      rw (find_rest i COMMA, e, d, drop-drop (f + 1) i t)
      (rw (ltb_same (i + f) n f (length (drop i t)) (λ a. omega (arith, length-drop i t)) (λ a. omega (arith, length-drop i t))) refl)

pub cut_then : {A B : Type 0} (b : Bool) (x : A) (f : A → Option B) → option_and_then f (pick {A = Option A} b (Some x) None) ≡ pick b (f x) None
cut_then true x f = refl
cut_then false x f = refl

-- A record's fields, cut off one after the other, stand between its commas.
module _ (t : List ℕ) where
  abbrev pub comma : ℕ → ℕ
  comma i = find_of t i (length t) COMMA

  pub any_rest : (i : ℕ) → has_mark COMMA (drop i t) ≡ ltb (comma i) (length t)
  any_rest i =
      sym (find_any (drop i t) COMMA)
      ∙ ltb_same (find_of (drop i t) 0 (length (drop i t)) COMMA) (length (drop i t)) (comma i) (length t)
      (λ a. omega (arith, length-drop i t, find_rest t i COMMA)) (λ a. omega (arith, length-drop i t, find_rest t i COMMA))

  abbrev pub is_plain : Bool
  is_plain = both (leb (length t) RECORD_MOST) (not (has_mark QUOTE_MARK t))

  pub plain_whole : plain_of t 0 (length t) ≡ is_plain
  unfolding plain_of
  plain_whole =
      rw (le-leb 0 (length t) (omega arith), sub-zero (length t), leb_not (length t) (find_of t 0 (length t) QUOTE_MARK), find_any t QUOTE_MARK) refl

  abbrev pub fields_at : Commas → List (List ℕ)
  fields_at cs =
      slice_range t 0 cs.a ∷
      slice_range t (cs.a + 1) cs.b ∷
      slice_range t (cs.b + 1) cs.c ∷
      slice_range t (cs.c + 1) cs.d ∷
      slice_range t (cs.d + 1) (length t) ∷
      []

  pub nested : (P A B C D E : Bool) (cs : Commas) (l : List (List ℕ)) → l ≡ fields_at cs →
      pick P (pick A (pick B (pick C (pick D (then_some (not E) l) None) None) None) None) None ≡
      option_map fields_at (unless P None (unless A None (unless B None (unless C None (unless D None (unless (not E) None (Some cs)))))))
  nested false A B C D E cs l h = refl
  nested true false B C D E cs l h = refl
  nested true true false C D E cs l h = refl
  nested true true true false D E cs l h = refl
  nested true true true true false E cs l h = refl
  nested true true true true true true cs l h = refl
  nested true true true true true false cs l h = ap Some h

  pub fields_split : fields_of t ≡ option_map fields_at (split_of t 0 (length t))
  unfolding fields_of split_of
  fields_split =
      let n = length t in
      let a = comma 0 in
      let b = comma (a + 1) in
      let c = comma (b + 1) in
      let d = comma (c + 1) in
      let e = comma (d + 1) in
      rw (
        plain_whole,
        leb_not n e,
        cut_rest t 0,
        cut_then (ltb a n),
        cut_rest t (a + 1),
        cut_then (ltb b n),
        cut_rest t (b + 1),
        cut_then (ltb c n),
        cut_rest t (c + 1),
        cut_then (ltb d n),
        any_rest (d + 1),
      )
      (nested is_plain (ltb a n) (ltb b n) (ltb c n) (ltb d n) (ltb e n) (record { a = a; b = b; c = c; d = d }) _
      (rw (between_to_end t (d + 1) n (omega arith)) refl))
