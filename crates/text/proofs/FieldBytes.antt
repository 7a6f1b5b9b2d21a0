-- The number field by recursion on the list of its bytes, and that the definition on places is the same. Assumes nothing.
use mathlib.Core.Path.{◌≡◌, ◌∙◌, refl, sym, ap}
use Prim.Native.Nat.{ℕ, zero, suc, ◌+◌, ◌-◌, ◌≤◌}
use mathlib.Core.Logic.{inl, inr}
use mathlib.Core.Bool.{Bool, true, false}
use mathlib.Core.List.{List, [], ◌∷◌}
use native.Mathlib.Omega.{arith}
use native.Mathlib.Decide.{ℕ_discrete}
use lib.Dec.{eqb, leb}
use lib.ListN.{length}
use lib.Seq.{slice, slice-cons, slice_empty}
use borrow.Author.Tests.{le-leb, lt-leb, eq-eqb, ne_eqb}
use Rattle.laws.specs.Choice.{pick}
use Rattle.laws.specs.Fold.{fold_range}
use Rattle.std.specs.Prelude.{Option, Some, None, ◌<◌, ◌⊎◌, slice_range, slice_get, ◌≢◌}
use native.Mathlib.Nat.{sub-zero}
use Rattle.std.specs.Bool.{then_some}
use Rattle.std.proofs.lemmas.List.{get_or_past}
use Rattle.std.proofs.lemmas.List.Edits.{get_or-between, length-between}
use Rattle.text.specs.Marks.{DIGIT_ZERO, byte_at}
use Rattle.text.specs.Decimals.{push, push_at, digits_of, field_of}

unfoldable pub digits_in : List ℕ → Option ℕ → Option ℕ
digits_in [] f = f
digits_in (b ∷ l) f = digits_in l (push b f)

-- The bytes of a field as a number.
unfoldable pub field_in : List ℕ → Option ℕ
field_in [] = None
field_in (b ∷ l) = pick (eqb b DIGIT_ZERO) (pick (eqb (length l) 0) (Some 0) None) (digits_in (b ∷ l) (Some 0))

-- n bytes from a place on, 0 past the end.
unfoldable pub bytes_from : List ℕ → ℕ → ℕ → List ℕ
bytes_from s i zero = []
bytes_from s i (suc n) = byte_at s i ∷ bytes_from s (suc i) n

pub bytes_length : (s : List ℕ) (i n : ℕ) → length (bytes_from s i n) ≡ n
unfolding bytes_from
bytes_length s i zero = refl
bytes_length s i (suc n) = ap suc (bytes_length s (suc i) n)

-- Within the input they are the slice of it.
pub bytes_slice : (s : List ℕ) (i n : ℕ) → i + n ≤ length s → bytes_from s i n ≡ slice i (i + n) s
unfolding bytes_from
bytes_slice s i zero h = let e : i + 0 ≡ i = omega arith in rw e (sym (slice_empty i s))
bytes_slice s i (suc n) h =
    let e : i + suc n ≡ suc i + n = omega arith in
    rw (bytes_slice s (suc i) n (omega arith), slice-cons i (i + suc n) s 0 (omega arith) h, e)

pub digits_list : (s : List ℕ) (i n : ℕ) (f : Option ℕ) → fold_range (push_at s) i n f ≡ digits_in (bytes_from s i n) f
unfolding fold_range digits_in bytes_from
digits_list s i zero f = refl
digits_list s i (suc n) f = digits_list s (suc i) n (push (byte_at s i) f)

pub one_more : (m : ℕ) → eqb (suc m) 1 ≡ eqb m 0
one_more m = by (ℕ_discrete m 0)
  where
    by : Dec (m ≡ 0) → eqb (suc m) 1 ≡ eqb m 0
    by (yes e) = rw (eq-eqb m 0 e) (eq-eqb (suc m) 1 (omega arith))
    by (no e) = rw (ne_eqb m 0 e) (ne_eqb (suc m) 1 (λ k. e (omega arith)))

pub field_list : (s : List ℕ) (from end : ℕ) → field_of s from end ≡ field_in (bytes_from s from (end - from))
unfolding field_of field_in bytes_from
field_list s from end = go (end - from) refl
  where
    go : (n : ℕ) → end - from ≡ n →
        pick (leb end from) None
        (pick (eqb (byte_at s from) DIGIT_ZERO) (pick (eqb n 1) (Some 0) None) (fold_range (push_at s) from n (Some 0))) ≡
        field_in (bytes_from s from n)
    go zero e = rw (le-leb end from (omega arith))
    go (suc m) e = rw (lt-leb end from (omega arith), bytes_length s (suc from) m, one_more m, digits_list s from (suc m) (Some 0))

-- The bytes of a part of a text.
pub bytes_part : (s : List ℕ) (from end i j n : ℕ) → j ≡ from + i → j + n ≤ end → bytes_from (slice_range s from end) i n ≡ bytes_from s j n
unfolding bytes_from
bytes_part s from end i j zero e h = refl
bytes_part s from end i j (suc n) e h =
    rw (bytes_part s from end (suc i) (suc j) n (omega arith) (omega arith), get_or-between s from end i 0 (omega arith), e)

-- The field of a part of a text is that of its places.
pub field_part : (s : List ℕ) (from end : ℕ) → from ≤ end → end ≤ length s →
    field_of (slice_range s from end) 0 (length (slice_range s from end)) ≡ field_of s from end
field_part s from end h l =
    let p = slice_range s from end in
    let n : length p ≡ end - from = length-between s from end l in
    field_list p 0 (length p)
    ∙ rw (n, sub-zero) (ap field_in (bytes_part s from end 0 from (end - from) (omega arith) (omega arith)))
    ∙ sym (field_list s from end)

-- A field by its first byte.
pub first_none : (f : List ℕ) → slice_get f 0 ≡ None → field_of f 0 (length f) ≡ None
unfolding field_of
first_none [] e = refl
first_none (b ∷ l) e = cc

pub first_zero : (f : List ℕ) (b : ℕ) → slice_get f 0 ≡ Some b → b ≡ DIGIT_ZERO → field_of f 0 (length f) ≡ then_some (eqb (length f) 1) 0
unfolding field_of
first_zero [] b h e = cc
first_zero (a ∷ l) b h e =
    let k : a ≡ DIGIT_ZERO = cc in
    rw (k, lt-leb (suc (length l)) 0 (omega arith), sub-zero) (picked (eqb (suc (length l)) 1))
  where
    picked : (t : Bool) → pick {A = Option ℕ} t (Some 0) None ≡ then_some t 0
    picked true = refl
    picked false = refl

pub first_other : (f : List ℕ) (b : ℕ) → slice_get f 0 ≡ Some b → b ≢ DIGIT_ZERO → field_of f 0 (length f) ≡ digits_of f 0 (length f)
unfolding field_of
first_other [] b h n = cc
first_other (a ∷ l) b h n = let k : a ≡ b = cc in rw (k, ne_eqb b DIGIT_ZERO n, lt-leb (suc (length l)) 0 (omega arith)) refl

-- A bad digit stays bad.
pub digits_bad : (l : List ℕ) → digits_in l None ≡ None
unfolding digits_in push
digits_bad [] = refl
digits_bad (b ∷ l) = digits_bad l

pub fold_bad : (s : List ℕ) (i n : ℕ) → fold_range (push_at s) i n None ≡ None
fold_bad s i n = digits_list s i n None ∙ digits_bad (bytes_from s i n)

pub push_zero : (f : Option ℕ) → push 0 f ≡ None
unfolding push
push_zero None = refl
push_zero (Some v) = refl

-- Zero is no digit, and a place past the end reads zero.
pub digits_past : (s : List ℕ) (i n : ℕ) (f : Option ℕ) → length s < i + n → 0 < n → digits_in (bytes_from s i n) f ≡ None
unfolding digits_in bytes_from
digits_past s i zero f h g = absurd (omega arith)
digits_past s i (suc zero) f h g = let e : byte_at s i ≡ 0 = get_or_past s i 0 (omega arith) in rw e (push_zero f)
digits_past s i (suc (suc n)) f h g = digits_past s (suc i) (suc n) (push (byte_at s i) f) (omega arith) (omega arith)

pub past_in : (s : List ℕ) (i n : ℕ) → length s < i + n → field_in (bytes_from s i n) ≡ None
unfolding field_in bytes_from digits_in push
past_in s i zero h = refl
past_in s i (suc zero) h = let e : byte_at s i ≡ 0 = get_or_past s i 0 (omega arith) in rw e refl
past_in s i (suc (suc n)) h = by (eqb (byte_at s i) DIGIT_ZERO)
  where
    by : (t : Bool) →
        pick t (pick (eqb (length (bytes_from s (suc i) (suc n))) 0) (Some 0) None) (digits_in (bytes_from s i (suc (suc n))) (Some 0)) ≡ None
    by true = rw (bytes_length s (suc i) (suc n), ne_eqb (suc n) 0 (λ e. omega arith)) refl
    by false = digits_past s i (suc (suc n)) (Some 0) h (omega arith)

-- There is no number where the places are none of the text.
pub field_past : (s : List ℕ) (from end : ℕ) → (end < from) ⊎ (length s < end) → field_of s from end ≡ None
unfolding field_of
field_past s from end (inl h) = rw (le-leb end from (omega arith))
field_past s from end (inr h) = field_list s from end ∙ past_in s from (end - from) (omega arith)
