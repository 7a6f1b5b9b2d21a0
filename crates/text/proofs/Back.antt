-- What is written reads back: the decimal text of a number of 32 bits is that number's field, and of one of 64 bits it has every digit.
-- Assumes nothing.
use mathlib.Core.Path.{◌≡◌, refl, sym, ◌∙◌, ap}
use Prim.Native.Nat.{ℕ, zero, suc, ◌+◌, ◌*◌, ◌-◌, ◌/◌, ◌%◌, ◌≤◌, ◌<◌}
use mathlib.Core.Bool.{Bool, true, false}
use mathlib.Core.List.{List, [], ◌∷◌, ◌++◌}
use native.Mathlib.Omega.{arith}
use native.Mathlib.Decide.{ℕ_discrete}
use lib.Dec.{ltb}
use lib.ListN.{length, set, length-append, length-set}
use lib.Seq.{sets, get_or-set_same, get_or-set_other}
use borrow.Author.Tests.{le-ltb, ltb-true, ltb-false, eq-eqb, ne_eqb}
use Rattle.std.specs.Prelude.{Option, Some}
use Rattle.text.specs.Marks.{DIGIT_ZERO, DIGIT_NINE, NUMBER_MOST, byte_at}
use Rattle.text.specs.Decimals.{push, field_of}
use Rattle.text.specs.Writing.{filled, put_of, digits, digit_of, decimal, width_from, width_of}
use Rattle.text.proofs.FieldBytes.{digits_in, field_in, bytes_from, field_list}
use Rattle.text.proofs.Puts.{put_fit}

-- v divided by ten w times
unfoldable pub tens : ℕ → ℕ → ℕ
tens zero v = v
tens (suc w) v = tens w (v / 10)

pub digits_append : (l m : List ℕ) (f : Option ℕ) → digits_in (l ++ m) f ≡ digits_in m (digits_in l f)
unfolding digits_in
digits_append [] m f = refl
digits_append (b ∷ l) m f = digits_append l m (push b f)

pub push_digit : (v : ℕ) → v ≤ NUMBER_MOST → push (digit_of v) (Some (v / 10)) ≡ Some v
unfolding push
push_digit v h =
    let e : v / 10 * 10 + (DIGIT_ZERO + v % 10 - DIGIT_ZERO) ≡ v = omega arith in
    rw (le-ltb (DIGIT_ZERO + v % 10) DIGIT_ZERO (omega arith), le-ltb DIGIT_NINE (DIGIT_ZERO + v % 10) (omega arith), e, le-ltb NUMBER_MOST v h)

pub digits_back : (w v : ℕ) → tens w v ≡ 0 → v ≤ NUMBER_MOST → digits_in (digits w v) (Some 0) ≡ Some v
unfolding tens digits digits_in
digits_back zero v e h = ap Some (sym e)
digits_back (suc w) v e h =
    digits_append (digits w (v / 10)) (digit_of v ∷ []) (Some 0) ∙ rw (digits_back w (v / 10) e (omega arith)) (push_digit v h)

-- the width is enough, and no more than it takes
pub record Enough (f x w : ℕ) : Type 0 where
  pub more : ℕ
  pub width : width_from f x w ≡ w + more
  pub enough : tens (suc more) x ≡ 0
  pub takes : 0 < more → 0 < tens more x

pub width_enough : (f x w : ℕ) → tens (suc f) x ≡ 0 → Enough f x w
unfolding width_from tens
width_enough zero x w e = record { more = 0; width = omega arith; enough = e; takes = λ l. absurd (omega arith) }
width_enough (suc f) x w e = by (ltb x 10) refl (width_enough f (x / 10) (w + 1) e)
  where
    by : (b : Bool) → ltb x 10 ≡ b → Enough f (x / 10) (w + 1) → Enough (suc f) x w
    by true t r = record { more = 0; width = rw t (omega arith); enough = omega (arith, ltb-true x 10 t); takes = λ l. absurd (omega arith) }
    by false t r = record { more = suc r.more; width = rw t (r.width ∙ omega arith); enough = r.enough; takes = λ l. lead r.more r.takes }
      where
        lead : (k : ℕ) → (0 < k → 0 < tens k (x / 10)) → 0 < tens k (x / 10)
        lead zero g = omega (arith, ltb-false x 10 t)
        lead (suc k) g = g (omega arith)

pub tens_last : (k v : ℕ) → tens (suc k) v ≡ tens k v / 10
unfolding tens
tens_last zero v = refl
tens_last (suc k) v = tens_last k (v / 10)

pub record Led (k v : ℕ) : Type 0 where
  pub rest : List ℕ
  pub is : digits (suc k) v ≡ (DIGIT_ZERO + tens k v % 10) ∷ rest
  pub long : length rest ≡ k

pub led : (k v : ℕ) → Led k v
unfolding digits tens
led zero v = record { rest = []; is = refl; long = refl }
led (suc k) v =
    let r = led k (v / 10) in
    record {
      rest = r.rest ++ (digit_of v ∷ []);
      is = ap (λ (l : List ℕ). l ++ (digit_of v ∷ [])) r.is;
      long = length-append r.rest (digit_of v ∷ []) ∙ omega (arith, r.long);
    }

pub field_plain : (b : ℕ) (rest : List ℕ) (v : ℕ) → digits_in (b ∷ rest) (Some 0) ≡ Some v → (b ≡ DIGIT_ZERO → ⊥) →
    field_in (b ∷ rest) ≡ Some v
unfolding field_in
field_plain b rest v d n = rw (ne_eqb b DIGIT_ZERO n, d)

pub field_zero : (b : ℕ) (rest : List ℕ) (v : ℕ) → b ≡ DIGIT_ZERO → length rest ≡ 0 → v ≡ 0 → field_in (b ∷ rest) ≡ Some v
unfolding field_in
field_zero b rest v e z o = rw (eq-eqb b DIGIT_ZERO e, eq-eqb (length rest) 0 z, o)

pub field_led : (k v : ℕ) → v ≤ NUMBER_MOST → tens (suc k) v ≡ 0 → (0 < k → 0 < tens k v) → field_in (digits (suc k) v) ≡ Some v
unfolding tens
field_led k v h t g = by (ℕ_discrete (tens k v) 0)
  where
    l : Led k v
    l = led k v

    d : digits_in ((DIGIT_ZERO + tens k v % 10) ∷ l.rest) (Some 0) ≡ Some v
    d = ap (λ (m : List ℕ). digits_in m (Some 0)) (sym l.is) ∙ digits_back (suc k) v t h

    none : (j : ℕ) → (0 < j → 0 < tens j v) → tens j v ≡ 0 → (j ≡ 0) × (v ≡ 0)
    none zero q z = (refl, z)
    none (suc j) q z = absurd (omega (arith, q (omega arith)))

    by : Dec (tens k v ≡ 0) → field_in (digits (suc k) v) ≡ Some v
    by (yes z) = ap field_in l.is ∙ field_zero (DIGIT_ZERO + tens k v % 10) l.rest v (omega (arith, z)) (l.long ∙ (none k g z).0) (none k g z).1
    by (no n) = ap field_in l.is ∙ field_plain (DIGIT_ZERO + tens k v % 10) l.rest v d (λ e. n (omega (arith, tens_last k v, t)))

pub tens_wide : (v : ℕ) → v < 18446744073709551616 → tens 20 v ≡ 0
unfolding tens
tens_wide v h = omega arith

pub field_back : (v : ℕ) → v ≤ NUMBER_MOST → field_in (decimal v) ≡ Some v
unfolding decimal width_of
field_back v h = go (width_enough 19 v 1 (tens_wide v (omega arith)))
  where
    go : Enough 19 v 1 → field_in (digits (width_from 19 v 1) v) ≡ Some v
    go r = let e : width_from 19 v 1 ≡ suc r.more = r.width ∙ omega arith in rw e (at r.more r.enough r.takes)
      where
        at : (k : ℕ) → tens (suc k) v ≡ 0 → (0 < k → 0 < tens k v) → field_in (digits (suc k) v) ≡ Some v
        at k t g = field_led k v h t g

-- The number that digits stand for, after what is read already. There is no limit to it.
unfoldable pub value_in : List ℕ → ℕ → ℕ
value_in [] x = x
value_in (b ∷ l) x = value_in l (x * 10 + (b - DIGIT_ZERO))

pub value_append : (l m : List ℕ) (x : ℕ) → value_in (l ++ m) x ≡ value_in m (value_in l x)
unfolding value_in
value_append [] m x = refl
value_append (b ∷ l) m x = value_append l m (x * 10 + (b - DIGIT_ZERO))

pub value_back : (w v : ℕ) → tens w v ≡ 0 → value_in (digits w v) 0 ≡ v
unfolding tens digits value_in
value_back zero v e = sym e
value_back (suc w) v e =
    value_append (digits w (v / 10)) (digit_of v ∷ []) 0 ∙ rw (value_back w (v / 10) e) (omega arith)

-- No digit of a number of 64 bits is lost.
pub decimal_value : (v : ℕ) → v < 18446744073709551616 → value_in (decimal v) 0 ≡ v
unfolding decimal width_of
decimal_value v h = go (width_enough 19 v 1 (tens_wide v h))
  where
    go : Enough 19 v 1 → value_in (digits (width_from 19 v 1) v) 0 ≡ v
    go r = let e : width_from 19 v 1 ≡ suc r.more = r.width ∙ omega arith in rw e (value_back (suc r.more) v r.enough)

-- A text that fits stands at its place, and what stands before it is kept.
pub sets_before : (t o : List ℕ) (i k : ℕ) → k < i → byte_at (sets o i t) k ≡ byte_at o k
sets_before [] o i k h = refl
sets_before (b ∷ t) o i k h = sets_before t (set o i b) (suc i) k (omega arith) ∙ get_or-set_other o i k b 0 (λ e. omega arith)

pub bytes_put : (t o : List ℕ) (at : ℕ) → at + length t ≤ length o → bytes_from (sets o at t) at (length t) ≡ t
unfolding bytes_from
bytes_put [] o at h = refl
bytes_put (b ∷ t) o at h =
    rw (
      sets_before t (set o at b) (suc at) at (omega arith),
      get_or-set_same o at b 0 (omega arith),
      bytes_put t (set o at b) (suc at) (omega (arith, length-set o at b)),
    )

-- The field from a place up to where a number written there ends is that number.
pub put_back : (v : ℕ) (o : List ℕ) (at : ℕ) → v ≤ NUMBER_MOST → at + length (decimal v) ≤ length o →
    field_of (put_of (decimal v) (filled at o)).held at (put_of (decimal v) (filled at o)).place ≡ Some v
put_back v o at h l =
    let t = decimal v in
    let e : at + length t - at ≡ length t = omega arith in
    rw (← put_fit t o (sets o at t) at l refl)
    (field_list (sets o at t) at (at + length t) ∙ rw (e, bytes_put t o at l) (field_back v h))
