-- Laws of what is written at a place of a buffer. Assumes nothing.
use mathlib.Core.Path.{◌≡◌, refl, sym, ◌∙◌, ap}
use Prim.Native.Nat.{ℕ, zero, suc, ◌+◌, ◌-◌, ◌/◌, ◌≤◌, ◌<◌}
use mathlib.Core.Bool.{Bool, true, false}
use mathlib.Core.List.{List, [], ◌∷◌, ◌++◌}
use native.Mathlib.Omega.{arith}
use native.Mathlib.Nat.{add-zero}
use lib.Dec.{ltb}
use borrow.Author.Tests.{lt-ltb, le-ltb, le-leb, lt-leb}
use lib.ListN.{length, set, take, drop, length-append, drop_of_length-le}
use Rattle.std.proofs.lemmas.List.{append_assoc, append-nil, drop-drop, length-take, length-drop}
use lib.Seq.{sets, length-sets, set_comm, sets-eq}
use borrow.Rule.Slice.PartMut.{put_mid}
use Rattle.laws.specs.Choice.{pick}
use Rattle.text.specs.Writing.{WIDTH_MOST, Filled, filled, put_of, width_from, width_of, digit_of, digits, decimal}

pub digits_length : (w v : ℕ) → length (digits w v) ≡ w
unfolding digits
digits_length zero v = refl
digits_length (suc w) v = length-append (digits w (v / 10)) (digit_of v ∷ []) ∙ omega (arith, digits_length w (v / 10))

pub decimal_length : (v : ℕ) → length (decimal v) ≡ width_of v
unfolding decimal
decimal_length v = digits_length (width_of v) v

pub sets_set : (t : List ℕ) (o : List ℕ) (at k b : ℕ) → at + length t ≤ k → sets (set o k b) at t ≡ set (sets o at t) k b
sets_set [] o at k b h = refl
sets_set (a ∷ t) o at k b h = rw (set_comm o k at b a (λ e. omega arith)) (sets_set t (set o at a) (suc at) k b (omega arith))

pub sets_append : (t u : List ℕ) (o : List ℕ) (at : ℕ) → sets o at (t ++ u) ≡ sets (sets o at t) (at + length t) u
sets_append [] u o at = ap (λ (k : ℕ). sets o k u) (omega arith)
sets_append (a ∷ t) u o at = sets_append t u (set o at a) (suc at) ∙ ap (λ (k : ℕ). sets (sets (set o at a) (suc at) t) k u) (omega arith)

-- The loop that writes digits from the right: its turn, and where it begins.
pub digits_step : (i x : ℕ) (o : List ℕ) → 0 < i → sets (set o (i - 1) (digit_of x)) 0 (digits (i - 1) (x / 10)) ≡ sets o 0 (digits i x)
unfolding digits
digits_step zero x o h = absurd (omega arith)
digits_step (suc w) x o h =
    let one : suc w - 1 ≡ w = omega arith in
    let l = digits_length w (x / 10) in
    rw one
    (sets_set (digits w (x / 10)) o 0 w (digit_of x) (omega (arith, l))
    ∙ sym (sets_append (digits w (x / 10)) (digit_of x ∷ []) o 0
    ∙ ap (λ (k : ℕ). set (sets o 0 (digits w (x / 10))) k (digit_of x)) (omega (arith, l))))

pub sets_all : (t o : List ℕ) → length t ≡ length o → sets o 0 t ≡ t
sets_all t o h =
    let e = sets-eq t o 0 (omega (arith, h)) in
    let d : drop (0 + length t) o ≡ [] = drop_of_length-le o (omega (arith, h)) in
    e ∙ rw d (append-nil t)

-- The loop that counts digits.
pub width_end : (w x : ℕ) → WIDTH_MOST ≤ w → width_from (WIDTH_MOST - w) x w ≡ w
unfolding width_from
width_end w x h = go (WIDTH_MOST - w) (omega arith)
  where
    go : (n : ℕ) → n ≡ 0 → width_from n x w ≡ w
    go zero e = refl
    go (suc n) e = absurd (omega arith)

pub width_stop : (w x : ℕ) → w < WIDTH_MOST → x < 10 → width_from (WIDTH_MOST - w) x w ≡ w
unfolding width_from
width_stop w x h l = go (WIDTH_MOST - w)
  where
    go : (n : ℕ) → width_from n x w ≡ w
    go zero = refl
    go (suc n) = rw (lt-ltb x 10 l)

pub width_turn : (w x : ℕ) → w < WIDTH_MOST → 10 ≤ x → width_from (WIDTH_MOST - w) x w ≡ width_from (WIDTH_MOST - (w + 1)) (x / 10) (w + 1)
unfolding width_from
width_turn w x h l = go (WIDTH_MOST - w) (WIDTH_MOST - (w + 1)) (omega arith)
  where
    go : (n m : ℕ) → n ≡ suc m → width_from n x w ≡ width_from m (x / 10) (w + 1)
    go zero m e = absurd (omega arith)
    go (suc n) m e = let k : n ≡ m = omega arith in rw (le-ltb x 10 l, k)

pub width_from_lem : (f x w : ℕ) → (w ≤ width_from f x w) × (width_from f x w ≤ w + f)
unfolding width_from
width_from_lem zero x w = omega arith
width_from_lem (suc f) x w = by (ltb x 10) (width_from_lem f (x / 10) (w + 1))
  where
    by : (b : Bool) → (w + 1 ≤ width_from f (x / 10) (w + 1)) × (width_from f (x / 10) (w + 1) ≤ w + 1 + f) →
        (w ≤ pick b w (width_from f (x / 10) (w + 1))) × (pick b w (width_from f (x / 10) (w + 1)) ≤ w + suc f)
    by true h = omega arith
    by false h = omega arith

pub width_range : (v : ℕ) → (1 ≤ width_of v) × (width_of v ≤ WIDTH_MOST)
unfolding width_of
width_range v = width_from_lem (WIDTH_MOST - 1) v 1

-- What a put does, by cases.
pub put_not : (t o : List ℕ) (at : ℕ) → length o < at + length t → filled at o ≡ put_of t (filled at o)
unfolding put_of
put_not t o at h = rw (lt-leb (at + length t) (length o) h)

pub put_fit : (t o o' : List ℕ) (at : ℕ) → at + length t ≤ length o → o' ≡ sets o at t →
    filled (at + length t) o' ≡ put_of t (filled at o)
unfolding put_of
put_fit t o o' at h e = rw (e, le-leb (at + length t) (length o) h)

-- What copies a text to its part of the buffer, and what writes a number there.
pub part_sets : (t o new : List ℕ) (at end : ℕ) → end ≡ at + length t → end ≤ length o → new ≡ t → put_mid at (end - at) o new ≡ sets o at t
part_sets t o new at end e h n =
    let k : end - at ≡ length t = omega arith in
    rw (k, n, sets-eq t o at (omega arith), drop-drop) (sym (append_assoc (take at o) t (drop (at + length t) o)))

pub part_fit : (t o new : List ℕ) (at end : ℕ) → end ≡ at + length t → end ≤ length o → new ≡ t →
    filled end (put_mid at (end - at) o new) ≡ put_of t (filled at o)
part_fit t o new at end e h n =
    rw (part_sets t o new at end e h n, e) (put_fit t o (sets o at t) at (omega arith) refl)

pub number_not : (v n : ℕ) (o : List ℕ) (at : ℕ) → n ≡ width_of v → length o < at + n → filled at o ≡ put_of (decimal v) (filled at o)
number_not v n o at e h = put_not (decimal v) o at (omega (arith, decimal_length v))

pub number_fit : (v n : ℕ) (o o' : List ℕ) (at : ℕ) → n ≡ width_of v → at + n ≤ length o → o' ≡ sets o at (digits n v) →
    filled (at + n) o' ≡ put_of (decimal v) (filled at o)
unfolding decimal
number_fit v n o o' at e h g =
    let l : length (digits n v) ≡ n = digits_length n v in
    rw (← e) (ap (λ (k : ℕ). filled (at + k) o') (sym l) ∙ put_fit (digits n v) o o' at (omega (arith, l)) g)

pub number_part : (v n : ℕ) (o new : List ℕ) (at end : ℕ) → n ≡ width_of v → end ≡ at + n → end ≤ length o →
    new ≡ digits (length (take (end - at) (drop at o))) v → filled end (put_mid at (end - at) o new) ≡ put_of (decimal v) (filled at o)
number_part v n o new at end e f h d =
    let k : length (take (end - at) (drop at o)) ≡ n = simp (length-take, length-drop) (omega arith) in
    let t : new ≡ digits n v = d ∙ ap (λ (w : ℕ). digits w v) k in
    let s = part_sets (digits n v) o new at end (omega (arith, digits_length n v)) h t in
    rw f (number_fit v n o (put_mid at (at + n - at) o new) at e (omega arith) (rw (← f) s))

-- Put after put is one put of both, where both fit.
pub put_put : (t u : List ℕ) (x : Filled) → x.place + length (t ++ u) ≤ length x.held → put_of u (put_of t x) ≡ put_of (t ++ u) x
unfolding put_of
put_put t u x h =
    let l = length-append t u in
    rw (
      le-leb (x.place + length t) (length x.held) (omega (arith, l)),
      length-sets x.held x.place t,
      le-leb (x.place + length t + length u) (length x.held) (omega (arith, l)),
      le-leb (x.place + length (t ++ u)) (length x.held) h,
      sets_append t u x.held x.place,
    )
    (ap (λ (k : ℕ). filled k (sets (sets x.held x.place t) (x.place + length t) u)) (omega (arith, l)))

abbrev pub texts : List (List ℕ) → List ℕ
texts [] = []
texts (t ∷ ts) = t ++ texts ts

-- One text after the other.
abbrev pub put_all : List (List ℕ) → Filled → Filled
put_all [] x = x
put_all (t ∷ ts) x = put_all ts (put_of t x)

pub put_place : (t : List ℕ) (x : Filled) → x.place + length t ≤ length x.held →
    ((put_of t x).place ≡ x.place + length t) × (length (put_of t x).held ≡ length x.held)
unfolding put_of
put_place t x h = rw (le-leb (x.place + length t) (length x.held) h) (refl, length-sets x.held x.place t)

pub put_all_lem : (ts : List (List ℕ)) (x : Filled) → x.place + length (texts ts) ≤ length x.held → put_all ts x ≡ put_of (texts ts) x
unfolding put_of
put_all_lem [] x h = rw (le-leb (x.place + 0) (length x.held) h, add-zero x.place)
put_all_lem (t ∷ ts) x h =
    let l = length-append t (texts ts) in
    let p = put_place t x (omega (arith, l)) in
    put_all_lem ts (put_of t x) (omega (arith, l, p.0, p.1)) ∙ put_put t (texts ts) x h
