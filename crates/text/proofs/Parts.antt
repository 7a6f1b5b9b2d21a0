-- What the definitions say of places, said of a part of a text. Assumes nothing.
use mathlib.Core.Path.{◌≡◌, refl, sym, ◌∙◌, ap}
use Prim.Native.Nat.{ℕ, zero, suc, ◌+◌, ◌-◌, ◌≤◌, ◌<◌}
use mathlib.Core.Bool.{Bool, true, false, not, cond, ◌&&◌}
use mathlib.Core.List.{List, [], ◌∷◌, map}
use native.Mathlib.Omega.{arith}
use native.Mathlib.Nat.{sub-zero, zero-add}
use native.Mathlib.Decide.{ℕ_discrete}
use borrow.Author.Tests.{le-ltb, eq-eqb, ne_eqb, eqb-true}
use denote.Bor.{Bor}
use lib.Dec.{eqb, ltb}
use lib.ListN.{length, get_or, length-map}
use Rattle.std.specs.Prelude.{Option, Some, None, position, bytes_eq, zip}
use Rattle.std.specs.Option.{SomeIff, option_eq}
use Rattle.std.specs.List.{position_or_len, list_all, range_with_len}
use Rattle.laws.specs.Choice.{pick}
use Rattle.laws.specs.Search.{first_from}
use Rattle.text.specs.Marks.{byte_at}
use Rattle.text.specs.Names.{unlike_at, same_text, unlike_of, step_names, is_name, first_named, named_step}

-- A search over the places of a part is the search over its places in the whole.
pub first_part : (p q : ℕ → Bool) (d i j n : ℕ) → j ≡ d + i → ((k : ℕ) → i ≤ k → k < i + n → p (d + k) ≡ q k) →
    first_from p j n ≡ d + first_from q i n
unfolding first_from
first_part p q d i j zero e h = e
first_part p q d i j (suc n) e h =
    rw (e, h i (omega arith) (omega arith))
    (by (q i) (first_part p q d (suc i) (suc (d + i)) n (omega arith) (λ k a b. h k (omega arith) (omega arith))))
  where
    by : (t : Bool) → first_from p (suc (d + i)) n ≡ d + first_from q (suc i) n →
        pick t (d + i) (first_from p (suc (d + i)) n) ≡ d + pick t i (first_from q (suc i) n)
    by true k = refl
    by false k = k

-- The same search, by the elements of a list.
pub first_position : {X : Type 0} (q : X → Bool) (l : List X) (d : X) (p : ℕ → Bool) (i : ℕ) →
    ((k : ℕ) → k < length l → p (i + k) ≡ q (get_or l k d)) → first_from p i (length l) ≡ i + position_or_len q l
unfolding first_from
first_position q [] d p i h = omega arith
first_position q (x ∷ l) d p i h =
    let here : p i ≡ q x = ap p (omega arith) ∙ h 0 (omega arith) in
    rw here (by (q x) (first_position q l d p (suc i) (λ k b. ap p (omega arith) ∙ h (suc k) (omega arith))))
  where
    by : (t : Bool) → first_from p (suc i) (length l) ≡ suc i + position_or_len q l →
        pick t i (first_from p (suc i) (length l)) ≡ i + cond (not t) (1 + position_or_len q l) 0
    by true k = omega arith
    by false k = k ∙ omega arith

-- A text is a name if both are one list: a search for a place where they differ then reaches the end.
pub alike : (p : ℕ → Bool) (t name : List ℕ) (i : ℕ) → length t ≡ length name →
    ((k : ℕ) → k < length name → p (i + k) ≡ not (eqb (get_or t k 0) (get_or name k 0))) →
    eqb (first_from p i (length name)) (i + length name) ≡ bytes_eq t name
unfolding first_from
alike p [] [] i e h = eq-eqb i (i + 0) (omega arith)
alike p [] (y ∷ name) i e h = absurd (omega arith)
alike p (x ∷ t) [] i e h = absurd (omega arith)
alike p (x ∷ t) (y ∷ name) i e h =
    let here : p i ≡ not (eqb x y) = ap p (omega arith) ∙ h 0 (omega arith) in
    rw here (by (eqb x y) (alike p t name (suc i) (omega arith) (λ k b. ap p (omega arith) ∙ h (suc k) (omega arith))))
  where
    by : (b : Bool) → eqb (first_from p (suc i) (length name)) (suc i + length name) ≡ bytes_eq t name →
        eqb (pick (not b) i (first_from p (suc i) (length name))) (i + suc (length name)) ≡ (b && bytes_eq t name)
    by true k = let s : i + suc (length name) ≡ suc i + length name = omega arith in rw s k
    by false k = ne_eqb i (i + suc (length name)) (λ e. omega arith)

pub not_alike : (t name : List ℕ) → (length t ≡ length name → ⊥) → bytes_eq t name ≡ false
not_alike [] [] n = absurd (n refl)
not_alike [] (y ∷ name) n = refl
not_alike (x ∷ t) [] n = refl
not_alike (x ∷ t) (y ∷ name) n = rw (not_alike t name (λ e. n (omega arith))) (both_no (eqb x y))
  where
    both_no : (b : Bool) → (b && false) ≡ false
    both_no true = refl
    both_no false = refl

pub same_whole : (t name : List ℕ) → same_text t 0 (length t) name ≡ bytes_eq t name
unfolding same_text unlike_of
same_whole t name = rw (le-ltb (length t) 0 (omega arith), sub-zero) (by (ℕ_discrete (length t) (length name)))
  where
    by : Dec (length t ≡ length name) →
        pick (not (eqb (length t) (length name))) false (eqb (first_from (unlike_at t 0 name) 0 (length name)) (length name)) ≡ bytes_eq t name
    by (yes e) =
        let all = alike (unlike_at t 0 name) t name 0 e (λ k b. rw (zero-add (0 + k), zero-add k)) in
        rw (eq-eqb (length t) (length name) e) (rw (zero-add (length name)) at all)
    by (no n) = rw (ne_eqb (length t) (length name) n) (sym (not_alike t name n))

-- The same of the places from i on, each beside its byte of the name.
abbrev pub reads : List ℕ → ℕ × ℕ → Bool
reads s p = eqb (byte_at s p.0) p.1

pub alike_at : (s : List ℕ) (p : ℕ → Bool) (name : List ℕ) (i j : ℕ) →
    ((k : ℕ) → k < length name → p (j + k) ≡ not (eqb (byte_at s (i + k)) (get_or name k 0))) →
    list_all (reads s) (zip (range_with_len i (length name)) name) ≡ eqb (first_from p j (length name)) (j + length name)
unfolding first_from
alike_at s p [] i j h = sym (eq-eqb j (j + 0) (omega arith))
alike_at s p (y ∷ name) i j h =
    let here : p j ≡ not (eqb (byte_at s i) y) = ap p (omega arith) ∙ h 0 (omega arith) ∙ ap (λ (k : ℕ). not (eqb (byte_at s k) y)) (omega arith) in
    rw here
    (by (eqb (byte_at s i) y)
    (alike_at s p name (i + 1) (suc j)
    (λ k b. ap p (omega arith) ∙ h (suc k) (omega arith) ∙ ap (λ (m : ℕ). not (eqb (byte_at s m) (get_or name k 0))) (omega arith))))
  where
    by : (b : Bool) →
        list_all (reads s) (zip (range_with_len (i + 1) (length name)) name) ≡ eqb (first_from p (suc j) (length name)) (suc j + length name) →
        (b && list_all (reads s) (zip (range_with_len (i + 1) (length name)) name)) ≡
        eqb (pick (not b) j (first_from p (suc j) (length name))) (j + suc (length name))
    by true k = let e : j + suc (length name) ≡ suc j + length name = omega arith in rw e k
    by false k = sym (ne_eqb j (j + suc (length name)) (λ e. omega arith))

pub same_at : (s name : List ℕ) (from end : ℕ) → from ≤ end → end - from ≡ length name →
    list_all (reads s) (zip (range_with_len from (length name)) name) ≡ same_text s from end name
unfolding same_text unlike_of
same_at s name from end h e =
    rw (le-ltb end from h, eq-eqb (end - from) (length name) e)
    (alike_at s (unlike_at s from name) name from 0 (λ k b. rw (zero-add k)) ∙ rw (zero-add (length name)))

pub sized : (r : Option ℕ) (from end n : ℕ) → SomeIff r (from ≤ end) (end - from) → true ≡ option_eq eqb r (Some n) →
    (from ≤ end) × (end - from ≡ n)
sized None from end n h e = cc
sized (Some m) from end n h e = (h.0, sym h.1 ∙ eqb-true m n (sym e))

pub position_map : {X Y : Type 0} (q : Y → Bool) (f : X → Y) (xs : List X) → position_or_len (λ x. q (f x)) xs ≡ position_or_len q (map f xs)
position_map q f [] = refl
position_map q f (x ∷ xs) = rw (position_map q f xs)

abbrev pub is_it : List ℕ → Bor (List ℕ) → Bool
is_it t name = bytes_eq t name.now

-- The first of the names that the text is, where xs are the steps' names.
pub step_named : (xs : List (Bor (List ℕ))) (t : List ℕ) → map (λ x. x.now) xs ≡ step_names → position (is_it t) xs ≡ named_step t 0 (length t)
unfolding named_step is_name
step_named xs t e =
    let n : length xs ≡ 9 = sym (length-map xs (λ x. x.now)) ∙ ap length e in
    let p : position_or_len (is_it t) xs ≡ position_or_len (bytes_eq t) step_names =
    position_map (bytes_eq t) (λ x. x.now) xs ∙ ap (position_or_len (bytes_eq t)) e in
    let f : first_named t 0 (length t) ≡ 0 + position_or_len (bytes_eq t) step_names =
    first_position (bytes_eq t) step_names [] (is_name t 0 (length t)) 0 (λ k b. rw (zero-add k) (same_whole t (get_or step_names k []))) in
    let m = position_or_len (bytes_eq t) step_names in
    rw (n, p, f, zero-add m) (by (ltb m 9) m)
  where
    by : (b : Bool) (k : ℕ) → cond b (Some k) None ≡ pick b (Some k) None
    by true k = refl
    by false k = refl
