-- A part of one list copied place by place, out of it and into it.
use mathlib.Core.Path.{◌≡◌, refl, sym, ◌∙◌, ap}
use mathlib.Core.List.{List, [], ◌∷◌, append_assoc}
use Prim.Native.Nat.{ℕ, zero, suc, ◌+◌, ◌<◌, ◌≤◌}
use native.Mathlib.Omega.{arith}
use native.Mathlib.Nat.{add-zero, add-suc, suc-add, zero-add}
use lib.ListN.{length, get_or, set, take, drop, length-set}
use lib.Seq.{sets, length-sets, sets-eq, ext_get_or, get_or-set_same, get_or-set_other, drop-cons, drop-drop}
use borrow.Rule.Slice.PartMut.{put_mid}
use Rattle.std.specs.List.{AllZip}
use Rattle.std.proofs.lemmas.List.{take_more, take_more_set}
use Rattle.std.proofs.lemmas.Slice.Zip.{all_zipped_more}
use Rattle.rules.specs.declared.Caches.{Caches}
use Rattle.rules.specs.State.{caches, caches_of}
use Rattle.rules.specs.Sound.{Lengths}
use Rattle.exports.specs.Array.{memory_from, lines_from, entries_from, flags_from, state_end, part, machine_in, with_parts}

pub part_length : (from n : ℕ) (s : List ℕ) → length (part from n s) ≡ n
unfolding part
part_length from zero s = refl
part_length from (suc n) s = ap suc (part_length (suc from) n s)

pub part_at : (from n : ℕ) (s : List ℕ) (i : ℕ) → i < n → get_or (part from n s) i 0 ≡ get_or s (from + i) 0
unfolding part
part_at from zero s i h = absurd (omega arith)
part_at from (suc n) s zero h = rw add-zero
part_at from (suc n) s (suc i) h =
    part_at (suc from) n s i (omega arith) ∙ ap (λ (k : ℕ). get_or s k 0) (suc-add from i ∙ sym (add-suc from i))

-- a place before what is written, after it, and in it
pub sets_before : (s l : List ℕ) (at k : ℕ) → k < at → get_or (sets s at l) k 0 ≡ get_or s k 0
sets_before s [] at k h = refl
sets_before s (x ∷ l) at k h =
    sets_before (set s at x) l (suc at) k (omega arith) ∙ get_or-set_other s at k x 0 (λ e. omega arith)

pub sets_after : (s l : List ℕ) (at k : ℕ) → at + length l ≤ k → get_or (sets s at l) k 0 ≡ get_or s k 0
sets_after s [] at k h = refl
sets_after s (x ∷ l) at k h =
    sets_after (set s at x) l (suc at) k (omega arith) ∙ get_or-set_other s at k x 0 (λ e. omega arith)

pub sets_in : (s l : List ℕ) (at i : ℕ) → i < length l → at + length l ≤ length s → get_or (sets s at l) (at + i) 0 ≡ get_or l i 0
sets_in s [] at i h k = absurd (omega arith)
sets_in s (x ∷ l) at zero h k =
    rw add-zero (sets_before (set s at x) l (suc at) at (omega arith) ∙ get_or-set_same s at x 0 (omega arith))
sets_in s (x ∷ l) at (suc i) h k =
    ap (λ (j : ℕ). get_or (sets (set s at x) (suc at) l) j 0) (add-suc at i ∙ sym (suc-add at i)) ∙
    sets_in (set s at x) l (suc at) i (omega arith) (omega (arith, length-set s at x))

-- A turn of a loop that writes y, made of x, over a place of a list: R is how a place is made.
pub copied_more : {A B : Type 0} (R : A → B → Type 0) (xs : List A) (ys : List B) (i : ℕ) (x : A) (y : B) → i < length xs → i < length ys →
    x ≡ get_or xs i x → R x y → AllZip R (take i xs) (take i ys) → AllZip R (take (i + 1) xs) (take (i + 1) (set ys i y))
copied_more R xs ys i x y h l e r z =
    rw (take_more xs i x h, take_more_set ys i y l, ← e) (all_zipped_more R (take i xs) (take i ys) x y z r)

-- a slice of a list is a part of it
pub part_mid : (s : List ℕ) (from n : ℕ) → from + n ≤ length s → take n (drop from s) ≡ part from n s
unfolding part
part_mid s from zero h = refl
part_mid s from (suc n) h = rw (drop-cons s from 0 (omega arith)) (ap (λ (l : List ℕ). get_or s from 0 ∷ l) (part_mid s (suc from) n (omega arith)))

-- a list with another in the place of a slice of it
pub put_is : (s l : List ℕ) (at n : ℕ) → length l ≡ n → at + n ≤ length s → put_mid at n s l ≡ sets s at l
put_is s l at n e h =
    rw (drop-drop n at s, ← e) (sym (append_assoc (take at s) l (drop (at + length l) s)) ∙ sym (sets-eq l s at (omega arith)))

-- all numbers of a list
pub part_whole : (n : ℕ) (l : List ℕ) → length l ≡ n → part 0 n l ≡ l
part_whole n l h =
    ext_get_or 0 (part 0 n l) l (part_length 0 n l ∙ sym h)
    (λ i b. part_at 0 n l i (omega (arith, part_length 0 n l)) ∙ ap (λ (j : ℕ). get_or l j 0) (zero-add i))

-- the array after each part was put into its places: f, m, l and e are what stands there
pub parts_put : (s f m l e : List ℕ) (c : Caches) → length s ≡ state_end → Lengths c → f ≡ c.flags → m ≡ c.memory → l ≡ c.lines → e ≡ c.entries →
    put_mid entries_from 512 (put_mid lines_from 512 (put_mid memory_from 256 (put_mid flags_from 16 s f) m) l) e ≡ with_parts s c
unfolding with_parts
parts_put s f m l e c long h ef em el ee =
    rw (
      ef,
      em,
      el,
      ee,
      put_is s c.flags flags_from 16 h.flags (omega arith),
      put_is (sets s flags_from c.flags) c.memory memory_from 256 h.memory (omega (arith, length-sets s flags_from c.flags)),
      put_is remembering c.lines lines_from 512 h.lines (omega (arith, remembering_length)),
      put_is (sets remembering lines_from c.lines) c.entries entries_from 512 h.entries
          (omega (arith, remembering_length, length-sets remembering lines_from c.lines)),
      part_whole 16 c.flags h.flags,
      part_whole 256 c.memory h.memory,
      part_whole 512 c.lines h.lines,
      part_whole 512 c.entries h.entries,
    )
  where
    remembering : List ℕ
    remembering = sets (sets s flags_from c.flags) memory_from c.memory

    remembering_length : length remembering ≡ length s
    remembering_length = length-sets (sets s flags_from c.flags) memory_from c.memory ∙ length-sets s flags_from c.flags

-- the caches whose parts were read out of an array
pub parts_read : (s m l e f : List ℕ) → state_end ≤ length s → m ≡ take 256 (drop memory_from s) → l ≡ take 512 (drop lines_from s) →
    e ≡ take 512 (drop entries_from s) → f ≡ take 16 (drop flags_from s) → caches m l e f ≡ caches_of (machine_in s)
unfolding machine_in
parts_read s m l e f long em el ee ef =
    rw (
      em ∙ part_mid s memory_from 256 (omega arith),
      el ∙ part_mid s lines_from 512 (omega arith),
      ee ∙ part_mid s entries_from 512 (omega arith),
      ef ∙ part_mid s flags_from 16 (omega arith),
    )
