-- What was put into the array is read back: the array that holds a machine holds it, and passes the test.
use mathlib.Core.Path.{◌≡◌, refl, sym, ◌∙◌, ap}
use mathlib.Core.Bool.{true}
use mathlib.Core.List.{List, [], ◌∷◌}
use Prim.Native.Nat.{ℕ, zero, suc, ◌+◌, ◌-◌, ◌<◌, ◌≤◌}
use native.Mathlib.Omega.{arith}
use native.Mathlib.Nat.{zero-add}
use native.Mathlib.Decide.{dec_lt}
use lib.ListN.{length, get_or, length-replicate, get_or-replicate}
use lib.Seq.{sets, length-sets, ext_get_or}
use borrow.Author.Tests.{eq-eqb}
use Rattle.laws.specs.Choice.{both_true}
use Rattle.rules.specs.declared.Machine.{Machine}
use Rattle.rules.specs.declared.Caches.{Caches}
use Rattle.rules.specs.State.{caches, caches_of, machine_of, true_flag}
use Rattle.rules.specs.Sound.{Lengths}
use Rattle.exports.specs.Array.{flags_from, flags_end, memory_from, lines_from, entries_from, entries_end, state_end}
use Rattle.exports.specs.Array.{part, dims_in, machine_in, with_parts, blank, array_of, none_above, most_value, held_ok}
use Rattle.exports.proofs.Copied.{part_length, part_at, part_whole, sets_before, sets_after, sets_in}
use Rattle.exports.proofs.Tested.{none_above_at, none_above_of, held}

-- a part that was written, and one that stands before it
part_in : (s l : List ℕ) (at n : ℕ) → length l ≡ n → at + n ≤ length s → part at n (sets s at l) ≡ l
part_in s l at n e h =
    ext_get_or 0 (part at n (sets s at l)) l (part_length at n (sets s at l) ∙ sym e)
    (λ i b.
    part_at at n (sets s at l) i (omega (arith, part_length at n (sets s at l))) ∙
    sets_in s l at i (omega (arith, part_length at n (sets s at l))) (omega arith))

part_before : (s l : List ℕ) (from n at : ℕ) → from + n ≤ at → part from n (sets s at l) ≡ part from n s
part_before s l from n at h =
    ext_get_or 0 (part from n (sets s at l)) (part from n s) (part_length from n (sets s at l) ∙ sym (part_length from n s))
    (λ i b.
    let k : i < n = omega (arith, part_length from n (sets s at l)) in
    part_at from n (sets s at l) i k ∙ sets_before s l at (from + i) (omega arith) ∙ sym (part_at from n s i k))

-- a place of a part in which two arrays agree
part_same_at : (a b : List ℕ) (from at n i : ℕ) → part from n a ≡ part at n b → i < n → get_or a (from + i) 0 ≡ get_or b (at + i) 0
part_same_at a b from at n i h l = sym (part_at from n a i l) ∙ ap (λ (p : List ℕ). get_or p i 0) h ∙ part_at at n b i l

part_same : (a b : List ℕ) (from n k : ℕ) → part from n a ≡ part from n b → from ≤ k → k < from + n → get_or a k 0 ≡ get_or b k 0
part_same a b from n k h l t =
    let e : from + (k - from) ≡ k = omega arith in
    rw (← e) (part_same_at a b from from n (k - from) h (omega arith))

-- a machine's parts put into any array, each over those before it
module _ (s : List ℕ) (long : length s ≡ state_end) (c : Caches) where
  abbrev flagged : List ℕ
  flagged = sets s flags_from (part 0 16 c.flags)

  abbrev remembering : List ℕ
  remembering = sets flagged memory_from (part 0 256 c.memory)

  abbrev lined : List ℕ
  lined = sets remembering lines_from (part 0 512 c.lines)

  flagged_length : length flagged ≡ state_end
  flagged_length = length-sets s flags_from (part 0 16 c.flags) ∙ long

  remembering_length : length remembering ≡ state_end
  remembering_length = length-sets flagged memory_from (part 0 256 c.memory) ∙ flagged_length

  lined_length : length lined ≡ state_end
  lined_length = length-sets remembering lines_from (part 0 512 c.lines) ∙ remembering_length

  parts_length : length (with_parts s c) ≡ state_end
  unfolding with_parts
  parts_length = length-sets lined entries_from (part 0 512 c.entries) ∙ lined_length

  entries_put : part entries_from 512 (with_parts s c) ≡ part 0 512 c.entries
  unfolding with_parts
  entries_put = part_in lined (part 0 512 c.entries) entries_from 512 (part_length 0 512 c.entries) (omega (arith, lined_length))

  lines_put : part lines_from 512 (with_parts s c) ≡ part 0 512 c.lines
  unfolding with_parts
  lines_put =
      part_before lined (part 0 512 c.entries) lines_from 512 entries_from (omega arith) ∙
      part_in remembering (part 0 512 c.lines) lines_from 512 (part_length 0 512 c.lines) (omega (arith, remembering_length))

  memory_put : part memory_from 256 (with_parts s c) ≡ part 0 256 c.memory
  unfolding with_parts
  memory_put =
      part_before lined (part 0 512 c.entries) memory_from 256 entries_from (omega arith) ∙
      part_before remembering (part 0 512 c.lines) memory_from 256 lines_from (omega arith) ∙
      part_in flagged (part 0 256 c.memory) memory_from 256 (part_length 0 256 c.memory) (omega (arith, flagged_length))

  flags_put : part flags_from 16 (with_parts s c) ≡ part 0 16 c.flags
  unfolding with_parts
  flags_put =
      part_before lined (part 0 512 c.entries) flags_from 16 entries_from (omega arith) ∙
      part_before remembering (part 0 512 c.lines) flags_from 16 lines_from (omega arith) ∙
      part_before flagged (part 0 256 c.memory) flags_from 16 memory_from (omega arith) ∙
      part_in s (part 0 16 c.flags) flags_from 16 (part_length 0 16 c.flags) (omega (arith, long))

  -- what stands before the flags, between them and memory, and past the entries, stays
  before_flags : (k : ℕ) → k < flags_from → get_or (with_parts s c) k 0 ≡ get_or s k 0
  unfolding with_parts
  before_flags k l =
      sets_before lined (part 0 512 c.entries) entries_from k (omega arith) ∙
      sets_before remembering (part 0 512 c.lines) lines_from k (omega arith) ∙
      sets_before flagged (part 0 256 c.memory) memory_from k (omega arith) ∙
      sets_before s (part 0 16 c.flags) flags_from k l

  before_memory : (k : ℕ) → flags_end ≤ k → k < memory_from → get_or (with_parts s c) k 0 ≡ get_or s k 0
  unfolding with_parts
  before_memory k a b =
      sets_before lined (part 0 512 c.entries) entries_from k (omega arith) ∙
      sets_before remembering (part 0 512 c.lines) lines_from k (omega arith) ∙
      sets_before flagged (part 0 256 c.memory) memory_from k b ∙
      sets_after s (part 0 16 c.flags) flags_from k (omega (arith, part_length 0 16 c.flags))

  past_entries : (k : ℕ) → entries_end ≤ k → get_or (with_parts s c) k 0 ≡ get_or s k 0
  unfolding with_parts
  past_entries k a =
      sets_after lined (part 0 512 c.entries) entries_from k (omega (arith, part_length 0 512 c.entries)) ∙
      sets_after remembering (part 0 512 c.lines) lines_from k (omega (arith, part_length 0 512 c.lines)) ∙
      sets_after flagged (part 0 256 c.memory) memory_from k (omega (arith, part_length 0 256 c.memory)) ∙
      sets_after s (part 0 16 c.flags) flags_from k (omega (arith, part_length 0 16 c.flags))

blank_length : length blank ≡ state_end
unfolding blank
blank_length = length-replicate {A = ℕ} state_end 0

blank_at : (k : ℕ) → k < state_end → get_or blank k 0 ≡ 0
unfolding blank
blank_at k h = get_or-replicate {A = ℕ} state_end k 0 0 h

-- the array that holds a machine
module _ (m : Machine) where
  abbrev sizes : List ℕ
  sizes = m.dims.processors ∷ m.dims.words ∷ m.dims.lines ∷ m.dims.entries ∷ []

  abbrev sized : List ℕ
  sized = sets blank 0 sizes

  sized_length : length sized ≡ state_end
  sized_length = length-sets blank 0 sizes ∙ blank_length

  sized_zero : (k : ℕ) → 4 ≤ k → k < state_end → get_or sized k 0 ≡ 0
  sized_zero k a b = sets_after blank sizes 0 k a ∙ blank_at k b

  pub array_length : length (array_of m) ≡ state_end
  unfolding array_of
  array_length = parts_length sized sized_length m.caches

  size_at : (k : ℕ) → k < 4 → get_or (array_of m) k 0 ≡ get_or sizes k 0
  unfolding array_of
  size_at k l =
      before_flags sized sized_length m.caches k (omega arith) ∙
      ap (λ (j : ℕ). get_or sized j 0) (sym (zero-add k)) ∙
      sets_in blank sizes 0 k l (omega (arith, blank_length))

  entries_back : part entries_from 512 (array_of m) ≡ part 0 512 m.caches.entries
  unfolding array_of
  entries_back = entries_put sized sized_length m.caches

  lines_back : part lines_from 512 (array_of m) ≡ part 0 512 m.caches.lines
  unfolding array_of
  lines_back = lines_put sized sized_length m.caches

  memory_back : part memory_from 256 (array_of m) ≡ part 0 256 m.caches.memory
  unfolding array_of
  memory_back = memory_put sized sized_length m.caches

  flags_back : part flags_from 16 (array_of m) ≡ part 0 16 m.caches.flags
  unfolding array_of
  flags_back = flags_put sized sized_length m.caches

  -- a place between the parts holds 0
  between_sizes : (k : ℕ) → 4 ≤ k → k < flags_from → get_or (array_of m) k 0 ≡ 0
  unfolding array_of
  between_sizes k a b = before_flags sized sized_length m.caches k b ∙ sized_zero k a (omega arith)

  between_flags : (k : ℕ) → flags_end ≤ k → k < memory_from → get_or (array_of m) k 0 ≡ 0
  unfolding array_of
  between_flags k a b = before_memory sized sized_length m.caches k a b ∙ sized_zero k (omega arith) (omega arith)

  to_the_end : (k : ℕ) → entries_end ≤ k → k < state_end → get_or (array_of m) k 0 ≡ 0
  unfolding array_of
  to_the_end k a b = past_entries sized sized_length m.caches k a ∙ sized_zero k (omega arith) b

  -- holds it, where its parts have their lengths
  pub machine_back : Lengths m.caches → machine_in (array_of m) ≡ m
  unfolding machine_in
  machine_back h =
      rw (
        size_at 0 (omega arith),
        size_at 1 (omega arith),
        size_at 2 (omega arith),
        size_at 3 (omega arith),
        memory_back ∙ part_whole 256 m.caches.memory h.memory,
        lines_back ∙ part_whole 512 m.caches.lines h.lines,
        entries_back ∙ part_whole 512 m.caches.entries h.entries,
        flags_back ∙ part_whole 16 m.caches.flags h.flags,
      )

  flag_back : (i : ℕ) → i < 16 → get_or (array_of m) (flags_from + i) 0 ≡ get_or m.caches.flags i 0
  flag_back i l = part_same_at (array_of m) m.caches.flags flags_from 0 16 i flags_back l ∙ ap (λ (j : ℕ). get_or m.caches.flags j 0) (zero-add i)

  word_back : (i : ℕ) → i < 256 → get_or (array_of m) (memory_from + i) 0 ≡ get_or m.caches.memory i 0
  word_back i l = part_same_at (array_of m) m.caches.memory memory_from 0 256 i memory_back l ∙ ap (λ (j : ℕ). get_or m.caches.memory j 0) (zero-add i)

  -- and passes the test, where its flags and its memory are in range
  pub held_back : ((i : ℕ) → i < 16 → get_or m.caches.flags i 0 ≤ true_flag) → ((i : ℕ) → i < 256 → get_or m.caches.memory i 0 ≤ most_value) →
      held_ok (array_of m) ≡ true
  unfolding held_ok
  held_back f w =
      both_true _ _ (eq-eqb (length (array_of m)) state_end array_length)
      (both_true _ _ (none_above_of (array_of m) 0 4 flags_from (omega arith) (λ k l r. omega (arith, between_sizes k l r)))
      (both_true _ _ (none_above_of (array_of m) true_flag flags_from flags_end (omega arith) flags_in)
      (both_true _ _ (none_above_of (array_of m) 0 flags_end memory_from (omega arith) (λ k l r. omega (arith, between_flags k l r)))
      (both_true _ _ (none_above_of (array_of m) most_value memory_from lines_from (omega arith) memory_in)
      (none_above_of (array_of m) 0 entries_end state_end (omega arith) (λ k l r. omega (arith, to_the_end k l r)))))))
    where
      flags_in : (k : ℕ) → flags_from ≤ k → k < flags_end → get_or (array_of m) k 0 ≤ true_flag
      flags_in k l r =
          let e : flags_from + (k - flags_from) ≡ k = omega arith in
          rw (← e) (omega (arith, flag_back (k - flags_from) (omega arith), f (k - flags_from) (omega arith)))

      memory_in : (k : ℕ) → memory_from ≤ k → k < lines_from → get_or (array_of m) k 0 ≤ most_value
      memory_in k l r =
          let e : memory_from + (k - memory_from) ≡ k = omega arith in
          rw (← e) (omega (arith, word_back (k - memory_from) (omega arith), w (k - memory_from) (omega arith)))

-- two arrays that agree between the parts and in each part are one
module _ (a b : List ℕ) (left : length a ≡ state_end) (right : length b ≡ state_end)
    (first : (k : ℕ) → k < flags_from → get_or a k 0 ≡ get_or b k 0)
    (between : (k : ℕ) → flags_end ≤ k → k < memory_from → get_or a k 0 ≡ get_or b k 0)
    (last : (k : ℕ) → entries_end ≤ k → k < state_end → get_or a k 0 ≡ get_or b k 0)
    (flags : part flags_from 16 a ≡ part flags_from 16 b)
    (memory : part memory_from 256 a ≡ part memory_from 256 b)
    (lines : part lines_from 512 a ≡ part lines_from 512 b)
    (entries : part entries_from 512 a ≡ part entries_from 512 b) where
  at_place : (k : ℕ) → k < state_end → get_or a k 0 ≡ get_or b k 0
  at_place k l = by (dec_lt k flags_from) (dec_lt k flags_end) (dec_lt k memory_from) (dec_lt k lines_from) (dec_lt k entries_from) (dec_lt k entries_end)
    where
      by : Dec (k < flags_from) → Dec (k < flags_end) → Dec (k < memory_from) → Dec (k < lines_from) → Dec (k < entries_from) → Dec (k < entries_end)
          → get_or a k 0 ≡ get_or b k 0
      by (yes c) d e f g h = first k c
      by (no c) (yes d) e f g h = part_same a b flags_from 16 k flags (omega arith) (omega arith)
      by (no c) (no d) (yes e) f g h = between k (omega arith) e
      by (no c) (no d) (no e) (yes f) g h = part_same a b memory_from 256 k memory (omega arith) (omega arith)
      by (no c) (no d) (no e) (no f) (yes g) h = part_same a b lines_from 512 k lines (omega arith) (omega arith)
      by (no c) (no d) (no e) (no f) (no g) (yes h) = part_same a b entries_from 512 k entries (omega arith) (omega arith)
      by (no c) (no d) (no e) (no f) (no g) (no h) = last k (omega arith) l

  one_array : a ≡ b
  one_array = ext_get_or 0 a b (left ∙ sym right) (λ k l. at_place k (omega (arith, left)))

first_four : (s : List ℕ) (k : ℕ) → k < 4 → get_or (get_or s 0 0 ∷ get_or s 1 0 ∷ get_or s 2 0 ∷ get_or s 3 0 ∷ []) k 0 ≡ get_or s k 0
first_four s zero h = refl
first_four s (suc zero) h = refl
first_four s (suc (suc zero)) h = refl
first_four s (suc (suc (suc zero))) h = refl
first_four s (suc (suc (suc (suc k)))) h = absurd (omega arith)

-- an array that passes the test
module _ (s : List ℕ) (ok : held_ok s ≡ true) where
  long : length s ≡ state_end
  long = (held s ok).long

  -- and one that holds a machine of its dimensions agree between the parts
  module _ (c : Caches) where
    abbrev m : Machine
    m = machine_of (dims_in s) c

    zero_at : (from to k : ℕ) → none_above 0 from to s ≡ true → from ≤ k → k < to → get_or s k 0 ≡ 0
    zero_at from to k t l r = omega (arith, none_above_at s 0 from to (omega arith) t k l r)

    same_first : (k : ℕ) → k < flags_from → get_or (array_of m) k 0 ≡ get_or s k 0
    same_first k l = by (dec_lt k 4)
      where
        by : Dec (k < 4) → get_or (array_of m) k 0 ≡ get_or s k 0
        by (yes a) = size_at m k a ∙ first_four s k a
        by (no a) = between_sizes m k (omega arith) l ∙ sym (zero_at 4 flags_from k (held s ok).first (omega arith) l)

    same_between : (k : ℕ) → flags_end ≤ k → k < memory_from → get_or (array_of m) k 0 ≡ get_or s k 0
    same_between k a b = between_flags m k a b ∙ sym (zero_at flags_end memory_from k (held s ok).between a b)

    same_last : (k : ℕ) → entries_end ≤ k → k < state_end → get_or (array_of m) k 0 ≡ get_or s k 0
    same_last k a b = to_the_end m k a b ∙ sym (zero_at entries_end state_end k (held s ok).last a b)

    -- so it becomes that array where the machine's parts alone are put into it
    pub parts_back : with_parts s c ≡ array_of m
    parts_back =
        one_array (with_parts s c) (array_of m) (parts_length s long c) (array_length m)
        (λ k l. before_flags s long c k l ∙ sym (same_first k l))
        (λ k a b. before_memory s long c k a b ∙ sym (same_between k a b))
        (λ k a b. past_entries s long c k a ∙ sym (same_last k a b))
        (flags_put s long c ∙ sym (flags_back m))
        (memory_put s long c ∙ sym (memory_back m))
        (lines_put s long c ∙ sym (lines_back m))
        (entries_put s long c ∙ sym (entries_back m))

  abbrev own : Machine
  own = machine_of (dims_in s) (caches (part memory_from 256 s) (part lines_from 512 s) (part entries_from 512 s) (part flags_from 16 s))

  again : (from n : ℕ) → part 0 n (part from n s) ≡ part from n s
  again from n = part_whole n (part from n s) (part_length from n s)

  -- and it is the one that holds its own machine
  pub array_back : array_of (machine_in s) ≡ s
  unfolding machine_in
  array_back =
      one_array (array_of own) s (array_length own) long
      (same_first (caches_of own))
      (same_between (caches_of own))
      (same_last (caches_of own))
      (flags_back own ∙ again flags_from 16)
      (memory_back own ∙ again memory_from 256)
      (lines_back own ∙ again lines_from 512)
      (entries_back own ∙ again entries_from 512)
