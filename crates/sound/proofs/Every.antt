-- A test of every place from i up to b, as a search for a bad one that reaches b: what it says, and what `all` makes of it. Assumes
-- nothing.
use mathlib.Core.Path.{◌≡◌, refl, sym, ◌∙◌, ap}
use mathlib.Core.Bool.{Bool, true, false, not, ◌&&◌}
use mathlib.Core.List.{List, [], ◌∷◌}
use Prim.Native.Nat.{ℕ, suc, ◌+◌, ◌-◌, ◌<◌, ◌≤◌}
use native.Mathlib.Omega.{arith}
use lib.Dec.{eqb}
use lib.ListN.{length, get_or, take, drop}
use borrow.Author.Tests.{eq-eqb, ne_eqb, eqb-true}
use denote.Param.Members.{Mut}
use denote.Ref.{Bor}
use Rattle.std.proofs.Common.{zero-add, Iter}
use Rattle.std.proofs.iter.Yields.{fronts}
use Rattle.std.proofs.lemmas.Iterator.{YieldsList-from_slice}
use Rattle.std.proofs.lemmas.Iterator.Search.{all_from_yields_List}
use Rattle.std.proofs.lemmas.Iterator.Consumers.{YieldsList-from_enumerate}
use Rattle.std.proofs.lemmas.List.{length-take, length-drop, get_or-take, get_or-drop}
use Rattle.std.proofs.lemmas.List.FromFn.{get_or-enumerate_from, length-enumerate_from}
use Rattle.std.specs.Fn.{Called}
use Rattle.std.specs.Iterator.{YieldsThen}
use Rattle.std.specs.Iterator.Adapters.{enumerate_source, enumerate_count, enumerate_steps}
use Rattle.std.specs.List.{list_all, enumerate_from, FoldsTo}
use Rattle.std.specs.Option.{MatchOption}
use Rattle.std.specs.Slice.Iter.{iter_rest}
use Rattle.std.specs.declared.iter.Enumerate.{Enumerate}
use Rattle.std.specs.Prelude.{Option}
use Rattle.laws.specs.Choice.{pick}
use Rattle.laws.specs.Search.{first_from, first_range, none_at, none_of}

module _ (bad : ℕ → Bool) (i b : ℕ) where
  pub every_at : i ≤ b → eqb (first_from bad i (b - i)) b ≡ true → (k : ℕ) → i ≤ k → k < b → bad k ≡ false
  every_at h t k l m = none_at bad i (b - i) (eqb-true _ _ t ∙ omega arith) k l (omega arith)

  pub every_of : i ≤ b → ((k : ℕ) → i ≤ k → k < b → bad k ≡ false) → eqb (first_from bad i (b - i)) b ≡ true
  every_of h f = eq-eqb _ _ (none_of bad i (b - i) (λ k l m. f k l (omega arith)) ∙ omega arith)

  -- of a search from past the end
  pub every_past : b < i → false ≡ eqb (first_from bad i (b - i)) b
  every_past h = sym (ne_eqb _ b (λ e. omega (arith, e, first_range bad i (b - i))))

-- a test of every item of a list, whose places are numbered from i
every_item : {A : Type 0} (default : A) (test : A → Bool) (ok : ℕ → Bool) (xs : List A) (i b : ℕ) → i + length xs ≡ b →
    ((k j : ℕ) → k < length xs → i + k ≡ j → test (get_or xs k default) ≡ ok j) →
    list_all test xs ≡ eqb (first_from (λ j. not (ok j)) i (length xs)) b
unfolding first_from
every_item default test ok [] i b e same = sym (eq-eqb i b (omega arith))
every_item {A} default test ok (x ∷ xs) i b e same =
    by (ok i) (same 0 i (omega arith) (omega arith))
    (every_item default test ok xs (suc i) b (omega arith) (λ k j h l. same (suc k) j (omega arith) (omega arith)))
  where
    by : (c : Bool) → test x ≡ c → list_all test xs ≡ eqb (first_from (λ j. not (ok j)) (suc i) (length xs)) b →
        (test x && list_all test xs) ≡ eqb (pick (not c) i (first_from (λ j. not (ok j)) (suc i) (length xs))) b
    by true t ih = rw t ih
    by false t ih = rw t (sym (ne_eqb i b (λ z. omega arith)))

every_place : (test : ℕ × ℕ → Bool) (xs : List ℕ) (b : ℕ) → length xs ≡ b →
    list_all test (enumerate_from 0 xs) ≡ eqb (first_from (λ j. not (test (j, get_or xs j 0))) 0 b) b
every_place test xs b e =
    let n : length (enumerate_from 0 xs) ≡ b = length-enumerate_from 0 xs ∙ e in
    rw n at
    (every_item (0, 0) test (λ j. test (j, get_or xs j 0)) (enumerate_from 0 xs) 0 b (omega arith)
    (λ k j h l.
    let q : k ≡ j = omega arith in
    rw (get_or-enumerate_from 0 xs k (0, 0) (omega arith), zero-add) (ap (λ m. test (m, get_or xs m 0)) q)))

-- what `xs.iter().enumerate().all(..)` returns: its clause `ran`, what it goes over, and what its closure tests
pub all_places : {F : Type 0} {g : Mut F ((ℕ × Bor ℕ) × Unit {0}) Bool} {s : Enumerate (Iter ℕ)} (test : ℕ × ℕ → Bool)
    (u : Enumerate (Iter ℕ)) (f : F) (r : Bool) →
    (zs : List (ℕ × Bor ℕ)) × (o : Option (ℕ × Bor ℕ)) × (j : F) × YieldsThen (enumerate_steps fronts) s zs o u ×
    FoldsTo (λ p x q. Called g p (x, tt) true q) f zs j ×
    MatchOption o (r ≡ true) (λ x. (r ≡ false) × ((h : F) × Called g j (x, tt) false h)) →
    (xs : List ℕ) (b : ℕ) → iter_rest (enumerate_source s) ≡ xs → enumerate_count s ≡ 0 → length xs ≡ b →
    ((x : ℕ × Bor ℕ) (c : Bool) (q : F) → Called g f (x, tt) c q → (q ≡ f) × (c ≡ test (x.0, x.1.now))) →
    r ≡ eqb (first_from (λ j. not (test (j, get_or xs j 0))) 0 b) b
all_places test u f r ran xs b rest start long tests =
    all_from_yields_List test u f r ran (YieldsList-from_enumerate (YieldsList-from_slice xs rest) start) tests ∙ every_place test xs b long

-- a test of what stands at place i and after, as `&xs[i..]` has it
pub every_rest : (test : ℕ → Bool) (xs : List ℕ) (i b : ℕ) → i ≤ b → length xs ≡ b →
    list_all test (take (b - i) (drop i xs)) ≡ eqb (first_from (λ j. not (test (get_or xs j 0))) i (b - i)) b
every_rest test xs i b h e =
    let n : length (take (b - i) (drop i xs)) ≡ b - i = simp (length-take, length-drop) (omega arith) in
    rw n at
    (every_item 0 test (λ j. test (get_or xs j 0)) (take (b - i) (drop i xs)) i b (omega arith)
    (λ k j m l. rw (get_or-take (b - i) (drop i xs) k 0 (omega arith), get_or-drop, l) refl))
