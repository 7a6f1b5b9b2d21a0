use mathlib.Core.Path.{◌≡◌, subst, sym, ◌∙◌}
use mathlib.Core.List.{List, [], ◌∷◌, ◌++◌}
use mathlib.Core.Bool.{Bool, false, ◌||◌}
use Prim.Native.Nat.{ℕ, ◌<◌}
use native.Mathlib.Omega.{arith}
use Rattle.std.specs.List.{All}
use Rattle.std.proofs.lemmas.Bool.{or_parts}
use Rattle.std.proofs.lemmas.Fn.{fold_over, fronts}
use Rattle.std.proofs.lemmas.Iterator.{YieldsList-from_slice}
use Rattle.std.proofs.lemmas.List.Elements.{All-push}
use borrow.Author.Rules.{rules}
use Rattle.caches.proofs.one_passes.Goals as goal

-- P x b: the test of x may answer b. Where none passes so far, and not x, the answer so far is false
module _ (P : ℕ → Bool → Type 0) where
  abbrev NoneSoFar : List ℕ → Bool → Type 0
  NoneSoFar xs a = a ≡ false → All (λ x. P x false) xs

  one_more : (xs : List ℕ) (x : ℕ) (a b : Bool) → NoneSoFar xs a → (r : Bool) × P x r × (b ≡ (a || r)) → NoneSoFar (xs ++ x ∷ []) b
  one_more xs x a b h t e = let n = or_parts a t.0 (sym t.2 ∙ e) in All-push (λ y. P y false) xs x (h n.0) (subst (P x) n.1 t.1)

pub returns : goal.returns
returns g c =
    let x = c.args in
    let P : ℕ → Bool → Type 0 = λ y b. goal.F-post g x.test.now y x.key b in
    let none : (k d : ℕ) → k < 0 → P d false = λ k d h. absurd (omega arith) in
    fold_over fronts (λ y. y.now) _ (NoneSoFar P) _ (λ ys a y b q h k. (one_more P ys y.now a b h (search rules), search rules)) _ x.eight.now
    false c.fold.result (YieldsList-from_slice _ c.iter.ensures.rest).runs (λ e. none) c.fold.ensures.ran
