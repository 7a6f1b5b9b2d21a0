use Prim.Native.Nat.{ℕ}
use mathlib.Core.Path.{◌≡◌}
use mathlib.Core.Bool.{Bool, true, false}
use Rattle.std.proofs.lemmas.Iterator.{IsFirst-from_position, YieldsList-from_slice}
use Rattle.entry.specs.Packing.{unpack}
use Rattle.caches.proofs.Found.{placed}
use borrow.Author.Rules.{rules}
use Rattle.caches.proofs.first_entry.Goals as goal

pub returns : goal.returns
returns g c =
    let x = c.args in
    let test : ℕ → Bool = λ y. g.has (unpack y) x.key in
    let found = IsFirst-from_position _ _ _ (λ y. test y ≡ true) (λ y. test y ≡ false) c.position.ensures.ran
    (YieldsList-from_slice _ c.iter.ensures.rest) (λ y q k. search rules) (λ y q k. search rules) in
    placed x.c.now.entries x.p x.d.entries _ _ (search rules) (search rules) (search rules) test c.min-from.result c.passed_over.result _ _
    (λ k a b. search rules) (search rules) (λ k b. search (rules, c.passed_over.ensures.none k b)) found (search rules)
