use mathlib.Core.Path.{◌∙◌, sym}
use native.Mathlib.Omega.{arith}
use Rattle.caches.proofs.Live.{own_none, before_live, own_tentative, own_normal, own_behind}
use Rattle.caches.proofs.Found.{some_below, none_below}
use borrow.Author.Rules.{rules}
use Rattle.caches.proofs.own_entry.Goals as goal

pub returns-in_default : goal.returns-in_default
returns-in_default c = sym (own_none _ _ _ _ (none_below _ _ (sym c.in_default.is ∙ c.live_entry.ensures)))

pub returns-then-eq : goal.returns-then-eq
returns-then-eq c =
    let f = some_below _ _ _ (sym c.in-Some.is ∙ c.live_entry.ensures) in
    sym (own_tentative _ _ _ _ c.in-Some.i (omega (arith, f)) f.1 (search rules))

pub find_from-requires : goal.find_from-requires
find_from-requires c =
    let x = c.args in
    let f = some_below _ _ _ (sym c.in-Some.is ∙ c.live_entry.ensures) in
    λ k h. before_live x.c.now.entries x.p x.d.entries x.word k (omega (arith, f))

pub returns-in-Some-find_from : goal.returns-in-Some-find_from
returns-in-Some-find_from c =
    let f = some_below _ _ _ (sym c.in-Some-find_from.is ∙ c.find_from.ensures) in
    rw (← f.1) (sym (own_behind _ _ _ _ f.0))

pub returns-in-None : goal.returns-in-None
returns-in-None c =
    let f = some_below _ _ _ (sym c.in-Some.is ∙ c.live_entry.ensures) in
    let h = none_below _ _ (sym c.in-None.is ∙ c.find_from.ensures) in
    sym (own_normal _ _ _ _ c.in-Some.i (omega (arith, f)) f.1 (search rules) h)
