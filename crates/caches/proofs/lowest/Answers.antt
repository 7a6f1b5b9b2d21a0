use Rattle.std.proofs.Common.{◌∙◌, sym, arith, rules, below_more}
use borrow.Author.Tests.{lt-ltb}
use lib.Dec.{eqb}
use Rattle.laws.specs.Choice.{both_not}
use Rattle.laws.specs.Search.{first_not}
use Rattle.entry.specs.Kinds.{tag_number}
use Rattle.rules.specs.State.{copy_at}
use Rattle.rules.specs.Own.{is_free, lowest}
use Rattle.caches.proofs.Found.{first_at, nowhere, some_below, none_below}
use Rattle.caches.proofs.lowest.Goals as goal

pub returns-in_err-i : goal.returns-in_err-i
unfolding lowest
returns-in_err-i c =
    let x = c.args in
    let h = none_below x.d.entries _ (sym c.in_err-i.was ∙ c.first_entry.ensures) in
    search rules ∙
    nowhere (is_free x.c.now.entries x.p (tag_number x.tag) x.taken) x.d.entries
    (λ k a b. both_not _ _ (first_not (λ i. eqb (copy_at x.c.now.entries x.p i).tag (tag_number x.tag)) 0 x.d.entries k a (omega arith)))

pub loop-i-init : goal.loop-i-init
loop-i-init c =
    let x = c.args in
    let f = some_below x.d.entries _ _ (sym c.in_ok-i.was ∙ c.first_entry.ensures) in
    λ k b. both_not _ _ (first_not (λ i. eqb (copy_at x.c.now.entries x.p i).tag (tag_number x.tag)) 0 x.d.entries k (omega arith) (omega arith))

pub loop-i-preserved : goal.loop-i-preserved
loop-i-preserved c = below_more _ _ c.loop-i.invariant (sym c.is_free.ensures ∙ c.if-is_free.false)

pub returns-then-i-d : goal.returns-then-i-d
unfolding lowest
returns-then-i-d c = nowhere _ _ (λ k a b. c.loop-i.invariant k (omega (arith, b, c.if-i-d.true)))

pub returns-then-is_free : goal.returns-then-is_free
unfolding lowest
returns-then-is_free c =
    let x = c.args in
    let p = is_free x.c.now.entries x.p (tag_number x.tag) x.taken in
    let at = first_at p c.loop-i.i x.d.entries (search rules) (sym c.is_free.ensures ∙ c.if-is_free.true) (λ k a b. c.loop-i.invariant k b) in
    rw (at, lt-ltb c.loop-i.i x.d.entries (search rules))
