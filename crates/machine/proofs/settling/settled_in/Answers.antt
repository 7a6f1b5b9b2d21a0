use Rattle.std.proofs.Common.{◌∙◌, sym}
use Rattle.machine.proofs.Values.{settles_at, settles_nowhere}
use Rattle.machine.proofs.settling.settled_in.Goals as goal

pub returns-in-Some : goal.returns-in-Some
returns-in-Some c =
    let x = c.args in
    settles_at x.d x.word x.c.now _ c.home-i.ensures _ _ c.loop-q-test.true c.loop-q.invariant
    (sym c.in-Some.is ∙ c.settling_value.ensures)

pub returns : goal.returns
returns c =
    let x = c.args in
    settles_nowhere x.d x.word x.c.now _ c.home-i.ensures _ _ c.loop-q-test.false c.loop-q.invariant c.word_at.ensures
