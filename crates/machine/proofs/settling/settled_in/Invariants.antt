use Rattle.std.proofs.Common.{◌≡◌, ◌<◌, ℕ, false}
use Rattle.rules.specs.Settled.{settles}
use Rattle.machine.proofs.settling.settled_in.Given as goal

abbrev pub invariant-loop-q : goal.invariant-loop-q
invariant-loop-q l = (k : ℕ) → k < l.q → settles l.d l.i l.word l.c.lines l.c.entries k ≡ false
