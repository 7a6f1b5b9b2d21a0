use Rattle.std.proofs.Common.{◌≡◌, ◌-◌}
use Rattle.laws.specs.Fold.{fold_range}
use Rattle.rules.specs.Step.{settle_turn, settled_all}
use Rattle.machine.proofs.settling.settled_all.Given as goal

abbrev pub invariant-loop-word : goal.invariant-loop-word
invariant-loop-word l =
    fold_range (settle_turn l.d l.c) l.word (l.d.words - l.word) l.values ≡ settled_all l.d l.c
