use Rattle.std.proofs.Common.{◌≡◌, length, ◌-◌}
use Rattle.laws.specs.Until.{until_range}
use Rattle.rules.specs.Run.{carried, stops_at, turn}
use Rattle.runs.specs.Lists.{step_lists, lists, SameSlices}
use Rattle.runs.proofs.Lengths.{SameLengths}
use Rattle.runs.proofs.running.run_sound.Given as goal

abbrev pub invariant-loop-i : goal.invariant-loop-i
invariant-loop-i l =
    let x = step_lists l.steps in
    let k = l.initial in
    let run = until_range (stops_at l.d x) (turn l.d x) in
    (run l.i (length x.ops - l.i) (carried l.c (lists l.columns)) ≡ run 0 (length x.ops) (carried k.c (lists k.columns))) ×
    SameLengths (lists l.columns) (lists k.columns) ×
    SameSlices l.columns k.columns
