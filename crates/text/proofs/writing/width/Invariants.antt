use Rattle.std.proofs.Common.{◌≡◌, ◌-◌}
use Rattle.text.specs.Writing.{WIDTH_MOST, width_from, width_of}
use Rattle.text.proofs.writing.width.Given as goal

abbrev pub invariant-loop-w : goal.invariant-loop-w
invariant-loop-w l = width_from (WIDTH_MOST - l.w) l.rest l.w ≡ width_of l.v
