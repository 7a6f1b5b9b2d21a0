use Rattle.std.proofs.Common.{rules, refl}
use native.Mathlib.Omega.{arith}
use Rattle.rules.specs.Run.{run_sound}
use Rattle.runs.specs.Lists.{step_lists}
use Rattle.runs.proofs.Lengths.{written_same, in_steps, in_columns}
use Rattle.runs.proofs.Turns.{ran_out, halts, takes_turn}
use Rattle.runs.proofs.running.run_sound.Goals as goal

pub step_at-requires : goal.step_at-requires
step_at-requires c =
    in_steps _ _ c.requires _ (omega (arith, c.loop-i-test, c.len-i-end.ensures))

pub write-requires : goal.write-requires
write-requires c =
    in_columns _ _ c.requires _ (omega (arith, c.loop-i-test, c.len-i-end.ensures)) _ c.loop-i.invariant.1

pub returns-in-Err-clause-run : goal.returns-in-Err-clause-run
unfolding run_sound
returns-in-Err-clause-run c =
    halts c.args.d (step_lists c.args.steps.now) c.loop-i.i _ _ c.loop-i.invariant.0 (omega (arith, c.loop-i-test, c.len-i-end.ensures))
    _ c.step_at.ensures _ _ c.in-Err.ensures.told c.in-Err.refusal refl

pub loop-i-preserved : goal.loop-i-preserved
loop-i-preserved c = (
  takes_turn c.args.d (step_lists c.args.steps.now) c.loop-i.i _ _ c.loop-i.invariant.0 (omega (arith, c.loop-i-test, c.len-i-end.ensures))
      _ c.step_at.ensures _ _ c.in-Ok.ensures.told c.in-Ok.ensures.unrefused _ c.write.ensures.written,
  written_same _ _ _ c.loop-i.i c.in-Ok.told c.write.ensures.written c.loop-i.invariant.1,
  search rules,
)

pub returns-clause-run : goal.returns-clause-run
unfolding run_sound
returns-clause-run c =
    ran_out c.args.d (step_lists c.args.steps.now) c.loop-i.i _ _ c.loop-i.invariant.0
    (omega (arith, c.loop-i-test, c.len-i-end.ensures)) (omega (arith, c.loop-i.auto, c.len-i-end.ensures))
