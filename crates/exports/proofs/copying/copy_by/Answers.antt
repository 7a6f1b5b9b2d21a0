use Rattle.std.proofs.Common.{arith}
use Rattle.exports.proofs.Copied.{copied_more}
use Rattle.exports.proofs.copying.copy_by.Goals as goal

pub loop-i-preserved : goal.loop-i-preserved
loop-i-preserved g c =
    let s = c.loop-i in
    copied_more _ _ _ s.i _ _ c.loop-i-test.true (omega arith) c.index-from-i.is c.f.ensures s.invariant
