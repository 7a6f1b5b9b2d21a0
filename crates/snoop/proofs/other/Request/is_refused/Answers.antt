use Rattle.std.proofs.Common.{◌∙◌, sym, length-set, rules}
use Rattle.laws.specs.Search.{first_miss}
use Rattle.snoop.proofs.Apart.{note}
use Rattle.snoop.proofs.other.Request.is_refused.Goals as goal

pub loop-q-preserved : goal.loop-q-preserved
loop-q-preserved c =
    let v = c.loop-q.invariant in (
      sym (first_miss _ _ _ (search rules) (sym c.opposes_from.ensures ∙ c.if-opposes_from.false)) ∙ v.0,
      note c.args.self.now.dims _ _ _ _ _ _ (search rules) v.2 c.first_of-first.ensures v.1,
      length-set _ _ _ ∙ v.2,
    )
