use Rattle.std.proofs.Common.{rules, tests, ◌∙◌, eqb}
use Rattle.std.proofs.lemmas.Iterator.Search.{all_from_yields_List}
use Rattle.std.proofs.lemmas.Iterator.{YieldsList-from_slice}
use Rattle.runs.specs.Lists.{step_lists, lists}
use Rattle.runs.proofs.Lengths.{lengths_ok, too_long}
use Rattle.runs.proofs.columns.Columns.fit.Goals as goal

pub returns-then-n-le-MOST_STEPS : goal.returns-then-n-le-MOST_STEPS
returns-then-n-le-MOST_STEPS c =
    all_from_yields_List (λ x. eqb x c.len-n.result) _ _ c.all.result c.all.ensures.ran (YieldsList-from_slice _ c.iter.ensures.rest)
    (λ x b q k. search (rules, tests))
    ∙ lengths_ok (step_lists c.args.steps.now) (lists c.args.self.now) _ c.len-n.ensures c.if-n-le-MOST_STEPS.true

pub returns-else-n-le-MOST_STEPS : goal.returns-else-n-le-MOST_STEPS
returns-else-n-le-MOST_STEPS c =
    too_long (step_lists c.args.steps.now) (lists c.args.self.now) _ c.len-n.ensures c.if-n-le-MOST_STEPS.false
