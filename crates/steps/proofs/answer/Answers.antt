use Rattle.steps.proofs.Unrefused.{load_told, store_told, transact_told, commit_told, abort_told, validate_told, interrupt_told}
use Rattle.steps.proofs.answer.Goals as goal

pub returns-in-Load-clause-unrefused : goal.returns-in-Load-clause-unrefused
returns-in-Load-clause-unrefused c = load_told _ _ c.args.d _ _ _ c.load.ensures

pub returns-in-Store-clause-unrefused : goal.returns-in-Store-clause-unrefused
returns-in-Store-clause-unrefused c = store_told _ _ c.args.d _ _ _ _ c.store.ensures

pub returns-in-Lt-clause-unrefused : goal.returns-in-Lt-clause-unrefused
returns-in-Lt-clause-unrefused c = transact_told _ _ c.args.d _ _ _ _ _ c.transact-told.ensures

pub returns-in-Ltx-clause-unrefused : goal.returns-in-Ltx-clause-unrefused
returns-in-Ltx-clause-unrefused c = transact_told _ _ c.args.d _ _ _ _ _ c.transact-told-in-Ltx.ensures

pub returns-in-St-clause-unrefused : goal.returns-in-St-clause-unrefused
returns-in-St-clause-unrefused c = transact_told _ _ c.args.d _ _ _ _ _ c.transact-told-in-St.ensures

pub returns-in-Commit-clause-unrefused : goal.returns-in-Commit-clause-unrefused
returns-in-Commit-clause-unrefused c = commit_told _ _ c.args.d _ _ c.commit.ensures

pub returns-in-Abort-clause-unrefused : goal.returns-in-Abort-clause-unrefused
returns-in-Abort-clause-unrefused c = abort_told _ _ c.args.d _ _ c.abort.ensures

pub returns-in-Validate-clause-unrefused : goal.returns-in-Validate-clause-unrefused
returns-in-Validate-clause-unrefused c = validate_told _ _ c.args.d _ _ c.validate.ensures

pub returns-in-Interrupt-clause-unrefused : goal.returns-in-Interrupt-clause-unrefused
returns-in-Interrupt-clause-unrefused c = interrupt_told _ _ c.args.d _ _ c.interrupt.ensures
