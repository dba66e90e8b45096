use Rattle.call_command.proofs.Locating.{results_fit, told_so}
use Rattle.call_command.proofs.telling.locator_line.Goals as goal

pub outcome_line-line-requires : goal.outcome_line-line-requires
outcome_line-line-requires c = results_fit c.in_ok-schema.schema c.in_ok-schema.ensures c.in-Some.operation.now c.in-Some.ensures c.rules.ensures

pub returns : goal.returns
returns c = told_so c.in_ok-schema.schema c.in_ok-schema.ensures c.in-Some.operation.now c.in-Some.ensures c.args.outcome.now c.outcome_line-line.result c.outcome_line-line.ensures
