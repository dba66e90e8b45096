use Rattle.std.proofs.Common.{sym, ◌∙◌}
use Rattle.ice_types.proofs.Levels.{shallow, deep, unknown}
use Rattle.ice_types.proofs.schema.Schema.measure_within.Goals as goal

pub returns-in_err-found-clause-found : goal.returns-in_err-found-clause-found
returns-in_err-found-clause-found c =
    c.from_residual.ensures ∙ sym (unknown c.args.self.now 100 c.args.levels c.requires c.args.kind (sym c.measure.ensures ∙ c.in_err-found.was))

pub returns-then-found-levels-clause-found : goal.returns-then-found-levels-clause-found
returns-then-found-levels-clause-found c =
    sym (shallow c.args.self.now 100 c.args.levels c.args.kind c.in_ok-found.found (sym c.measure.ensures ∙ c.in_ok-found.was) c.if-found-levels.true)

pub returns-else-found-levels-clause-found : goal.returns-else-found-levels-clause-found
returns-else-found-levels-clause-found c =
    sym (deep c.args.self.now 100 c.args.levels c.requires c.args.kind c.in_ok-found.found (sym c.measure.ensures ∙ c.in_ok-found.was) c.if-found-levels.false)
