use Rattle.ice_values.proofs.Costs.{items-fewer}
use Rattle.ice_values.proofs.begun.begun_seq.Goals as goal

pub returns-clause-less : goal.returns-clause-less
returns-clause-less c = items-fewer c.args.schema.now c.args.levels _ c.in_ok-decl.decl.now.element c.in_ok-count.count _ c.is_within.ensures
