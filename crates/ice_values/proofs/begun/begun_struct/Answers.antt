use Rattle.ice_values.proofs.Costs.{members-fewer}
use Rattle.ice_values.proofs.begun.begun_struct.Goals as goal

pub returns-in-Ok-clause-less : goal.returns-in-Ok-clause-less
returns-in-Ok-clause-less c = members-fewer c.args.schema.now c.args.levels _ c.args.at _
