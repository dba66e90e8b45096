use Rattle.ice_values.proofs.Costs.{pairs-fewer}
use Rattle.ice_values.proofs.begun.begun_dict.Goals as goal

pub returns-clause-less : goal.returns-clause-less
returns-clause-less c = rw c.new.ensures (pairs-fewer c.args.schema.now c.args.levels c.in_ok-decl.decl.now.key c.in_ok-decl.decl.now.value c.in_ok-count.count _ c.is_within.ensures)
