use Rattle.graph_laws.proofs.PlainValues.{encapsulation_carried}
use Rattle.graph_laws.proofs.schema_laws.encapsulations_read.Goals as goal

pub returns : goal.returns
returns c = encapsulation_carried
