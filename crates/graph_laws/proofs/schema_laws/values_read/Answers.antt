use Rattle.graph_laws.proofs.PlainValues.{plain_carried}
use Rattle.graph_laws.proofs.schema_laws.values_read.Goals as goal

pub returns : goal.returns
returns c = plain_carried
