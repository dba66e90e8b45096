use Rattle.graph_json.specs.ReadingValues.{noted_value}
use Rattle.graph_json.proofs.read.value_with.Goals as goal

pub returns : goal.returns
unfolding noted_value
returns c = c.read_level.ensures
