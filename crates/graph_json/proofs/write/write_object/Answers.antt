use Rattle.graph_json.specs.CanonicalValues.{notation}
use Rattle.graph_json.proofs.write.write_object.Goals as goal

pub returns : goal.returns
unfolding notation
returns c = c.write_row.ensures
