use Rattle.graph_json.proofs.Listed.{graph_only}
use Rattle.graph_json.proofs.laws.listed_only.Goals as goal

pub returns : goal.returns
returns c t shape d g rules h = graph_only t rules shape d g h
