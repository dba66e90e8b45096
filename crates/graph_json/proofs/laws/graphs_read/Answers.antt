use Rattle.graph_json.proofs.Noted.{read_found, read_only}
use Rattle.graph_json.proofs.laws.graphs_read.Goals as goal

pub returns-clause-found : goal.returns-clause-found
returns-clause-found c = read_found

pub returns-clause-only : goal.returns-clause-only
returns-clause-only c = read_only
