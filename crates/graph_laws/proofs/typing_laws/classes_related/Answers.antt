use Rattle.graph_laws.proofs.Related.{related}
use Rattle.graph_laws.proofs.typing_laws.classes_related.Goals as goal

pub returns : goal.returns
returns c t class base rules = related t class base rules
