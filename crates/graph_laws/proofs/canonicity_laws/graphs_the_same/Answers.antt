use Rattle.graph_laws.proofs.Reached.{reached-small}
use Rattle.graph_laws.proofs.Sameness.{same_back, same_both}
use Rattle.graph_laws.proofs.There.{same_itself}
use Rattle.graph_laws.proofs.canonicity_laws.graphs_the_same.Goals as goal

pub returns-clause-itself : goal.returns-clause-itself
returns-clause-itself c = λ t shape g typed few. same_itself g (reached-small t shape g typed few)

pub returns-clause-back : goal.returns-clause-back
returns-clause-back c = same_back

pub returns-clause-onward : goal.returns-clause-onward
returns-clause-onward c = λ g h k one two. same_both h g k (same_back g h one) two
