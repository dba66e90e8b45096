use Rattle.std.proofs.Common.{ℕ, List, [], sym, subst}
use Rattle.ice_encoding.specs.Names.{names_of}
use Rattle.ice_encoding.specs.CanonicalGraph.{each_once}
use Rattle.graph_laws.specs.FirstUse.{IsByFirstUse}
use Rattle.graph_laws.proofs.FirstUse.{one_table, once_by_first_use}
use Rattle.graph_laws.proofs.canonicity_laws.tables_by_first_use.Goals as goal

pub returns : goal.returns
returns c = λ class content table. (
  λ h. one_table (names_of content) table (each_once [] (names_of content)) h (once_by_first_use (names_of content)),
  λ e. subst (λ (l : List ℕ). IsByFirstUse (names_of content) l) (sym e) (once_by_first_use (names_of content)),
)
