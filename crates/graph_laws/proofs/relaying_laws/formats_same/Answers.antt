use Rattle.graph_laws.proofs.Rows.{agrees}
use Rattle.graph_laws.proofs.Measured.{same_optional}
use Rattle.graph_laws.proofs.relaying_laws.formats_same.Goals as goal

pub returns : goal.returns
returns c = λ t u kind other rules lacks same. same_optional t u (agrees t u rules lacks) kind other same
