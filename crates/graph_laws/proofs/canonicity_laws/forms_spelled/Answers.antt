use Rattle.graph_laws.proofs.Schemas.{form_spelled, known_form_spelled, form_read}
use Rattle.graph_laws.proofs.canonicity_laws.forms_spelled.Goals as goal

pub returns-clause-all : goal.returns-clause-all
returns-clause-all c = form_spelled

pub returns-clause-known : goal.returns-clause-known
returns-clause-known c = known_form_spelled

pub returns-clause-only : goal.returns-clause-only
returns-clause-only c = form_read
