use Rattle.ice_encoding.proofs.Ports.{numbers_read, places_read, inline_read}
use Rattle.ice_encoding.proofs.instance_laws.values_with_references.Goals as goal

pub returns-clause-numbers : goal.returns-clause-numbers
returns-clause-numbers c = numbers_read

pub returns-clause-places : goal.returns-clause-places
returns-clause-places c = λ t tabled kind. places_read tabled t kind

pub returns-clause-inline : goal.returns-clause-inline
returns-clause-inline c = λ t reach kind. inline_read reach t kind
