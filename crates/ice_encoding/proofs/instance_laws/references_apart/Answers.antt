use Rattle.ice_encoding.proofs.Ports.{numbers_apart, places_apart, inline_apart}
use Rattle.ice_encoding.proofs.instance_laws.references_apart.Goals as goal

pub returns-clause-numbers : goal.returns-clause-numbers
returns-clause-numbers c = numbers_apart

pub returns-clause-places : goal.returns-clause-places
returns-clause-places c = places_apart

pub returns-clause-inline : goal.returns-clause-inline
returns-clause-inline c = inline_apart
