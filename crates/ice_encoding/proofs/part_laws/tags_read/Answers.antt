use Rattle.ice_encoding.proofs.Tagged.{tag_lawful}
use Rattle.ice_encoding.proofs.part_laws.tags_read.Goals as goal

pub returns-clause-found : goal.returns-clause-found
returns-clause-found c = tag_lawful.found

pub returns-clause-only : goal.returns-clause-only
returns-clause-only c = tag_lawful.only
