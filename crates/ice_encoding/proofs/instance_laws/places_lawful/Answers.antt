use Rattle.ice_encoding.proofs.References.{in_table_lawful}
use Rattle.ice_encoding.proofs.instance_laws.places_lawful.Goals as goal

pub returns : goal.returns
returns c = in_table_lawful
