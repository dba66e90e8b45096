use Rattle.ice_encoding.proofs.Graphs.{references_lawful}
use Rattle.ice_encoding.proofs.instance_laws.references_lawful.Goals as goal

pub returns : goal.returns
returns c = references_lawful
