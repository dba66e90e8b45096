use Rattle.ice_encoding.specs.Tags.{tag}
use Rattle.ice_encoding.proofs.Joined.{apart}
use Rattle.ice_encoding.proofs.Tagged.{tag_lawful}
use Rattle.ice_encoding.proofs.part_laws.tags_apart.Goals as goal

pub returns : goal.returns
returns c = apart tag tag_lawful
