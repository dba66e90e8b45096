use Rattle.ice_encoding.specs.Port.{by_number}
use Rattle.ice_encoding.proofs.Values.{number_lawful}
use Rattle.ice_encoding.proofs.Contents.{content_apart}
use Rattle.ice_encoding.proofs.optional_laws.contents_apart.Goals as goal

pub returns : goal.returns
returns c t shape bytes v w h g = content_apart by_number number_lawful t shape tt tt tt bytes v w h g
