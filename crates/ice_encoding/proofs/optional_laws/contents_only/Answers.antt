use Rattle.ice_encoding.specs.Port.{by_number}
use Rattle.ice_encoding.proofs.Values.{number_lawful}
use Rattle.ice_encoding.proofs.Contents.{content_only}
use Rattle.ice_encoding.proofs.optional_laws.contents_only.Goals as goal

pub returns : goal.returns
returns c t shape r v h = let o = content_only by_number number_lawful t shape tt tt r v h in o.2
