use Rattle.ice_encoding.specs.Port.{by_number}
use Rattle.ice_encoding.proofs.Values.{number_lawful}
use Rattle.ice_encoding.proofs.Contents.{content_found}
use Rattle.ice_encoding.proofs.optional_laws.contents_found.Goals as goal

pub returns : goal.returns
returns c t shape r x = content_found by_number number_lawful t shape tt r x
