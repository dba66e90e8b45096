use Rattle.ice_encoding.specs.Port.{by_number}
use Rattle.ice_encoding.proofs.Values.{number_lawful}
use Rattle.ice_encoding.proofs.Contents.{slice_members_lawful}
use Rattle.ice_encoding.proofs.optional_laws.slices_only.Goals as goal

pub returns : goal.returns
returns c t flagged shape = (slice_members_lawful by_number number_lawful t shape flagged).only
