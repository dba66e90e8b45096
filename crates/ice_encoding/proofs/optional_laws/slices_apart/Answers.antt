use Rattle.ice_encoding.specs.Port.{by_number}
use Rattle.ice_encoding.proofs.Values.{number_lawful, spelled_apart}
use Rattle.ice_encoding.specs.OptionalMembers.{slice_members_at, SpellsSliceMembers}
use Rattle.ice_encoding.proofs.Contents.{slice_members_lawful}
use Rattle.ice_encoding.proofs.optional_laws.slices_apart.Goals as goal

pub returns : goal.returns
returns c t flagged shape a b x y v w h g e =
    let p = spelled_apart by_number.seen (slice_members_at by_number.read t flagged shape) (SpellsSliceMembers by_number t flagged shape) (slice_members_lawful by_number number_lawful t shape flagged).only a b x y v w tt tt tt h g e in
    (p.0, p.1)
