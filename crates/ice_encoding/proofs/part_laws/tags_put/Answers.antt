use Rattle.ice_encoding.proofs.Tagged.{tag_lawful, tag_is, tag_within}
use Rattle.ice_encoding.proofs.part_laws.tags_put.Goals as goal

pub returns-clause-spelled : goal.returns-clause-spelled
returns-clause-spelled c number format small bits = tag_lawful.put (number, format) (tag_is (number, format) small bits)

pub returns-clause-shortest : goal.returns-clause-shortest
returns-clause-shortest c bytes t fits h = let is = tag_within t (tag_lawful.sort bytes t fits h) in (is.0, is.1, tag_lawful.shortest bytes t fits h)
