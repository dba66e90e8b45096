use Rattle.ice_encoding.specs.Port.{by_number}
use Rattle.ice_encoding.proofs.Rising.{content_present, slice_present}
use Rattle.ice_encoding.proofs.optional_laws.tags_known.Goals as goal

pub returns-clause-contents : goal.returns-clause-contents
returns-clause-contents c t shape bytes v h = content_present by_number t shape bytes v tt tt h

pub returns-clause-slices : goal.returns-clause-slices
returns-clause-slices c t flagged shape bytes v h = slice_present by_number t flagged shape bytes v tt tt h
