use Rattle.ice_types.specs.declared.schema.TheConstants.{MOST_DEPTH}
use Rattle.slice_compat.specs.Reading.{Reads}
use Rattle.graph_laws.proofs.MeasuredThere.{same_optional}
use Rattle.graph_laws.proofs.schema_laws.formats_kept.Goals as goal

pub returns : goal.returns
unfolding Reads
returns c = λ t u kind other h. same_optional t u MOST_DEPTH kind other h
