use Rattle.std.proofs.Common.{arith}
use Rattle.std.proofs.lemmas.Str.Pattern.{starts_char}
use Rattle.ice_types.proofs.Hashed.{starts_hash}
use Rattle.ice_types.proofs.slice_ids.is_numbered.Goals as goal

pub returns : goal.returns
returns c = starts_hash c.args.id.now c.starts_with.result (starts_char 35 c.args.id.now c.starts_with.result c.starts_with.ensures.cases (omega arith) (omega arith))
