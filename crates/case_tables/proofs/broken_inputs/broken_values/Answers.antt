use Rattle.std.proofs.Common.{refl}
use Rattle.std.specs.Fmt.{digits}
use Rattle.case_tables.proofs.broken_inputs.broken_values.Goals as goal

pub returns : goal.returns
unfolding digits
returns c = refl
