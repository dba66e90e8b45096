use Rattle.canonical_inputs.proofs.Slices.{slice_stands}
use Rattle.canonical_inputs.proofs.laws.canonical_slices_stay.Goals as goal

pub returns : goal.returns
returns c = slice_stands
