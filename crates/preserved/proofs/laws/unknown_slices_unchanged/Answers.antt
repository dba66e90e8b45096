use Rattle.preserved.proofs.Unchanged.{unchanged}
use Rattle.preserved.proofs.laws.unknown_slices_unchanged.Goals as goal

pub returns : goal.returns
returns c = unchanged
