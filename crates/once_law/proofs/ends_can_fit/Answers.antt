use Rattle.once_law.proofs.Fitting.{can_fit}
use Rattle.once_law.proofs.ends_can_fit.Goals as goal

pub returns : goal.returns
returns c = can_fit
