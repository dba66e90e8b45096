use Rattle.once_law.proofs.Cut.{cut_calls}
use Rattle.once_law.proofs.cut_call.Goals as goal

pub returns : goal.returns
returns c = cut_calls
