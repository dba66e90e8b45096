use Rattle.object_adapter.proofs.Dispatched.{dispatched}
use Rattle.object_adapter.proofs.laws.objects_are_there.Goals as goal

pub returns : goal.returns
returns c = dispatched
