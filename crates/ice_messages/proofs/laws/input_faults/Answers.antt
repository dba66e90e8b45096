use Rattle.ice_messages.proofs.Inputs.{input_broken, input_breaks}
use Rattle.ice_messages.proofs.laws.input_faults.Goals as goal

pub returns : goal.returns
returns c = λ bytes fault fits. (input_broken bytes fits fault, input_breaks bytes fault)
