use Rattle.ice_node.proofs.Forms.{forms_apart}
use Rattle.ice_node.proofs.laws.net_forms_apart.Goals as goal

pub returns : goal.returns
returns c = forms_apart
