use Rattle.ice_proxy.proofs.PieceKinds.{breaks_kind, kind_breaks}
use Rattle.ice_proxy.proofs.laws.kinds_of_breaks.Goals as goal

pub returns : goal.returns
returns c = λ text ps before left has. (breaks_kind text ps before left has, λ h. kind_breaks ps before left h.0 h.1)
