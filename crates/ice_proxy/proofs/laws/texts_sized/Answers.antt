use Rattle.ice_proxy.proofs.Sized.{text_sized}
use Rattle.ice_proxy.proofs.laws.texts_sized.Goals as goal

pub returns : goal.returns
returns c = text_sized
