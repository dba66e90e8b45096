use Rattle.ice_proxy.proofs.Typed.{whole_text_typed}
use Rattle.ice_proxy.proofs.laws.texts_typed.Goals as goal

pub returns : goal.returns
returns c = whole_text_typed
