use Rattle.ice_proxy.proofs.WholeText.{text_read_back}
use Rattle.ice_proxy.proofs.laws.texts_read_back.Goals as goal

pub returns : goal.returns
returns c = text_read_back
