use Rattle.ice_messages.proofs.Runs.{first_messages}
use Rattle.ice_messages.proofs.laws.first_messages.Goals as goal

pub returns : goal.returns
returns c bytes more left rest ns ms end one two = first_messages ns ms bytes more left rest end one two
