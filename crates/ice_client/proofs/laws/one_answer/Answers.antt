use Rattle.ice_client.proofs.OneRow.{one_answer}
use Rattle.ice_client.proofs.laws.one_answer.Goals as goal

pub returns : goal.returns
returns c = one_answer
