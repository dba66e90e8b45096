use Rattle.ice_client.proofs.OneRow.{one_row}
use Rattle.ice_client.proofs.laws.one_row.Goals as goal

pub returns : goal.returns
returns c = one_row
