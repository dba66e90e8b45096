use Rattle.retry_core.proofs.Clients.{keeps_lem}
use Rattle.retry_core.proofs.laws.client_keeps_to_its_retries.Goals as goal

pub returns : goal.returns
returns c = keeps_lem
