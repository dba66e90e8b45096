use Rattle.retry_core.proofs.Servers.{closes_lem}
use Rattle.retry_core.proofs.laws.server_closes_last.Goals as goal

pub returns : goal.returns
returns c = closes_lem
