use Rattle.ice_encoding.proofs.Proxied.{proxy_lawful}
use Rattle.ice_encoding.proofs.part_laws.proxies_only.Goals as goal

pub returns : goal.returns
returns c = proxy_lawful.only
