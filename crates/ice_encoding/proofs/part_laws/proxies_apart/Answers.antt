use Rattle.ice_encoding.specs.Proxy.{proxy}
use Rattle.ice_encoding.proofs.Joined.{apart}
use Rattle.ice_encoding.proofs.Proxied.{proxy_lawful}
use Rattle.ice_encoding.proofs.part_laws.proxies_apart.Goals as goal

pub returns : goal.returns
returns c = apart proxy proxy_lawful
