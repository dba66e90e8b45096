use Rattle.ice_encoding.specs.Proxy.{proxy}
use Rattle.ice_encoding.proofs.Proxied.{proxy_lawful}
use Rattle.ice_encoding.proofs.Within.{proxy_within, can_be_written}
use Rattle.ice_encoding.proofs.part_laws.proxies_canonical.Goals as goal

pub returns-clause-within : goal.returns-clause-within
returns-clause-within c = proxy_within

pub returns-clause-written : goal.returns-clause-written
returns-clause-written c = can_be_written

pub returns-clause-spelled : goal.returns-clause-spelled
returns-clause-spelled c = proxy_lawful.put

pub returns-clause-read : goal.returns-clause-read
returns-clause-read c p r s is took = proxy_lawful.only r s (proxy.put p) p took (proxy_lawful.put p is)

pub returns-clause-shortest : goal.returns-clause-shortest
returns-clause-shortest c bytes p fits h = (proxy_lawful.sort bytes p fits h, proxy_lawful.shortest bytes p fits h)
