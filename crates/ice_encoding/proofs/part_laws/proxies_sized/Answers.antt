use Rattle.std.proofs.Common.{arith}
use Rattle.ice_encoding.proofs.Proxied.{proxy_sizes}
use Rattle.ice_encoding.proofs.part_laws.proxies_sized.Goals as goal

pub returns : goal.returns
returns c p is = proxy_sizes 2147483647 p (omega arith) is
