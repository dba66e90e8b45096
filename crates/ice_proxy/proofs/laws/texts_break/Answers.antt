use Rattle.ice_proxy.proofs.PieceFaults.{proxy_broken, broken_proxy, identity_broken, broken_identity}
use Rattle.ice_proxy.proofs.laws.texts_break.Goals as goal

pub returns-clause-proxy : goal.returns-clause-proxy
returns-clause-proxy c = λ text place. (proxy_broken text place, broken_proxy text place)

pub returns-clause-identity : goal.returns-clause-identity
returns-clause-identity c = λ text place. (identity_broken text place, broken_identity text place)
