use Rattle.ice_proxy.proofs.PieceFaults.{spelled_proxy, proxy_spelled, spelled_identity, identity_spelled}
use Rattle.ice_proxy.proofs.laws.texts_spelled.Goals as goal

pub returns-clause-proxy : goal.returns-clause-proxy
returns-clause-proxy c = λ text p. (spelled_proxy text p, proxy_spelled text p)

pub returns-clause-identity : goal.returns-clause-identity
returns-clause-identity c = λ text i. (spelled_identity text i, identity_spelled text i)
