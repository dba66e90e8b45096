use Rattle.ice_proxy.specs.Grammar.{proxy_text}
use Rattle.ice_proxy.specs.Spelled.{SpellsProxy}
use Rattle.ice_proxy.specs.Breaks.{ProxyBreaks}
use Rattle.ice_proxy.proofs.PieceFaults.{spelled_proxy, proxy_spelled, proxy_broken, broken_proxy, one_or_other, one_value, one_place, not_both}
use Rattle.ice_proxy.proofs.laws.proxies_or_breaks.Goals as goal

pub returns-clause-each : goal.returns-clause-each
returns-clause-each c = one_or_other proxy_text SpellsProxy ProxyBreaks spelled_proxy proxy_spelled proxy_broken broken_proxy

pub returns-clause-one_proxy : goal.returns-clause-one_proxy
returns-clause-one_proxy c = one_value proxy_text SpellsProxy ProxyBreaks spelled_proxy proxy_spelled proxy_broken broken_proxy

pub returns-clause-one_place : goal.returns-clause-one_place
returns-clause-one_place c = one_place proxy_text SpellsProxy ProxyBreaks spelled_proxy proxy_spelled proxy_broken broken_proxy

pub returns-clause-apart : goal.returns-clause-apart
returns-clause-apart c = not_both proxy_text SpellsProxy ProxyBreaks spelled_proxy proxy_spelled proxy_broken broken_proxy
