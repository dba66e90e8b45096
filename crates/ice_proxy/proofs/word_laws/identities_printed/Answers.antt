use Rattle.ice_proxy.proofs.Readings.{identities_read}
use Rattle.ice_proxy.proofs.Sole.{identities_alone}
use Rattle.ice_proxy.proofs.word_laws.identities_printed.Goals as goal

pub returns-clause-word : goal.returns-clause-word
returns-clause-word c = identities_read

pub returns-clause-whole : goal.returns-clause-whole
returns-clause-whole c = identities_alone
