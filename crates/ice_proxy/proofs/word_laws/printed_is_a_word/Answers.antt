use Rattle.ice_proxy.proofs.StandingWords.{texts_stand, quotes_stand, identities_stand}
use Rattle.ice_proxy.proofs.word_laws.printed_is_a_word.Goals as goal

pub returns-clause-text : goal.returns-clause-text
returns-clause-text c = texts_stand

pub returns-clause-quoted : goal.returns-clause-quoted
returns-clause-quoted c = quotes_stand

pub returns-clause-identity : goal.returns-clause-identity
returns-clause-identity c = identities_stand
