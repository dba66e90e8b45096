use Rattle.ice_proxy.proofs.Readings.{texts_read, quotes_read}
use Rattle.ice_proxy.proofs.word_laws.texts_printed.Goals as goal

pub returns-clause-printed : goal.returns-clause-printed
returns-clause-printed c = texts_read

pub returns-clause-quoted : goal.returns-clause-quoted
returns-clause-quoted c = quotes_read
