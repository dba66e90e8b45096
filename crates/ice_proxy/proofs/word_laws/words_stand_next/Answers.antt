use Rattle.ice_proxy.proofs.Following.{word_behind}
use Rattle.ice_proxy.proofs.word_laws.words_stand_next.Goals as goal

pub returns : goal.returns
returns c = word_behind
