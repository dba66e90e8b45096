use Rattle.std.proofs.Common.{refl}
use Rattle.std.proofs.lemmas.Result.{on_ok_weaker}
use Rattle.ice_values.proofs.reader.ValueReader.give.Goals as goal

pub returns : goal.returns
returns c = on_ok_weaker c.give.result (λ e. (refl, e)) c.give.ensures
