use Rattle.std.proofs.Common.{◌∙◌}
use Rattle.ice_proxy.proofs.Readings.{utf8_some, utf8_none}
use Rattle.ice_proxy.proofs.reading.utf8_name.Goals as goal

pub returns-in_ok-of-in-Ok : goal.returns-in_ok-of-in-Ok
returns-in_ok-of-in-Ok c = utf8_some c.args.bytes.now _ (c.in_ok-of-in-Ok.ensures ∙ c.in-Ok.ensures.cases.0) c.in-Ok.ensures.cases.1

pub returns-in-Err : goal.returns-in-Err
returns-in-Err c = utf8_none c.args.bytes.now c.in-Err.ensures.cases.0
