use Rattle.std.proofs.Common.{arith}
use Rattle.ice_proxy.proofs.Sized.{text_sized}
use Rattle.serve_command.proofs.texts.proxy_of.Goals as goal

pub returns-clause-sizes : goal.returns-clause-sizes
returns-clause-sizes c = text_sized c.args.text.now c.in_ok-parse_text.field-0 (omega (arith, c.requires)) c.in_ok-parse_text.ensures
