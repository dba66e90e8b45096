use Rattle.std.proofs.Common.{arith}
use Rattle.ice_proxy.proofs.Sized.{text_sized}
use Rattle.node_commands.proofs.proxy.proxy.Goals as goal

pub lines_of-lines-requires : goal.lines_of-lines-requires
lines_of-lines-requires c = text_sized c.args.text.now c.in_ok-proxy.proxy (omega (arith, c.requires)) c.in_ok-proxy.ensures
