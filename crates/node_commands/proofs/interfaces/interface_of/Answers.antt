use Rattle.node_commands.proofs.OneInterface.{found_interface}
use Rattle.node_commands.proofs.interfaces.interface_of.Goals as goal

pub returns : goal.returns
returns c = found_interface c.args.schema.now c.args.id.now c.interface.result c.rules.ensures c.interface.ensures
