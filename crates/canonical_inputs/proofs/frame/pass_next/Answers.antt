use Rattle.std.proofs.Common.{arith}
use Rattle.canonical_inputs.proofs.Looked.{done}
use Rattle.canonical_inputs.proofs.frame.pass_next.Goals as goal

pub returns-in-None : goal.returns-in-None
returns-in-None c = done c.args.schema.now c.args.input.now c.args.at c.args.met.now c.args.frame.now (omega arith) c.in-None.is
