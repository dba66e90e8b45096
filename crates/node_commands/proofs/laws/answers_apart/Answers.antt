use Rattle.node_commands.proofs.OneAnswer.{answers_apart}
use Rattle.node_commands.proofs.laws.answers_apart.Goals as goal

pub returns : goal.returns
returns c = answers_apart
