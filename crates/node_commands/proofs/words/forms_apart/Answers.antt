use Rattle.node_commands.proofs.CommandForms as lemmas
use Rattle.node_commands.proofs.words.forms_apart.Goals as goal

pub returns : goal.returns
returns c = lemmas.forms_apart
