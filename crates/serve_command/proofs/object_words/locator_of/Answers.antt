use Rattle.std.proofs.Common.{refl, None}
use Rattle.serve_command.proofs.Cuts.{parted}
use Rattle.serve_command.proofs.object_words.locator_of.Goals as goal

pub returns-in-None : goal.returns-in-None
returns-in-None c = (refl, parted c.args.identity.now None c.in-None.ensures.cases)
