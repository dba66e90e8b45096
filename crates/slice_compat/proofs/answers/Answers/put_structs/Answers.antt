use Rattle.slice_compat.proofs.Putting.{structs_put}
use Rattle.slice_compat.proofs.answers.Answers.put_structs.Goals as goal

pub returns : goal.returns
returns c = λ t u are right. structs_put t u c.args.self.now are c.args.old c.args.new c.args.yes c.insert.new.self c.in_ok-insert.ensures.updates.0 right
