use Rattle.std.proofs.lemmas.Result.{on_ok_weaker}
use Rattle.ice_values.proofs.Frames.{each-given}
use Rattle.ice_values.proofs.frame.Frame.give.Goals as goal

pub returns-in-Each : goal.returns-in-Each
returns-in-Each c = on_ok_weaker c.push.result (λ e. each-given c.args.self.now.levels c.args.self.now.parts c.in-Each.each c.push.new.self c.args.value c.in-Each.is e) c.push.ensures.ok
