use Rattle.std.proofs.Common.{ap}
use Rattle.ice_encoding.specs.CanonicalGraph.{Pen}
use Rattle.instance_writing.proofs.Ids.{full-is}
use Rattle.instance_writing.proofs.pen.Pen.is_full.Goals as goal

pub returns : goal.returns
returns c = full-is c.self.inside.begun c.args.self.now.begun (ap (λ (p : Pen). p.begun) c.self.view_is)
