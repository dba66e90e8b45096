use Rattle.std.proofs.Common.{map}
use Rattle.instance_writing.specs.Pens.{place_in}
use Rattle.instance_writing.proofs.Ids.{few-ids}
use Rattle.instance_writing.proofs.pen.Pen.find.Goals as goal

pub returns-clause-few : goal.returns-clause-few
returns-clause-few c = few-ids (place_in c.self.inside.places) (map (λ id. id.now) c.self.inside.ids.items) c.args.id.now c.get.result c.self.invariant c.get.ensures
