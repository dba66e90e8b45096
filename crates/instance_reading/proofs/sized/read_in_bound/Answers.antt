use Rattle.instance_reading.proofs.Places.{places_along}
use Rattle.instance_reading.proofs.sized.read_in_bound.Goals as goal

pub returns : goal.returns
returns c = places_along c.args.sort c.args.schema.now c.args.class c.read_places.result c.args.bound.now c.read_places.new.bound _ _ _ _ c.is_odd.ensures c.is_odd-flagged.ensures c.read_places.ensures
