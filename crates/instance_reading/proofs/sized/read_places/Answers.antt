use Rattle.std.proofs.Common.{sym, refl}
use Rattle.instance_reading.proofs.Places.{places_along}
use Rattle.instance_reading.proofs.sized.read_places.Goals as goal

pub returns-then-tabled : goal.returns-then-tabled
returns-then-tabled c = places_along c.args.sort c.args.schema.now c.args.class c.read_tabled.result c.args.bound.now c.read_tabled.new.bound _ _ _ _ (sym c.if-tabled.true) refl c.read_tabled.ensures

pub returns-else-tabled : goal.returns-else-tabled
returns-else-tabled c = places_along c.args.sort c.args.schema.now c.args.class c.read_untabled.result c.args.bound.now c.read_untabled.new.bound _ _ _ _ (sym c.if-tabled.false) refl c.read_untabled.ensures
