use Rattle.std.specs.Prelude.{reverse}
use Rattle.slice_meaning.proofs.Outer.{last_is}
use Rattle.slice_meaning.proofs.scopes.Scopes.nearest.Goals as goal

pub returns : goal.returns
returns c = last_is (reverse c.self.inside.entries.items) c.self.inside.numbers c.self.inside.lowered c.args.self.now c.args.scope c.args.name.now c.nearest.result c.self.invariant c.self.view_is c.requires c.nearest.ensures
