use Rattle.slice_meaning.specs.Numbers.{scope_at}
use Rattle.slice_meaning.proofs.Lookup.{first_outer}
use Rattle.slice_meaning.proofs.scopes.Scopes.first.Goals as goal

pub returns-then-outer : goal.returns-then-outer
returns-then-outer c = first_outer c.args.self.now (scope_at c.args.self.now c.args.scope) c.args.name.now c.in_scope.result c.args.outer c.if-outer.true c.in_scope.ensures.number
