use Rattle.std.specs.Prelude.{reverse}
use Rattle.slice_meaning.specs.Names.{declared_in}
use Rattle.slice_meaning.specs.Numbers.{scope_at, IsNumber}
use Rattle.slice_meaning.proofs.Lookup.{found_number, found_inside, found_taken}
use Rattle.slice_meaning.proofs.scopes.Scopes.in_scope.Goals as goal

number : (c : goal.After-get) → IsNumber c.args.self.now c.get.result (declared_in c.args.self.now c.args.name.now (scope_at c.args.self.now c.args.scope))
number c = found_number (reverse c.self.inside.entries.items) c.self.inside.numbers c.self.inside.lowered c.args.self.now c.args.scope c.args.name.now c.get.result c.self.invariant c.self.view_is c.requires c.get.ensures

pub returns-clause-number : goal.returns-clause-number
returns-clause-number c = number c

pub returns-clause-inside : goal.returns-clause-inside
returns-clause-inside c = found_inside c.args.self.now c.args.name.now (scope_at c.args.self.now c.args.scope) c.get.result (number c)

pub returns-clause-taken : goal.returns-clause-taken
returns-clause-taken c = found_taken c.args.self.now c.args.name.now (scope_at c.args.self.now c.args.scope) c.get.result (number c)
