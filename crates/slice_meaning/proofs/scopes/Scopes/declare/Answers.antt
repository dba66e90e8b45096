use Rattle.std.proofs.Common.{◌≤◌, length, arith}
use Rattle.std.proofs.lemmas.Grind.{common_steps}
use Rattle.std.specs.Prelude.{reverse}
use Rattle.slice_meaning.proofs.Lookup.{below_entries, new_number}
use Rattle.slice_meaning.proofs.scopes.Scopes.declare.Goals as goal

pub next_skip-requires-clause-within : goal.next_skip-requires-clause-within
next_skip-requires-clause-within c =
    let h : c.args.scope ≤ length c.self.inside.entries.items = below_entries c.self.inside.entries.items c.args.self.now c.args.scope c.self.view_is c.requires.within in
    grind (arith, common_steps)

pub put-requires-clause-around : goal.put-requires-clause-around
put-requires-clause-around c = below_entries c.self.inside.entries.items c.args.self.now c.args.scope c.self.view_is c.requires.within

pub put-requires-clause-new : goal.put-requires-clause-new
put-requires-clause-new c = new_number (reverse c.self.inside.entries.items) c.self.inside.numbers c.self.inside.lowered c.args.self.now c.args.scope c.args.name.now c.self.invariant c.self.view_is c.requires.within c.requires.new
