use Rattle.std.proofs.Common.{◌≤◌, ◌-◌, length, arith}
use Rattle.std.proofs.lemmas.Grind.{common_steps}
use Rattle.slice_meaning.proofs.Lookup.{below_entries}
use Rattle.slice_meaning.proofs.Outer.{Steps, one_step, far_step}
use Rattle.slice_meaning.proofs.scopes.Scopes.step.Goals as goal

pub index-entry-requires : goal.index-entry-requires
index-entry-requires c =
    let h : c.args.scope ≤ length c.self.inside.entries.items = below_entries c.self.inside.entries.items c.args.self.now c.args.scope c.self.view_is c.requires.within in
    let b = c.requires.behind in
    grind (arith, common_steps)

one : (c : goal.Then-entry-near) → Steps c.args.self.now c.args.near c.args.scope c.index-entry.result.now.around
one c = one_step c.self.inside.entries.items c.self.inside.numbers c.self.inside.lowered c.args.self.now c.args.near c.args.scope (c.args.scope - 1) c.index-entry.result.now
    c.self.invariant c.self.view_is (let b = c.requires.behind in omega arith) c.requires.within c.index-entry.ensures c.requires.behind

far : (c : goal.Else-entry-near) → Steps c.args.self.now c.args.near c.args.scope c.index-entry.result.now.skip.to
far c = far_step c.self.inside.entries.items c.self.inside.numbers c.self.inside.lowered c.args.self.now c.args.near c.args.scope (c.args.scope - 1) c.index-entry.result.now
    c.self.invariant c.self.view_is (let b = c.requires.behind in omega arith) c.requires.within c.index-entry.ensures c.requires.behind c.if-entry-near.false

pub returns-then-entry-near-clause-less : goal.returns-then-entry-near-clause-less
returns-then-entry-near-clause-less c = (one c).less

pub returns-then-entry-near-clause-same : goal.returns-then-entry-near-clause-same
returns-then-entry-near-clause-same c = (one c).same

pub returns-else-entry-near-clause-less : goal.returns-else-entry-near-clause-less
returns-else-entry-near-clause-less c = (far c).less

pub returns-else-entry-near-clause-same : goal.returns-else-entry-near-clause-same
returns-else-entry-near-clause-same c = (far c).same
