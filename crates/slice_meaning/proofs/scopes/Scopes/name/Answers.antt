use Rattle.std.proofs.Common.{◌≡◌, ◌≤◌, ◌-◌, suc, length, arith, ap, ◌∙◌}
use Rattle.std.proofs.lemmas.Grind.{common_steps}
use Rattle.slice_meaning.specs.Numbers.{scope_at}
use Rattle.slice_meaning.proofs.Lookup.{IsEntry, entry_at, below_entries}
use Rattle.slice_meaning.proofs.scopes.Scopes.name.Goals as goal

pub index-requires : goal.index-requires
index-requires c =
    let h : c.args.number ≤ length c.self.inside.entries.items = below_entries c.self.inside.entries.items c.args.self.now c.args.number c.self.view_is c.requires.within in
    grind (arith, common_steps)

pub returns : goal.returns
returns c =
    let next : c.args.number ≡ suc (c.args.number - 1) = omega arith in
    let is : IsEntry c.args.self.now (c.args.number - 1) c.index.result.now =
    entry_at c.self.inside.entries.items c.self.inside.numbers c.self.inside.lowered c.args.self.now c.args.number (c.args.number - 1) c.index.result.now c.self.invariant c.self.view_is next c.requires.within c.index.ensures in
    (scope_at c.args.self.now c.index.result.now.around, ap (scope_at c.args.self.now) next ∙ is.scope)
