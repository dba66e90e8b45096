use Rattle.std.proofs.Common.{◌≡◌, ◌≤◌, ◌-◌, ℕ, suc, length, arith, ap, ◌∙◌}
use Rattle.std.specs.Prelude.{option_map}
use Rattle.std.proofs.lemmas.Grind.{common_steps}
use Rattle.slice_meaning.specs.Names.{Declared}
use Rattle.slice_meaning.specs.Numbers.{declared_at}
use Rattle.slice_meaning.proofs.Lookup.{IsEntry, entry_at, below_entries}
use Rattle.slice_meaning.proofs.scopes.Scopes.standing.Goals as goal

pub index-requires : goal.index-requires
index-requires c =
    let h : c.args.number ≤ length c.self.inside.entries.items = below_entries c.self.inside.entries.items c.args.self.now c.args.number c.self.view_is c.requires.within in
    grind (arith, common_steps)

pub returns : goal.returns
returns c =
    let next : c.args.number ≡ suc (c.args.number - 1) = omega arith in
    let is : IsEntry c.args.self.now (c.args.number - 1) c.index.result.now =
    entry_at c.self.inside.entries.items c.self.inside.numbers c.self.inside.lowered c.args.self.now c.args.number (c.args.number - 1) c.index.result.now c.self.invariant c.self.view_is next c.requires.within c.index.ensures in
    ap (λ (n : ℕ). option_map (λ (d : Declared). d.standing) (declared_at c.args.self.now n)) next ∙ is.standing
