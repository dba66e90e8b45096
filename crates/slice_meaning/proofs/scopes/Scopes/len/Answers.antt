use Rattle.std.proofs.Common.{◌≡◌, length, arith}
use Rattle.std.proofs.lemmas.Grind.{common_steps}
use Rattle.slice_meaning.proofs.Lookup.{all_entries}
use Rattle.slice_meaning.proofs.scopes.Scopes.len.Goals as goal

pub returns : goal.returns
returns c =
    let h : length c.self.inside.entries.items ≡ length c.args.self.now = all_entries c.self.inside.entries.items c.args.self.now c.self.view_is in
    grind (arith, common_steps)
