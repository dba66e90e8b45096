use Rattle.std.proofs.Common.{[], ◌≡◌, refl, sym, ◌∙◌}
use Rattle.std.proofs.lemmas.Slice.Eq.{bytes_eq-Decides}
use Rattle.graph_json.proofs.Names.{are_apart, entry_names, named_only}
use Rattle.graph_json.proofs.enum_names.number_named.Goals as goal

pub returns : goal.returns
returns c =
    let entries = c.args.entries.now in
    let entry = c.in-Some.entry.now in
    let name = c.args.name.now in
    let found = c.in-Some.ensures.lookup in
    let is : entry.name ≡ name = sym c.as_str.ensures ∙ (bytes_eq-Decides c.as_str.result.now name).0 (sym c.eq.ensures ∙ c.if-eq.true) in
    sym (named_only name entry.number entries (are_apart [] (entry_names entries) c.requires.1) (c.likely_place.result, entry, found.3.0, sym found.1, (is, refl)))
