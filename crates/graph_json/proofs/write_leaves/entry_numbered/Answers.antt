use Rattle.std.proofs.Common.{[], length, refl}
use Rattle.std.proofs.lemmas.Option.{slice_get_read}
use Rattle.graph_json.proofs.AtNumber.{first_of_number}
use Rattle.graph_json.proofs.write_leaves.entry_numbered.Goals as goal

pub returns : goal.returns
returns c =
    let entries = c.args.entries.now in
    let found = c.in-Some.ensures.lookup in
    let here = slice_get_read entries (length entries) c.likely_place.result c.in-Some.entry.now refl found.3.0 found.1 in
    first_of_number [] entries c.likely_place.result c.args.number c.in-Some.entry.now here c.requires.2.1 c.if-entry-number.true
