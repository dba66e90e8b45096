use Rattle.std.proofs.Common.{arith, length, refl, sym, ◌∙◌}
use Rattle.std.proofs.lemmas.Option.{slice_get_read}
use Rattle.graph_json.proofs.Halving.{absent, there, other}
use Rattle.graph_json.proofs.found.halved.Goals as goal

pub returns-in_default : goal.returns-in_default
returns-in_default c = absent c.args.name c.args.entries.now c.requires c.place_of.result c.place_of.ensures (grind arith)

pub returns-then-eq : goal.returns-then-eq
returns-then-eq c =
    let entries = c.args.entries.now in
    let found = c.in-Some.ensures.lookup in
    let here = slice_get_read entries (length entries) c.place_of.result c.in-Some.entry.now refl found.3.0 found.1 in
    there entries c.requires c.place_of.result c.in-Some.entry.now c.args.name.now here (sym c.eq.ensures ∙ c.if-eq.true)

pub returns-else-eq : goal.returns-else-eq
returns-else-eq c =
    let entries = c.args.entries.now in
    let found = c.in-Some.ensures.lookup in
    let here = slice_get_read entries (length entries) c.place_of.result c.in-Some.entry.now refl found.3.0 found.1 in
    other c.args.name entries c.requires c.place_of.result c.place_of.ensures c.in-Some.entry.now here (sym c.eq.ensures ∙ c.if-eq.false)
