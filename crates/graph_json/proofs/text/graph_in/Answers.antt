use Rattle.std.proofs.Common.{subst, sym, ◌∙◌}
use Rattle.std.proofs.lemmas.Option.{none-some}
use Rattle.graph_json.specs.View.{view as json_view}
use Rattle.ice_encoding.specs.TypedGraph.{OfType}
use Rattle.value_parts.specs.Shapes.{shape_seen}
use Rattle.graph_json.proofs.WalkingValues.{some_is}
use Rattle.graph_json.specs.Listed.{Names, view_listed}
use Rattle.graph_json.proofs.Sound.{can_be_named}
use Rattle.graph_json.proofs.Texts.{ill_typed, not_many, unnamed}
use Rattle.graph_json.proofs.text.graph_in.Goals as goal

pub graph_of-requires : goal.graph_of-requires
graph_of-requires c =
    can_be_named c.args.schema.now (shape_seen c.args.fields) (json_view c.args.json.now) (view_listed c.in-Some.listed) c.rules.ensures c.requires
    (sym (some_is view_listed c.in_ok-listed.field-0 c.in-Some.listed _ c.in-Some.is c.in_ok-listed.ensures))
    (not_many c.lists_too_many.result _ c.lists_too_many.ensures c.if-lists_too_many.false)

pub returns-in_default-2 : goal.returns-in_default-2
returns-in_default-2 c = λ text read.
    let listed = some_is view_listed c.in_ok-listed.field-0 c.in-Some.listed _ c.in-Some.is c.in_ok-listed.ensures in
    let few = not_many c.lists_too_many.result _ c.lists_too_many.ensures c.if-lists_too_many.false in
    let can = can_be_named c.args.schema.now (shape_seen c.args.fields) (json_view c.args.json.now) (view_listed c.in-Some.listed) c.rules.ensures c.requires (sym listed) few in
    unnamed c.args.schema.now (shape_seen c.args.fields) text (json_view c.args.json.now) read.0 read.1 few (view_listed c.in-Some.listed) listed can (subst (Names (view_listed c.in-Some.listed)) c.in_default-2.is c.in_ok-graph.ensures)

pub returns-in-Ok-Some : goal.returns-in-Ok-Some
returns-in-Ok-Some c = λ text read.
    let listed = some_is view_listed c.in_ok-listed.field-0 c.in-Some.listed _ c.in-Some.is c.in_ok-listed.ensures in
    let few = not_many c.lists_too_many.result _ c.lists_too_many.ensures c.if-lists_too_many.false in
    let same = subst (Names (view_listed c.in-Some.listed)) c.in-Some-2.is c.in_ok-graph.ensures in
    ill_typed c.args.schema.now (shape_seen c.args.fields) text (json_view c.args.json.now) read.0 read.1 few (view_listed c.in-Some.listed) listed
    (λ typed. none-some _ (sym (c.in-Ok-Some.ensures.typed.1 (subst (OfType c.args.schema.now (shape_seen c.args.fields)) (sym same) typed)) ∙ c.in-Ok-Some.field-0-is))
