use Rattle.std.proofs.Common.{◌<◌, ◌^◌, sym}
use Rattle.ice_types.specs.declared.schema.TheConstants.{MOST_DEPTH}
use Rattle.ice_encoding.specs.Typed.{HasType}
use Rattle.ice_encoding.specs.Optionals.{kind_tagged}
use Rattle.ice_encoding.specs.TypedGraph.{RefersIn}
use Rattle.graph_arena.specs.View.{view}
use Rattle.value_parts.specs.Shapes.{with_tag}
use Rattle.value_checks.proofs.Membered.{option_told}
use Rattle.value_checks.proofs.members.is_option.Goals as goal

pub returns-then-is_size : goal.returns-then-is_size
returns-then-is_size c =
    option_told (λ k. HasType c.args.schema.now (RefersIn c.args.schema.now c.args.graph.now.instances) MOST_DEPTH k (view c.args.value.now)) (c.args.tag < 2 ^ 31)
    (kind_tagged c.args.tag (with_tag c.args.members.now)) c.in-Some.kind c.has_type.result (sym c.in-Some.ensures.among_tagged) (c.is_size.ensures.0 c.if-is_size.true) c.has_type.ensures
