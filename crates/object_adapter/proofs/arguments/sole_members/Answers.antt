use Rattle.std.proofs.Common.{ap, ◌∙◌}
use Rattle.ice_encoding.specs.OptionalMembers.{Members}
use Rattle.graph_arena.specs.View.{view_all}
use Rattle.object_adapter.proofs.Sole.{no_sole_members}
use Rattle.object_adapter.proofs.arguments.sole_members.Goals as goal

pub returns-in-len2-up : goal.returns-in-len2-up
returns-in-len2-up c =
    no_sole_members c.as_slice.result.now c.args.arguments.now.roots.required c.in-len2-up.len_at_least
    (ap view_all c.as_slice.ensures ∙ ap (λ (m : Members). m.required) c.roots.ensures.roots)
