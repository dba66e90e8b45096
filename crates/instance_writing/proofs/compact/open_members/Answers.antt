use Rattle.std.proofs.Common.{ap, sym, ◌∙◌}
use Rattle.ice_encoding.specs.CanonicalGraph.{members_bytes}
use Rattle.graph_arena.specs.declared.instance.Slice as arena
use Rattle.graph_arena.specs.Seen.{view_slice, view_content}
use Rattle.value_writing.specs.Putting.{onto}
use Rattle.value_writing.specs.WritingMembers.{remaining}
use Rattle.value_parts.specs.SlicedType.{rows_of}
use Rattle.instance_writing.specs.declared.open_slice.OpenMembers.{OpenMembers}
use Rattle.instance_writing.specs.Opened.{members_of, refer_to}
use Rattle.instance_writing.proofs.Steps.{members-open}
use Rattle.instance_writing.proofs.compact.open_members.Goals as goal

pub returns-in_ok-new-in-Known-clause-left : goal.returns-in_ok-new-in-Known-clause-left
returns-in_ok-new-in-Known-clause-left c inside w =
    ap (λ (m : OpenMembers). members_of c.args.by.now.schema.now inside m w) c.in_ok-new-in-Known.ensures.ok
    ∙ members-open c.args.sort c.args.by.now.schema.now inside c.in-Known.class (view_content c.in-Known.members) c.own_members-own.result.now (remaining c.in_ok-writer-in-Known.writer) w c.own_members-own.ensures c.in_ok-writer-in-Known.ensures
    ∙ ap (λ (s : arena.Slice). onto (members_bytes (rows_of c.args.sort c.args.by.now.schema.now) (refer_to inside) (view_slice s)) w) (sym c.in-Known.is)
