use Rattle.std.proofs.Common.{rules}
use Rattle.graph_arena.specs.Seen.{view_content}
use Rattle.value_parts.specs.Shapes.{handed}
use Rattle.ice_values.specs.Unread.{left_of_members}
use Rattle.ice_values.proofs.Joined.{goes-along}
use Rattle.ice_values.proofs.Stages.{not-absent, options-begin}
use Rattle.ice_values.proofs.members_reader.MembersReader.go_required.Goals as goal

pub returns-in-Marked : goal.returns-in-Marked
returns-in-Marked g c = record {
  goes = λ inside.
      let old = c.args.self.now in
      let begins = options-begin g.P.RefPort.take c.args.schema.now inside old.optionals (handed c.args.fields) old.required c.go.new.self c.args.port.now c.go.new.port c.args.cursor.now c.go.new.cursor (not-absent old.optionals c.in-Marked.is)
      (rw c.in-Done.is at (c.in_ok-name.ensures.goes inside)) in
      goes-along inside (left_of_members g.P.RefPort.take c.args.schema.now inside (handed c.args.fields) c.go_optional.new.self) view_content c.go_optional.result _ _ c.go_optional.new.port c.go_optional.new.cursor
      begins (rw (c.replace.ensures.after, c.new-options.ensures) at (c.go_optional.ensures.goes inside));
  room = search rules;
}
