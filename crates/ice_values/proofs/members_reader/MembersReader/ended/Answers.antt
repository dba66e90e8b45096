use Rattle.graph_arena.specs.View.{view_all}
use Rattle.value_parts.specs.Shapes.{handed}
use Rattle.ice_values.proofs.Stages.{required-end}
use Rattle.ice_values.proofs.members_reader.MembersReader.ended.Goals as goal

pub returns-in-Some-clause-ends : goal.returns-in-Some-clause-ends
returns-in-Some-clause-ends g c inside s r =
    let old = c.args.self.now in
    rw c.new.ensures (required-end g.P.RefPort.take c.args.schema.now inside old.optionals (handed c.args.fields) old.required old.options (view_all c.in-Some.required) s r c.in-None-Absent.is-0 c.in-None-Absent.is-1 (rw c.in-Some.is at (c.in_ok-required-in-None-Absent.ensures.ends inside) s r))
