use Rattle.std.proofs.Common.{refl}
use Rattle.std.proofs.lemmas.Result.{on_ok_weaker}
use Rattle.graph_json.proofs.Printing.{added, array_printed, member_printed, members_ended, object_printed, wrote}
use Rattle.graph_json.proofs.writing.write_graph.Goals as goal

pub returns : goal.returns
returns c =
    let begin = wrote c.begin_object.result c.in_ok-begin_object.field-0 c.in_ok-begin_object.was c.begin_object.ensures in
    let first = wrote c.key.result c.in_ok-key.field-0 c.in_ok-key.was c.key.ensures in
    let second = wrote c.key-2.result c.in_ok-key-2.field-0 c.in_ok-key-2.was c.key-2.ensures in
    let list = array_printed (wrote c.begin_array.result c.in_ok-begin_array.field-0 c.in_ok-begin_array.was c.begin_array.ensures) c.in_ok-write_instances.ensures in
    let whole = on_ok_weaker c.end_object.result (λ end.
    object_printed ((refl, tt), (tt, tt)) begin (member_printed first list (member_printed second c.in_ok-write_content.ensures (members_ended end))))
    (added c.end_object.result c.end_object.ensures) in
    rw (← c.roots.ensures.roots) whole
