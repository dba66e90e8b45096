use Rattle.slice_heads.specs.Seen.{view_references}
use Rattle.graph_arena.specs.Seen.{view_content}
use Rattle.instance_reading.proofs.Reopened.{members_refused, bytes_left, resolves}
use Rattle.instance_reading.proofs.reopening.reopen_members.Goals as goal

pub returns-in-Err : goal.returns-in-Err
returns-in-Err c =
    members_refused c.args.schema.now c.args.class c.args.optionals c.args.table.now c.args.bytes.now _ c.is_there-tabled.ensures _ c.new-bound.ensures c.in-Err.fault c.in-Err.ensures

pub returns-in-Ok-end : goal.returns-in-Ok-end
returns-in-Ok-end c =
    resolves c.args.schema.now c.args.class c.args.optionals c.args.table.now c.args.bytes.now _ c.is_there-tabled.ensures _ c.new-bound.ensures (view_content c.in-Ok.read.members) (view_references c.in-Ok.read.uses.items) c.read_places.new.bound c.in-Ok.ensures.0
    c.in-Ok-end.ensures c.resolve.result c.resolve.ensures

pub returns-in-Err-end : goal.returns-in-Err-end
returns-in-Err-end c =
    bytes_left c.args.schema.now c.args.class c.args.optionals c.args.table.now c.args.bytes.now _ c.is_there-tabled.ensures _ c.new-bound.ensures (view_content c.in-Ok.read.members) (view_references c.in-Ok.read.uses.items) c.read_places.new.bound c.in-Ok.ensures.0
    c.in-Err-end.fault c.in-Err-end.ensures
