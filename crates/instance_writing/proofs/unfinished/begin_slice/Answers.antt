use Rattle.std.proofs.Common.{ap}
use Rattle.graph_arena.specs.Seen.{view_slice}
use Rattle.instance_writing.specs.Formats.{view_format}
use Rattle.instance_writing.specs.Sorts.{plain_head}
use Rattle.instance_writing.proofs.Steps.{sliced-begun, sliced-fits, plain-begun, onto-is}
use Rattle.instance_writing.proofs.unfinished.begin_slice.Goals as goal

pub returns-in-Sliced-clause-writes : goal.returns-in-Sliced-clause-writes
returns-in-Sliced-clause-writes c inside =
    sliced-begun c.args.sort c.args.by.now.schema.now inside (view_slice c.args.slice.now) (view_format c.args.by.now.format) c.args.position.is_first c.args.position.is_last c.put_slice.result (c.args.pen.now, c.args.out.now.items) (c.put_slice.new.pen, c.put_slice.new.out.items)
    (ap view_format c.in-Sliced.is) c.put_slice.ensures.entries c.put_slice.ensures.writes

pub returns-in-Sliced-clause-fits : goal.returns-in-Sliced-clause-fits
returns-in-Sliced-clause-fits c = sliced-fits c.args.desk.now.table.count (view_slice c.args.slice.now) c.put_slice.result c.put_slice.new.out.items c.put_slice.ensures.entries c.requires.names

pub returns-in_ok-put_plain_head-in-Compact-clause-writes : goal.returns-in_ok-put_plain_head-in-Compact-clause-writes
returns-in_ok-put_plain_head-in-Compact-clause-writes c inside =
    plain-begun c.args.sort c.args.by.now.schema.now inside (view_slice c.args.slice.now) (view_format c.args.by.now.format) c.args.position.is_first c.args.position.is_last c.open_members.result (c.args.pen.now, c.args.out.now.items) (c.put_plain_head.new.pen, c.put_plain_head.new.out.items)
    (ap view_format c.in-Compact.is)
    (onto-is (plain_head c.args.sort c.args.by.now.schema.now c.args.position.is_first c.args.position.is_last (view_slice c.args.slice.now)) c.args.pen.now c.put_plain_head.new.pen c.args.out.now.items c.put_plain_head.new.out.items c.in_ok-put_plain_head-in-Compact.ensures)
    (c.open_members.ensures.left inside (c.put_plain_head.new.pen, c.put_plain_head.new.out.items))
