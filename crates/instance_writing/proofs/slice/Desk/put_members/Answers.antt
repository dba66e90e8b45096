use Rattle.graph_arena.specs.Seen.{view_content}
use Rattle.instance_writing.proofs.Fronts.{nothing_inside, members-put, table-put}
use Rattle.instance_writing.proofs.slice.Desk.put_members.Goals as goal

pub returns-clause-members : goal.returns-clause-members
returns-clause-members c =
    members-put c.args.sort c.args.by.now.schema.now c.args.self.now.table.count c.args.class c.own_members-own.result.now (view_content c.args.members.now) c.args.self.now.table c.write_members.new.port c.clear.new.self.items c.write_members.new.out.items
    c.own_members-own.ensures c.requires.empty c.clear.ensures.items c.requires.names c.requires.places c.write_members.result (c.write_members.ensures.writes nothing_inside)

pub returns-clause-table : goal.returns-clause-table
returns-clause-table c =
    table-put c.args.sort c.args.by.now.schema.now c.args.self.now.table.count c.args.class c.own_members-own.result.now (view_content c.args.members.now) c.args.self.now.table c.write_members.new.port c.clear.new.self.items c.write_members.new.out.items
    c.own_members-own.ensures c.requires.empty c.clear.ensures.items c.requires.names c.requires.places c.write_members.result (c.write_members.ensures.writes nothing_inside)
