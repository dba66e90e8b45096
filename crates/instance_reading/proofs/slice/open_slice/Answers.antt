use Rattle.ice_encoding.specs.Flags.{flags_of}
use Rattle.value_parts.specs.SliceIds.{id_of}
use Rattle.instance_reading.proofs.Heads.{opens_known}
use Rattle.instance_reading.proofs.slice.open_slice.Goals as goal

pub returns-in-Some : goal.returns-in-Some
returns-in-Some c =
    rw c.in-Some.is (opens_known c.args.sort c.args.schema.now (flags_of c.args.flags) c.in-Some.class (id_of c.args.id) c.open_known.result c.args.cursor.now c.open_known.new.cursor c.open_known.ensures)
