use Rattle.ice_types.specs.Ids.{class_in, room_in, row_in}
use Rattle.ice_types.proofs.NoRows.{held_nothing, numbered_nothing}
use Rattle.ice_types.proofs.schema.Schema.new.Goals as goal

pub invariant_of-result : goal.invariant_of-result
invariant_of-result c = (
  rw (c.new.ensures.tables, c.new.ensures.beside) (held_nothing (row_in c.new-2.result) c.new-2.ensures),
  rw c.new.ensures.tables (numbered_nothing (class_in c.new-3.result) (room_in c.new-3.result) c.new-3.ensures),
)
