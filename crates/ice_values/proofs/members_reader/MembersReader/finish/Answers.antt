use Rattle.ice_values.proofs.members_reader.MembersReader.finish.Goals as goal

pub returns-in-Ok-Done : goal.returns-in-Ok-Done
returns-in-Ok-Done g c inside = rw c.in-Ok-Done.field-0-is at (c.in-Ok-Done.ensures.goes inside)

pub returns-in-Err : goal.returns-in-Err
returns-in-Err g c inside = c.in-Err.ensures.goes inside
